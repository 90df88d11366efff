-- The sizes that slices keep may stand.
-- Assumes nothing.
use Prim.Native.Nat.{ℕ, zero, suc, ◌≤◌, ◌<◌}
use native.Mathlib.Omega.{arith}
use mathlib.Core.Path.{◌≡◌, refl, sym, subst}
use mathlib.Core.Bool.{Bool, true, false, cond}
use mathlib.Core.List.Memᴰ
use mathlib.Core.List.{List, [], ◌∷◌, ◌++◌, Memᴰ}
use lib.Dec.{eqb}
use lib.ListN.{length, get_or}
use borrow.Author.Tests.{eqb-false}
use Rattle.grid.specs.Lists.{range, upto, flat_map, Rising, nil, cons}
use Rattle.grid.proofs.ListLaws.{flat_map-mem, range-mem}
use Rattle.record.specs.Record.{Puzzle}
use Rattle.record.specs.Leaf.{Range}
use Rattle.record.specs.Sizes.{sized_cells, Proper, GoodSizes, kept_at, kept_by, kept_ranges}
use Rattle.groups.proofs.ArrowLaws.{arrow_So}
use Rattle.sized.specs.Inside.{range_in}
use Rattle.sizes.specs.Lent.{SizesOn}

module _ (lows highs : List ℕ) where
  abbrev at : ℕ → List Range
  at = kept_at (λ i. get_or lows i 0) (λ i. get_or highs i 0)

  -- the range of a cell, where its lowest size is not 0
  at-mem : (i : ℕ) (r : Range) → Memᴰ r (at i) → (r ≡ range_in lows highs i) × (get_or lows i 0 ≡ 0 → ⊥)
  unfolding kept_at
  at-mem i r m = go (eqb (get_or lows i 0) 0) refl m
    where
      go : (t : Bool) → eqb (get_or lows i 0) 0 ≡ t → Memᴰ r (cond t [] (range_in lows highs i ∷ [])) → (r ≡ range_in lows highs i) × (get_or lows i 0 ≡ 0 → ⊥)
      go true e k = absurd (Memᴰ.not-nil k)
      go false e k = (Memᴰ.eq_of_singleton k, eqb-false (get_or lows i 0) 0 e)

  -- the cells of the ranges from a on rise, and none is below a
  not_below : (k a x : ℕ) → Memᴰ x (sized_cells (flat_map at (range a k))) → a ≤ x
  not_below k a x m =
      let u = Memᴰ.of_map (λ (q : Range). q.cell) (flat_map at (range a k)) m in
      let w = flat_map-mem at (range a k) u.1 in
      subst (λ z. a ≤ z) u.2 (subst (λ (z : Range). a ≤ z.cell) (sym (at-mem w.0 u.0 w.2).0) (range-mem a k w.1).0)

  rises : (k a : ℕ) → Rising (sized_cells (flat_map at (range a k)))
  unfolding range kept_at
  rises zero a = nil
  rises (suc k) a = go (eqb (get_or lows a 0) 0) (rises k (suc a))
    where
      go : (t : Bool) → Rising (sized_cells (flat_map at (range (suc a) k))) → Rising (sized_cells (cond t [] (range_in lows highs a ∷ []) ++ flat_map at (range (suc a) k)))
      go true up = up
      go false up = cons {x = a} (λ y m. behind y (not_below k (suc a) y m)) up
        where
          behind : (y : ℕ) → suc a ≤ y → a < y
          behind y l = omega arith

-- sizes on a board may stand on its puzzle
pub kept_good : (p : Puzzle) (n : ℕ) (lows highs : List ℕ) → SizesOn n p.arrows lows highs → GoodSizes p (kept_ranges lows highs (length lows))
unfolding kept_by upto
kept_good p n lows highs s = record { rising = rises lows highs (length lows) 0; each = each }
  where
    each : (r : Range) → Memᴰ r (flat_map (at lows highs) (range 0 (length lows))) → Proper p.arrows r
    each r m =
        let w = flat_map-mem (at lows highs) (range 0 (length lows)) m in
        let k = at-mem lows highs w.0 r w.2 in
        let l : w.0 < length lows = omega (arith, (range-mem 0 (length lows) w.1).1) in
        subst (Proper p.arrows) (sym k.0)
        (record { on = arrow_So p.arrows w.0 (s.are_on_arrow w.0 l k.1); least = omega (arith, k.1); order = s.order w.0 l })
