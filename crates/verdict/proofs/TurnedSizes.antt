-- Turned sizes are the sizes, each at its turned cell, and may stand on the turned puzzle.
-- Assumes nothing.
use Prim.Native.Nat.{ℕ, zero, suc, ◌≤◌, ◌<◌}
use native.Mathlib.Omega.{arith}
use mathlib.Core.Logic.{◌↔◌}
use mathlib.Core.Path.{◌≡◌, refl, sym, ap, ◌∙◌, subst}
use mathlib.Core.Bool.{Bool, true, false, cond}
use mathlib.Core.List.Memᴰ
use mathlib.Core.List.{List, [], ◌∷◌, ◌++◌, map, Memᴰ}
use lib.Dec.{eqb}
use borrow.Author.Tests.{eqb-true, eq-eqb}
use Rattle.grid.specs.Lists.{Distinct, Rising, nil, cons, range, upto, filter, flat_map}
use Rattle.grid.specs.Grid.{Grid, size, cells_of}
use Rattle.grid.proofs.ListLaws.{filter-mem, mem-filter, flat_map-mem, mem-flat_map, mem-upto, range-mem}
use Rattle.record.specs.Record.{Puzzle}
use Rattle.record.specs.Valid.{ValidArrows}
use Rattle.record.specs.Leaf.{Range}
use Rattle.record.specs.Sizes.{sized_cells, Proper, GoodSizes, numbers_of, Words}
use Rattle.turn.specs.Turn.{Turn, turned_by}
use Rattle.turn.proofs.TurnLaws.{Turns, Sides-size}
use Rattle.verdict.specs.Isomorphism.{range_to}
use Rattle.verdict.specs.Turned.{by_cell, sizes_to}

-- a range as numbers
abbrev three_of : Range → List ℕ
three_of r = r.cell ∷ r.lowest ∷ r.highest ∷ []

-- the range is beside the cell c
abbrev beside : ℕ → Range → Bool
beside c r = eqb r.cell c

-- ---- the same ranges

pub by_cell_same : (g : Grid) (sizes : List Range) → ((r : Range) → Memᴰ r sizes → r.cell < size g) → (r : Range) → Memᴰ r (by_cell g sizes) ↔ Memᴰ r sizes
unfolding by_cell cells_of
by_cell_same g sizes low r = (
  λ m. let w = flat_map-mem (λ c. filter (beside c) sizes) (upto (size g)) m in (filter-mem (beside w.0) sizes w.2).0,
  λ m. mem-flat_map (λ c. filter (beside c) sizes) (upto (size g)) (mem-upto (size g) (low r m)) (mem-filter (beside r.cell) sizes m (eq-eqb r.cell r.cell refl)),
)

-- no ranges
none_listed : (l : List ℕ) → flat_map (λ c. filter (beside c) []) l ≡ []
none_listed [] = refl
none_listed (c ∷ l) = none_listed l

pub by_cell_none : (g : Grid) → by_cell g [] ≡ []
unfolding by_cell
by_cell_none g = none_listed (cells_of g)

-- ---- rising, where no cell has two

-- no range, or one
data AtMostOne (c : ℕ) : List Range → Type 0 where
  nothing : AtMostOne c []
  single : (r : Range) → r.cell ≡ c → AtMostOne c (r ∷ [])

none_beside : (c : ℕ) (sizes : List Range) → (¬ Memᴰ c (sized_cells sizes)) → filter (beside c) sizes ≡ []
none_beside c [] n = refl
none_beside c (r ∷ sizes) n = go (eqb r.cell c) refl (none_beside c sizes (λ m. n (Memᴰ.tail m)))
  where
    go : (t : Bool) → eqb r.cell c ≡ t → filter (beside c) sizes ≡ [] → cond t (r ∷ filter (beside c) sizes) (filter (beside c) sizes) ≡ []
    go true e ih = absurd (n (Memᴰ.head (sym (eqb-true r.cell c e))))
    go false e ih = ih

one_beside : (c : ℕ) (sizes : List Range) → Distinct (sized_cells sizes) → AtMostOne c (filter (beside c) sizes)
one_beside c [] d = nothing
one_beside c (r ∷ sizes) (n, d) = go (eqb r.cell c) refl (one_beside c sizes d)
  where
    go : (t : Bool) → eqb r.cell c ≡ t → AtMostOne c (filter (beside c) sizes) → AtMostOne c (cond t (r ∷ filter (beside c) sizes) (filter (beside c) sizes))
    go true e ih =
        let z = eqb-true r.cell c e in
        rw (none_beside c sizes (λ m. n (subst (λ x. Memᴰ x (sized_cells sizes)) (sym z) m))) (single r z)
    go false e ih = ih

-- the ranges beside the cells from a on
from_Rising : (sizes : List Range) → Distinct (sized_cells sizes) → (a k : ℕ) → Rising (sized_cells (flat_map (λ c. filter (beside c) sizes) (range a k)))
unfolding range
from_Rising sizes d a zero = nil
from_Rising sizes d a (suc k) = go (filter (beside a) sizes) (one_beside a sizes d) (from_Rising sizes d (suc a) k)
  where
    later : List Range
    later = flat_map (λ c. filter (beside c) sizes) (range (suc a) k)

    above : (y : ℕ) → Memᴰ y (sized_cells later) → a < y
    above y m =
        let (r, n, e) = Memᴰ.of_map (λ (r : Range). r.cell) later m in
        let (c, b, f) = flat_map-mem (λ c. filter (beside c) sizes) (range (suc a) k) n in
        omega (arith, e, (range-mem (suc a) k b).0, eqb-true r.cell c (filter-mem (beside c) sizes f).1)

    go : (l : List Range) → AtMostOne a l → Rising (sized_cells later) → Rising (sized_cells (l ++ later))
    go _ nothing ih = ih
    go _ (single r e) ih = cons {x = r.cell} {xs = sized_cells later} (λ y m. omega (arith, e, above y m)) ih

by_cell-Rising : (g : Grid) (sizes : List Range) → Distinct (sized_cells sizes) → Rising (sized_cells (by_cell g sizes))
unfolding by_cell cells_of upto
by_cell-Rising g sizes d = from_Rising sizes d 0 (size g)

-- ---- turned

module _ {g : Grid} {m : Turn} (t : Turns g m) where
  -- rising sizes have each cell once, and so have turned ones
  turned_Distinct : (sizes : List Range) → Rising (sized_cells sizes) → ((r : Range) → Memᴰ r sizes → r.cell < size g) → Distinct (sized_cells (map (range_to m.to) sizes))
  turned_Distinct [] k low = tt
  turned_Distinct (r ∷ sizes) (cons h k) low = (apart, turned_Distinct sizes k (λ x n. low x (Memᴰ.tail n)))
    where
      apart : ¬ Memᴰ (m.to r.cell) (sized_cells (map (range_to m.to) sizes))
      apart n =
          let (x, o, e) = Memᴰ.of_map (λ (r : Range). r.cell) (map (range_to m.to) sizes) n in
          let (y, q, d) = Memᴰ.of_map (range_to m.to) sizes o in
          let z = t.embeds.inj y.cell r.cell (low y (Memᴰ.tail q)) (low r (Memᴰ.head refl)) (ap (λ (r : Range). r.cell) d ∙ e) in
          omega (arith, z, h y.cell (Memᴰ.map (λ (r : Range). r.cell) q))

module _ {p : Puzzle} {m : Turn} (t : Turns p.grid m) (lines : ValidArrows p.grid p.arrows) {sizes : List Range} (good : GoodSizes p sizes) where
  sized< : (r : Range) → Memᴰ r sizes → r.cell < size p.grid
  sized< r k = let (a, b, c) = (good.each r k).on in lines.on a b r.cell c

  turned< : (r : Range) → Memᴰ r (map (range_to m.to) sizes) → r.cell < size m.grid
  turned< r k =
      let (x, n, e) = Memᴰ.of_map (range_to m.to) sizes k in
      subst (λ (y : Range). y.cell < size m.grid) e (t.embeds.into x.cell (sized< x n))

  -- the turned sizes are the sizes at their turned cells
  pub sizes_same : (r : Range) → Memᴰ r (sizes_to m sizes) ↔ Memᴰ r (map (range_to m.to) sizes)
  sizes_same = by_cell_same m.grid (map (range_to m.to) sizes) turned<

  -- and may stand
  pub sizes_good : GoodSizes (turned_by m p) (sizes_to m sizes)
  sizes_good = record {
    rising = by_cell-Rising m.grid (map (range_to m.to) sizes) (turned_Distinct t sizes good.rising sized<);
    each = λ r k.
        let (x, n, e) = Memᴰ.of_map (range_to m.to) sizes ((sizes_same r).0 k) in
        let w = good.each x n in
        let (a, b, c) = w.on in
        subst (Proper (map (map m.to) p.arrows)) e (record { on = (map m.to a, Memᴰ.map (map m.to) b, Memᴰ.map m.to c); least = w.least; order = w.order });
  }

  -- as numbers they fit 16 bits, if the sizes did
  pub sizes_Words : size p.grid ≤ 1024 → Words (numbers_of sizes) → Words (numbers_of (sizes_to m sizes))
  unfolding numbers_of
  sizes_Words few low x k =
      let (r, n, i) = flat_map-mem three_of (sizes_to m sizes) k in
      let (o, q, e) = Memᴰ.of_map (range_to m.to) sizes ((sizes_same r).0 n) in
      go o q (subst (λ (z : Range). Memᴰ x (three_of z)) (sym e) i)
    where
      go : (o : Range) → Memᴰ o sizes → Memᴰ x (three_of (range_to m.to o)) → x < 65536
      go o q (Memᴰ.head z) = omega (arith, z, few, t.embeds.into o.cell (sized< o q), Sides-size p.grid m.grid t.sides)
      go o q (Memᴰ.tail w) = low x (mem-flat_map three_of sizes q (Memᴰ.tail w))
