-- Sizes kept by cell: one more range in the arrays, and the sizes that were taken are kept by them.
-- Assumes nothing.
use Prim.Native.Nat.{ℕ, zero, suc, ◌+◌, ◌≤◌, ◌<◌}
use native.Mathlib.Omega.{arith}
use native.Mathlib.Decide.{ℕ_discrete}
use mathlib.Core.Path.{◌≡◌, refl, sym, ap, ◌∙◌, subst}
use mathlib.Core.Bool.{true, cond}
use mathlib.Core.List.Memᴰ
use mathlib.Core.List.{List, [], ◌∷◌, ◌++◌, Memᴰ}
use lib.Dec.{eqb}
use lib.ListN.{length, get_or, set, replicate, length-set}
use lib.Seq.{ext_get_or, get_or-set_same, get_or-set_other}
use borrow.Author.Tests.{eq-eqb, ne_eqb}
use Rattle.grid.specs.Lists.{range, upto, flat_map, Rising, cons}
use Rattle.grid.specs.Grid.{size}
use Rattle.grid.proofs.ListLaws.{range-mem, upto-mem, length-map-upto, map-upto_at}
use Rattle.grid.proofs.AppendLaws.{by_eq, flat_map_agree}
use Rattle.grid.proofs.FilledLaws.{filled_none, filled_is}
use Rattle.record.specs.Record.{Puzzle}
use Rattle.record.specs.Valid.{ValidArrows}
use Rattle.record.specs.Leaf.{Range, range_at}
use Rattle.record.specs.Sizes.{sized_cells, GoodSizes, kept_at, kept_by, kept_ranges}
use Rattle.sizes.specs.Kept.{size_at, size_array, lowest_of, highest_of}

-- no range has the cell i
abbrev pub NotAt : List Range → ℕ → Type 0
NotAt rs i = (r : Range) → Memᴰ r rs → ¬ (r.cell ≡ i)

module _ (end : Range → ℕ) where
  -- a cell that no range has
  pub size_none : (rs : List Range) (i : ℕ) → NotAt rs i → size_at end rs i ≡ 0
  unfolding size_at
  size_none [] i h = refl
  size_none (r ∷ rs) i h = rw (ne_eqb r.cell i (h r (Memᴰ.head refl))) (size_none rs i (λ q m. h q (Memᴰ.tail m)))

  -- one range more, at a cell that has none
  size_more : (rs : List Range) (r : Range) (i : ℕ) → NotAt rs r.cell → size_at end (rs ++ (r ∷ [])) i ≡ cond (eqb r.cell i) (end r) (size_at end rs i)
  unfolding size_at
  size_more [] r i h = refl
  size_more (q ∷ rs) r i h = by_eq q.cell i hit (λ n. rw (ne_eqb q.cell i n) (size_more rs r i (λ x m. h x (Memᴰ.tail m))))
    where
      hit : q.cell ≡ i → cond (eqb q.cell i) (end q) (size_at end (rs ++ (r ∷ [])) i) ≡ cond (eqb r.cell i) (end r) (cond (eqb q.cell i) (end q) (size_at end rs i))
      hit e = rw (eq-eqb q.cell i e, ne_eqb r.cell i (λ z. h q (Memᴰ.head refl) (e ∙ sym z))) refl

  -- an entry of the array, and how many there are
  pub array_at : (rs : List Range) (i : ℕ) → i < 1024 → get_or (size_array end rs) i 0 ≡ size_at end rs i
  unfolding size_array
  array_at rs i h = map-upto_at (size_at end rs) 1024 i 0 h

  pub array_long : (rs : List Range) → length (size_array end rs) ≡ 1024
  unfolding size_array
  array_long rs = length-map-upto (size_at end rs) 1024

  -- the array of no range
  pub array_none : replicate 1024 0 ≡ size_array end []
  array_none =
      filled_none 0 (λ i. 0) ∙ sym (filled_is 0 (λ i. 0) 0 (size_array end []) (omega arith) (array_long []) (λ i h. absurd (omega arith)) (λ i _ h. array_at [] i h ∙ unfold size_at in refl))

  -- the array with one range more
  pub array_put : (rs : List Range) (r : Range) → r.cell < 1024 → NotAt rs r.cell → set (size_array end rs) r.cell (end r) ≡ size_array end (rs ++ (r ∷ []))
  array_put rs r h n =
      ext_get_or 0 (set (size_array end rs) r.cell (end r)) (size_array end (rs ++ (r ∷ []))) (length-set (size_array end rs) r.cell (end r) ∙ array_long rs ∙ sym (array_long (rs ++ (r ∷ [])))) each
    where
      each : (i : ℕ) → i < length (set (size_array end rs) r.cell (end r)) → get_or (set (size_array end rs) r.cell (end r)) i 0 ≡ get_or (size_array end (rs ++ (r ∷ []))) i 0
      each i k =
          let l : i < 1024 = omega (arith, length-set (size_array end rs) r.cell (end r), array_long rs) in
          go (ℕ_discrete i r.cell) l ∙ sym (array_at (rs ++ (r ∷ [])) i l ∙ size_more rs r i n)
        where
          go : Dec (i ≡ r.cell) → i < 1024 → get_or (set (size_array end rs) r.cell (end r)) i 0 ≡ cond (eqb r.cell i) (end r) (size_at end rs i)
          go (yes e) l = rw (e, eq-eqb r.cell r.cell refl) (get_or-set_same (size_array end rs) r.cell (end r) 0 (omega (arith, array_long rs)))
          go (no z) l = rw (get_or-set_other (size_array end rs) r.cell i (end r) 0 z, ne_eqb r.cell i (λ y. z (sym y))) (array_at rs i l)

-- ---- the ranges that are kept

-- nothing is kept at a cell whose lowest size is 0, and a range where it is not
pub kept_none : (low high : ℕ → ℕ) (i : ℕ) → low i ≡ 0 → kept_at low high i ≡ []
unfolding kept_at
kept_none low high i e = rw (eq-eqb (low i) 0 e) refl

pub kept_some : (low high : ℕ → ℕ) (i : ℕ) → 1 ≤ low i → kept_at low high i ≡ range_at i (low i) (high i) ∷ []
unfolding kept_at
kept_some low high i h = rw (ne_eqb (low i) 0 (λ z. omega arith)) refl

-- the lowest and the highest size of a cell
abbrev low : List Range → ℕ → ℕ
low = size_at (λ (r : Range). r.lowest)

abbrev high : List Range → ℕ → ℕ
high = size_at (λ (r : Range). r.highest)

-- the ranges from a to a + k
kept_from : (k a : ℕ) (rs : List Range) → Rising (sized_cells rs) → ((r : Range) → Memᴰ r rs → (1 ≤ r.lowest) × (a ≤ r.cell) × (r.cell < a + k))
    → flat_map (kept_at (low rs) (high rs)) (range a k) ≡ rs
unfolding range size_at kept_at
kept_from zero a [] up h = refl
kept_from zero a (r ∷ rs) up h = absurd (let w = h r (Memᴰ.head refl) in omega (arith, w.1, w.2))
kept_from (suc k) a [] up h =
    rw (kept_none (low []) (high []) a refl) (kept_from k (suc a) [] up (λ r m. absurd (Memᴰ.not-nil m)))
kept_from (suc k) a (r ∷ rs) (cons later up) h = go (ℕ_discrete r.cell a) (λ u. kept_from k (suc a) rs up u) (λ u. kept_from k (suc a) (r ∷ rs) (cons later up) u)
  where
    lo : ℕ → ℕ
    lo = low (r ∷ rs)

    hi : ℕ → ℕ
    hi = high (r ∷ rs)

    behind : (x : Range) → Memᴰ x rs → r.cell < x.cell
    behind x m = later x.cell (Memᴰ.map (λ (q : Range). q.cell) m)

    Within : List Range → Type 0
    Within l = (x : Range) → Memᴰ x l → (1 ≤ x.lowest) × (suc a ≤ x.cell) × (x.cell < suc a + k)

    go : Dec (r.cell ≡ a) → (Within rs → flat_map (kept_at (low rs) (high rs)) (range (suc a) k) ≡ rs)
        → (Within (r ∷ rs) → flat_map (kept_at lo hi) (range (suc a) k) ≡ r ∷ rs)
        → kept_at lo hi a ++ flat_map (kept_at lo hi) (range (suc a) k) ≡ r ∷ rs
    go (yes e) one two =
        let hit : eqb r.cell a ≡ true = eq-eqb r.cell a e in
        let l : lo a ≡ r.lowest = rw hit refl in
        let u : hi a ≡ r.highest = rw hit refl in
        let first : kept_at lo hi a ≡ r ∷ [] =
        kept_some lo hi a (omega (arith, l, (h r (Memᴰ.head refl)).0)) ∙ ap (λ (x : Range). x ∷ []) (λ i. record { cell = sym e i; lowest = l i; highest = u i }) in
        let rest : flat_map (kept_at lo hi) (range (suc a) k) ≡ flat_map (kept_at (low rs) (high rs)) (range (suc a) k) =
        flat_map_agree (kept_at lo hi) (kept_at (low rs) (high rs)) (range (suc a) k) (λ x m. miss x (range-mem (suc a) k m).0) in
        rw (first, rest) (ap (λ (x : List Range). r ∷ x) (one (λ x m. let w = h x (Memᴰ.tail m) in (w.0, omega (arith, behind x m, e), omega (arith, w.2)))))
      where
        miss : (x : ℕ) → suc a ≤ x → kept_at lo hi x ≡ kept_at (low rs) (high rs) x
        miss x l = rw (ne_eqb r.cell x (λ z. omega (arith, e))) refl
    go (no ne) one two =
        let first : kept_at lo hi a ≡ [] = kept_none lo hi a (size_none (λ (q : Range). q.lowest) (r ∷ rs) a other) in
        rw first (two (λ x m. let w = h x m in (w.0, above x m, omega (arith, w.2))))
      where
        above : (x : Range) → Memᴰ x (r ∷ rs) → suc a ≤ x.cell
        above x (Memᴰ.head z) = let w = h r (Memᴰ.head refl) in subst (λ (q : Range). suc a ≤ q.cell) (sym z) (omega (arith, w.1, ne))
        above x (Memᴰ.tail m) = let w = h r (Memᴰ.head refl) in omega (arith, w.1, behind x m)

        other : NotAt (r ∷ rs) a
        other x m z = omega (arith, above x m)

-- sizes that may stand are kept by their arrays
pub kept_sizes : (p : Puzzle) → ValidArrows p.grid p.arrows → (rs : List Range) → GoodSizes p rs → (n : ℕ) → size p.grid ≤ n → n ≤ 1024
    → kept_ranges (lowest_of rs) (highest_of rs) n ≡ rs
unfolding kept_by upto
kept_sizes p v rs g n le small =
    flat_map_agree (kept_at (λ i. get_or (lowest_of rs) i 0) (λ i. get_or (highest_of rs) i 0)) (kept_at (low rs) (high rs)) (range 0 n) (λ i m. same i (omega (arith, upto-mem n m)))
    ∙ kept_from n 0 rs g.rising (λ r m.
    let w = g.each r m in
    let (l, ml, mx) = w.on in
    (w.least, omega arith, omega (arith, v.on l ml r.cell mx, le)))
  where
    same : (i : ℕ) → i < 1024 → kept_at (λ j. get_or (lowest_of rs) j 0) (λ j. get_or (highest_of rs) j 0) i ≡ kept_at (low rs) (high rs) i
    same i h = unfold kept_at in rw (array_at (λ (r : Range). r.lowest) rs i h, array_at (λ (r : Range). r.highest) rs i h) refl
