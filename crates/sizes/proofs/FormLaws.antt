-- Arrays pass the test exactly when they keep sizes that may stand; then they are the arrays of the ranges that they keep.
-- Assumes nothing.
use Prim.Native.Nat.{ℕ, ◌≤◌, ◌<◌}
use native.Mathlib.Omega.{arith}
use native.Mathlib.Decide.{ℕ_discrete}
use mathlib.Core.Logic.{◌⊎◌, inl, inr}
use mathlib.Core.Path.{◌≡◌, refl, sym, ap, ◌∙◌, subst}
use mathlib.Core.Bool.{Bool, true, false, So, cond, ◌&&◌}
use mathlib.Core.List.Memᴰ
use mathlib.Core.List.{List, [], ◌∷◌, Memᴰ}
use lib.Dec.{eqb, leb}
use lib.ListN.{length, get_or}
use lib.Seq.{ext_get_or}
use borrow.Author.Tests.{eqb-true, eqb-false, eq-eqb, ne_eqb, leb-true, le-leb}
use Rattle.std.proofs.lemmas.Bool.{and_from}
use Rattle.grid.specs.Lists.{all, upto}
use Rattle.grid.specs.Grid.{size}
use Rattle.grid.proofs.ListLaws.{and-true, all-mem, mem-all, at_mem, mem_at, mem-upto, upto-mem, flat_map-mem, mem-flat_map}
use Rattle.grid.proofs.AppendLaws.{same_test}
use Rattle.record.specs.Record.{Puzzle}
use Rattle.record.specs.Valid.{ValidArrows}
use Rattle.record.specs.Arrows.{on_arrow}
use Rattle.record.specs.Leaf.{Range, range_at}
use Rattle.record.specs.Sizes.{Proper, GoodSizes, numbers_of, Words, kept_at, kept_by, kept_ranges}
use Rattle.record.proofs.SizesLaws.{arrow_So, So-arrow, kept_mem, kept_Rising}
use Rattle.form.specs.Form.{long, behind}
use Rattle.sizes.specs.Kept.{size_at, lowest_of, highest_of}
use Rattle.sizes.specs.Form.{SizeArrays, sized_cell, sizes_formed}
use Rattle.sizes.proofs.KeptLaws.{NotAt, size_none, array_at, array_long, kept_some}

-- ---- the test

module _ (arrows : List (List ℕ)) (lows highs : List ℕ) where
  -- what one cell may have
  abbrev Sized : ℕ → Type 0
  Sized i = ((get_or lows i 0 ≡ 0) × (get_or highs i 0 ≡ 0)) ⊎ Proper arrows (range_at i (get_or lows i 0) (get_or highs i 0))

  cell_is : (i : ℕ) → sized_cell (on_arrow arrows) lows highs i ≡ true → Sized i
  unfolding sized_cell
  cell_is i h = go (eqb (get_or lows i 0) 0) refl h
    where
      go : (t : Bool) → eqb (get_or lows i 0) 0 ≡ t → cond t (eqb (get_or highs i 0) 0) (leb (get_or lows i 0) (get_or highs i 0) && on_arrow arrows i) ≡ true → Sized i
      go true z k = inl (eqb-true (get_or lows i 0) 0 z, eqb-true (get_or highs i 0) 0 k)
      go false z k =
          let a = and-true (leb (get_or lows i 0) (get_or highs i 0)) (on_arrow arrows i) k in
          let n = eqb-false (get_or lows i 0) 0 z in
          inr (record { on = arrow_So arrows i a.1; least = omega (arith, n); order = leb-true (get_or lows i 0) (get_or highs i 0) a.0 })

  is_cell : (i : ℕ) → Sized i → sized_cell (on_arrow arrows) lows highs i ≡ true
  unfolding sized_cell
  is_cell i (inl (z, y)) = rw (eq-eqb (get_or lows i 0) 0 z) (eq-eqb (get_or highs i 0) 0 y)
  is_cell i (inr w) = rw (ne_eqb (get_or lows i 0) 0 (λ z. omega (arith, w.least))) (and_from _ _ (le-leb (get_or lows i 0) (get_or highs i 0) w.order) (So-arrow arrows i w.on))

  -- the parts of the test of all cells
  pub sizes_is : sizes_formed (on_arrow arrows) lows highs ≡ true → SizeArrays arrows lows highs
  unfolding sizes_formed long
  sizes_is h =
      let a = and-true (eqb (length lows) 1024 && eqb (length highs) 1024) (all (sized_cell (on_arrow arrows) lows highs) (upto 1024)) h in
      let b = and-true (eqb (length lows) 1024) (eqb (length highs) 1024) a.0 in
      record {
        lowest_long = eqb-true (length lows) 1024 b.0;
        highest_long = eqb-true (length highs) 1024 b.1;
        each = λ i l. cell_is i (all-mem (sized_cell (on_arrow arrows) lows highs) (upto 1024) a.1 i (mem-upto 1024 l));
      }

  pub is_sizes : SizeArrays arrows lows highs → sizes_formed (on_arrow arrows) lows highs ≡ true
  unfolding sizes_formed long
  is_sizes s =
      and_from _ _ (and_from _ _ (eq-eqb (length lows) 1024 s.lowest_long) (eq-eqb (length highs) 1024 s.highest_long))
      (mem-all (sized_cell (on_arrow arrows) lows highs) (upto 1024) (λ i m. is_cell i (s.each i (upto-mem 1024 m))))

-- ---- the code's way

module _ (on : ℕ → Bool) (lows highs : List ℕ) where
  -- where no cell has a lowest size
  pub all_bare : length lows ≡ 1024 → length highs ≡ 1024 → behind 0 0 lows ≡ true → behind 0 0 highs ≡ all (sized_cell on lows highs) (upto 1024)
  unfolding behind sized_cell
  all_bare n k z = same_test (all (eqb 0) highs) (all (sized_cell on lows highs) (upto 1024)) forth back
    where
      zero : (i : ℕ) → i < 1024 → get_or lows i 0 ≡ 0
      zero i h = sym (eqb-true 0 (get_or lows i 0) (all-mem (eqb 0) lows z (get_or lows i 0) (at_mem lows i (omega arith))))

      forth : So (all (eqb 0) highs) → So (all (sized_cell on lows highs) (upto 1024))
      forth a = mem-all (sized_cell on lows highs) (upto 1024) (λ i m.
          let h : i < 1024 = upto-mem 1024 m in
          let y : get_or highs i 0 ≡ 0 = sym (eqb-true 0 (get_or highs i 0) (all-mem (eqb 0) highs a (get_or highs i 0) (at_mem highs i (omega arith)))) in
          rw (zero i h, y) refl)

      back : So (all (sized_cell on lows highs) (upto 1024)) → So (all (eqb 0) highs)
      back a = mem-all (eqb 0) highs (λ x m.
          let r = mem_at highs m in
          let h : r.0 < 1024 = omega (arith, r.1) in
          let c : eqb (get_or highs r.0 0) 0 ≡ true = bare r.0 (zero r.0 h) (all-mem (sized_cell on lows highs) (upto 1024) a r.0 (mem-upto 1024 h)) in
          eq-eqb 0 x (sym (eqb-true (get_or highs r.0 0) 0 c) ∙ r.2))
        where
          bare : (i : ℕ) → get_or lows i 0 ≡ 0 → sized_cell on lows highs i ≡ true → eqb (get_or highs i 0) 0 ≡ true
          bare i e t = rw e at t

-- ---- what such arrays keep

-- the range of a cell, or that no range has it
found : (rs : List Range) (i : ℕ) → ((r : Range) × Memᴰ r rs × (r.cell ≡ i) × ((end : Range → ℕ) → size_at end rs i ≡ end r)) ⊎ NotAt rs i
unfolding size_at
found [] i = inr (λ r m. absurd (Memᴰ.not-nil m))
found (r ∷ rs) i = go (ℕ_discrete r.cell i) (found rs i)
  where
    go : Dec (r.cell ≡ i) → ((q : Range) × Memᴰ q rs × (q.cell ≡ i) × ((end : Range → ℕ) → size_at end rs i ≡ end q)) ⊎ NotAt rs i
        → ((q : Range) × Memᴰ q (r ∷ rs) × (q.cell ≡ i) × ((end : Range → ℕ) → cond (eqb r.cell i) (end r) (size_at end rs i) ≡ end q)) ⊎ NotAt (r ∷ rs) i
    go (yes e) _ = inl (r, Memᴰ.head refl, e, λ end. rw (eq-eqb r.cell i e) refl)
    go (no n) (inl (q, m, e, f)) = inl (q, Memᴰ.tail m, e, λ end. rw (ne_eqb r.cell i n) (f end))
    go (no n) (inr h) = inr (λ q m. off q m)
      where
        off : (q : Range) → Memᴰ q (r ∷ rs) → ¬ (q.cell ≡ i)
        off q (Memᴰ.head z) = λ e. n (sym (ap (λ (x : Range). x.cell) z) ∙ e)
        off q (Memᴰ.tail m) = h q m

module _ (p : Puzzle) (lows highs : List ℕ) (s : SizeArrays p.arrows lows highs) where
  -- the sizes of a cell
  abbrev low : ℕ → ℕ
  low i = get_or lows i 0

  abbrev high : ℕ → ℕ
  high i = get_or highs i 0

  proper : (i : ℕ) → i < 1024 → (low i ≡ 0 → ⊥) → Proper p.arrows (range_at i (low i) (high i))
  proper i l n = go (s.each i l)
    where
      go : Sized p.arrows lows highs i → Proper p.arrows (range_at i (low i) (high i))
      go (inl (z, y)) = absurd (n z)
      go (inr w) = w

  -- it may stand
  pub arrays_good : (n : ℕ) → n ≤ 1024 → GoodSizes p (kept_ranges lows highs n)
  arrays_good n l = record {
    rising = kept_Rising low high n;
    each = λ r m.
        let k = kept_mem low high n r m in
        subst (Proper p.arrows) (sym k.2) (proper k.0 (omega (arith, k.1)) k.3);
  }

  -- its numbers have 16 bits where the array of the highest sizes has them
  pub kept_Words : (n : ℕ) → n ≤ 1024 → Words highs → Words (numbers_of (kept_ranges lows highs n))
  unfolding numbers_of
  kept_Words n l h x m =
      let w = flat_map-mem (λ (r : Range). r.cell ∷ r.lowest ∷ r.highest ∷ []) (kept_ranges lows highs n) m in
      let k = kept_mem low high n w.0 w.1 in
      let i : k.0 < 1024 = omega (arith, k.1) in
      let t : high k.0 < 65536 = h (high k.0) (at_mem highs k.0 (omega (arith, s.highest_long))) in
      one k.0 (omega arith) (omega (arith, t, (proper k.0 i k.3).order)) t (subst (λ (r : Range). Memᴰ x (r.cell ∷ r.lowest ∷ r.highest ∷ [])) k.2 w.2)
    where
      one : (i : ℕ) → i < 65536 → low i < 65536 → high i < 65536 → Memᴰ x (i ∷ low i ∷ high i ∷ []) → x < 65536
      one i a b c (Memᴰ.head e) = omega (arith, a, e)
      one i a b c (Memᴰ.tail (Memᴰ.head e)) = omega (arith, b, e)
      one i a b c (Memᴰ.tail (Memᴰ.tail (Memᴰ.head e))) = omega (arith, c, e)
      one i a b c (Memᴰ.tail (Memᴰ.tail (Memᴰ.tail x13))) = elim x13 [ ]

  -- and the arrays are its own: no cell off the grid has a size
  module _ (v : ValidArrows p.grid p.arrows) (n : ℕ) (over : size p.grid ≤ n) where
    in_kept : (i : ℕ) → Proper p.arrows (range_at i (low i) (high i)) → Memᴰ (range_at i (low i) (high i)) (kept_ranges lows highs n)
    unfolding kept_by
    in_kept i w =
        let (a, m, k) = w.on in
        let l : i < n = omega (arith, v.on a m i k, over) in
        mem-flat_map (kept_at low high) (upto n) {x = i} (mem-upto n l) (rw (kept_some low high i w.least) (Memᴰ.head refl))

    back : (end : Range → ℕ) (array : ℕ → ℕ) → ((i : ℕ) → low i ≡ 0 → high i ≡ 0 → array i ≡ 0) → ((i : ℕ) → end (range_at i (low i) (high i)) ≡ array i)
        → (i : ℕ) → i < 1024 → size_at end (kept_ranges lows highs n) i ≡ array i
    back end array empty full i l = go (found (kept_ranges lows highs n) i)
      where
        bare : NotAt (kept_ranges lows highs n) i → Sized p.arrows lows highs i → array i ≡ 0
        bare h (inl (z, y)) = empty i z y
        bare h (inr w) = absurd (h (range_at i (low i) (high i)) (in_kept i w) refl)

        go : ((r : Range) × Memᴰ r (kept_ranges lows highs n) × (r.cell ≡ i) × ((e : Range → ℕ) → size_at e (kept_ranges lows highs n) i ≡ e r)) ⊎ NotAt (kept_ranges lows highs n) i
            → size_at end (kept_ranges lows highs n) i ≡ array i
        go (inl (r, m, e, f)) =
            let k = kept_mem low high n r m in
            let z : k.0 ≡ i = sym (ap (λ (q : Range). q.cell) k.2) ∙ e in
            f end ∙ ap end k.2 ∙ full k.0 ∙ ap array z
        go (inr h) = size_none end (kept_ranges lows highs n) i h ∙ sym (bare h (s.each i l))

    pub lowest_back : lowest_of (kept_ranges lows highs n) ≡ lows
    lowest_back =
        let end : Range → ℕ = λ r. r.lowest in
        let rs : List Range = kept_ranges lows highs n in
        ext_get_or 0 (lowest_of rs) lows (array_long end rs ∙ sym s.lowest_long) (λ i h.
        let l : i < 1024 = omega (arith, array_long end rs) in
        array_at end rs i l ∙ back end low (λ j z y. z) (λ j. refl) i l)

    pub highest_back : highest_of (kept_ranges lows highs n) ≡ highs
    highest_back =
        let end : Range → ℕ = λ r. r.highest in
        let rs : List Range = kept_ranges lows highs n in
        ext_get_or 0 (highest_of rs) highs (array_long end rs ∙ sym s.highest_long) (λ i h.
        let l : i < 1024 = omega (arith, array_long end rs) in
        array_at end rs i l ∙ back end high (λ j z y. y) (λ j. refl) i l)

-- ---- the arrays of sizes that may stand

-- they pass
pub good_arrays : (p : Puzzle) (rs : List Range) → GoodSizes p rs → SizeArrays p.arrows (lowest_of rs) (highest_of rs)
good_arrays p rs g = record { lowest_long = array_long (λ (r : Range). r.lowest) rs; highest_long = array_long (λ (r : Range). r.highest) rs; each = λ i l. go i l (found rs i) }
  where
    go : (i : ℕ) → i < 1024 → ((r : Range) × Memᴰ r rs × (r.cell ≡ i) × ((end : Range → ℕ) → size_at end rs i ≡ end r)) ⊎ NotAt rs i → Sized p.arrows (lowest_of rs) (highest_of rs) i
    go i l (inl (r, m, e, f)) =
        let lo : get_or (lowest_of rs) i 0 ≡ r.lowest = array_at (λ (q : Range). q.lowest) rs i l ∙ f (λ (q : Range). q.lowest) in
        let hi : get_or (highest_of rs) i 0 ≡ r.highest = array_at (λ (q : Range). q.highest) rs i l ∙ f (λ (q : Range). q.highest) in
        inr (rw (lo, hi, ← e) (g.each r m))
    go i l (inr h) =
        inl (array_at (λ (q : Range). q.lowest) rs i l ∙ size_none (λ (q : Range). q.lowest) rs i h, array_at (λ (q : Range). q.highest) rs i l ∙ size_none (λ (q : Range). q.highest) rs i h)
