-- What is accepted as sizes: exactly the numbers of ranges on rising arrow cells with 1 ≤ lowest ≤ highest; all else is refused with 22. Sizes that are kept by
-- cell rise.
-- Assumes nothing.
use Prim.Native.Nat.{ℕ, zero, suc, ◌+◌, ◌≤◌, ◌<◌, zero-le}
use native.Mathlib.Omega.{arith}
use mathlib.Core.Logic.{◌↔◌}
use mathlib.Core.Path.{◌≡◌, refl, sym, ap, ◌∙◌, subst}
use mathlib.Core.Bool.{Bool, true, false, So, cond, ◌&&◌}
use mathlib.Core.List.Memᴰ
use mathlib.Core.List.{List, [], ◌∷◌, ◌++◌, Memᴰ}
use lib.Dec.{eqb, leb}
use borrow.Author.Tests.{eqb-false, leb-true, le-leb}
use Rattle.std.proofs.lemmas.Bool.{and_from}
use Rattle.grid.specs.Lists.{range, upto, member, flat_map, Rising, nil, cons}
use Rattle.grid.proofs.ListLaws.{and-true, any-mem, mem-any, member-mem, mem-member, range-mem, flat_map-mem}
use Rattle.fields.proofs.OutcomeLaws.{bind_ok, unless-ok, ok-eq}
use Rattle.record.specs.Record.{Puzzle, Outcome, ok, refused, ◌>>=◌, unless}
use Rattle.record.specs.Arrows.{OnArrow, on_arrow}
use Rattle.record.specs.Leaf.{Range, range_at, range_test, ranges_from, sizes_of}
use Rattle.record.specs.Sizes.{sized_cells, Proper, GoodSizes, numbers_of, kept_at, kept_by}

-- the test finds the arrow cells, and no others
pub arrow_So : (arrows : List (List ℕ)) (i : ℕ) → So (on_arrow arrows i) → OnArrow arrows i
unfolding on_arrow
arrow_So arrows i h = let r = any-mem (member i) arrows h in (r.0, r.1, member-mem i r.0 r.2)

pub So-arrow : (arrows : List (List ℕ)) (i : ℕ) → OnArrow arrows i → So (on_arrow arrows i)
unfolding on_arrow
So-arrow arrows i (a, m, n) = mem-any (member i) arrows m (mem-member i a n)

-- a refusal is no value
no_value : {A B : Type 0} {k : ℕ} {a : A} → refused k ≡ ok a → B
no_value h = absurd (let z : ◌≡◌ {A = ℕ} 0 1 = cc in omega arith)

-- ---- one range

module _ (arrows : List (List ℕ)) where
  test_Proper : (from : ℕ) (r : Range) → range_test (on_arrow arrows) from r ≡ true → Proper arrows r × (from ≤ r.cell)
  unfolding range_test
  test_Proper from r h =
      let a = and-true (leb 1 r.lowest && leb r.lowest r.highest && on_arrow arrows r.cell) (leb from r.cell) h in
      let b = and-true (leb 1 r.lowest && leb r.lowest r.highest) (on_arrow arrows r.cell) a.0 in
      let c = and-true (leb 1 r.lowest) (leb r.lowest r.highest) b.0 in
      (record { on = arrow_So arrows r.cell b.1; least = leb-true 1 r.lowest c.0; order = leb-true r.lowest r.highest c.1 }, leb-true from r.cell a.1)

  Proper-test : (from : ℕ) (r : Range) → Proper arrows r → from ≤ r.cell → range_test (on_arrow arrows) from r ≡ true
  unfolding range_test
  Proper-test from r w h =
      and_from _ _ (and_from _ _ (and_from _ _ (le-leb 1 r.lowest w.least) (le-leb r.lowest r.highest w.order)) (So-arrow arrows r.cell w.on)) (le-leb from r.cell h)

  -- ---- ranges that may stand from a cell on

  record GoodFrom (from : ℕ) (rs : List Range) : Type 0 where
    rising : Rising (sized_cells rs)
    each : (r : Range) → Memᴰ r rs → Proper arrows r
    above : (r : Range) → Memᴰ r rs → from ≤ r.cell

  none_good : (from : ℕ) → GoodFrom from []
  none_good from = record { rising = nil; each = λ r m. absurd (Memᴰ.not-nil m); above = λ r m. absurd (Memᴰ.not-nil m) }

  more_good : (from : ℕ) (r : Range) (rs : List Range) → Proper arrows r → from ≤ r.cell → GoodFrom (suc r.cell) rs → GoodFrom from (r ∷ rs)
  more_good from r rs w h g = record { rising = cons later g.rising; each = λ x m. each x m; above = λ x m. above x m }
    where
      later : (y : ℕ) → Memᴰ y (sized_cells rs) → r.cell < y
      later y m = let k = Memᴰ.of_map (λ (q : Range). q.cell) rs m in omega (arith, g.above k.0 k.1, k.2)

      each : (x : Range) → Memᴰ x (r ∷ rs) → Proper arrows x
      each x (Memᴰ.head e) = subst (Proper arrows) (sym e) w
      each x (Memᴰ.tail m) = g.each x m

      above : (x : Range) → Memᴰ x (r ∷ rs) → from ≤ x.cell
      above x (Memᴰ.head e) = subst (λ (q : Range). from ≤ q.cell) (sym e) h
      above x (Memᴰ.tail m) = omega (arith, g.above x m)

  read_from : (from : ℕ) (ns : List ℕ) {rs : List Range} → ranges_from (on_arrow arrows) from ns ≡ ok rs → (ns ≡ numbers_of rs) × GoodFrom from rs
  unfolding ranges_from numbers_of
  read_from from [] h = subst (λ rs. ([] ≡ numbers_of rs) × GoodFrom from rs) (ok-eq h) (refl, none_good from)
  read_from from (c ∷ []) h = no_value h
  read_from from (c ∷ l ∷ []) h = no_value h
  read_from from (c ∷ l ∷ hi ∷ ns) h =
      let r : Range = range_at c l hi in
      let a = bind_ok (unless (range_test (on_arrow arrows) from r) 22) _ h in
      let b = bind_ok (ranges_from (on_arrow arrows) (suc c) ns) _ a.2 in
      let t = test_Proper from r (unless-ok (range_test (on_arrow arrows) from r) 22 a.1) in
      let ih = read_from (suc c) ns b.1 in
      subst (λ rs. ((c ∷ l ∷ hi ∷ ns) ≡ numbers_of rs) × GoodFrom from rs) (ok-eq b.2)
      (ap (λ x. c ∷ l ∷ hi ∷ x) ih.0, more_good from r b.0 t.0 t.1 ih.1)

  from_read : (from : ℕ) (rs : List Range) → Rising (sized_cells rs) → ((r : Range) → Memᴰ r rs → Proper arrows r) → ((r : Range) → Memᴰ r rs → from ≤ r.cell)
      → ranges_from (on_arrow arrows) from (numbers_of rs) ≡ ok rs
  unfolding ranges_from numbers_of unless ◌>>=◌
  from_read from [] up w h = refl
  from_read from (r ∷ rs) (cons later up) w h =
      rw (
        Proper-test from r (w r (Memᴰ.head refl)) (h r (Memᴰ.head refl)),
        from_read (suc r.cell) rs up (λ x m. w x (Memᴰ.tail m)) (λ x m. omega (arith, later x.cell (Memᴰ.map (λ (q : Range). q.cell) m))),
      ) refl

-- the only refusal is 22
pub refused_from : (on : ℕ → Bool) (from : ℕ) (ns : List ℕ) (k : ℕ) → ranges_from on from ns ≡ refused k → k ≡ 22
unfolding ranges_from unless ◌>>=◌
refused_from on from [] k h = no_value (sym h)
refused_from on from (c ∷ []) k h = cc
refused_from on from (c ∷ l ∷ []) k h = cc
refused_from on from (c ∷ l ∷ hi ∷ ns) k h = go (range_test on from (range_at c l hi)) (ranges_from on (suc c) ns) (λ j e. refused_from on (suc c) ns j e) h
  where
    go : (t : Bool) (o : Outcome (List Range)) → ((j : ℕ) → o ≡ refused j → j ≡ 22)
        → (unless t 22 >>= λ _. o >>= λ rs. ok (range_at c l hi ∷ rs)) ≡ refused k → k ≡ 22
    go false o ih e = cc
    go true (ok rs) ih e = no_value (sym e)
    go true (refused j) ih e = ih k e

-- ---- the list

module _ (p : Puzzle) where
  -- what is accepted is the numbers of sizes that may stand
  pub read_good : (ns : List ℕ) {rs : List Range} → sizes_of p ns ≡ ok rs → (ns ≡ numbers_of rs) × GoodSizes p rs
  unfolding sizes_of
  read_good ns h = let w = read_from p.arrows 0 ns h in (w.0, record { rising = w.1.rising; each = w.1.each })

  -- these are accepted
  pub good_read : (rs : List Range) → GoodSizes p rs → sizes_of p (numbers_of rs) ≡ ok rs
  unfolding sizes_of
  good_read rs g = from_read p.arrows 0 rs g.rising g.each (λ r m. zero-le)

  -- all else is refused with 22
  pub refused_22 : (ns : List ℕ) → (sizes_of p ns ≡ refused 22) ↔ (¬ ((rs : List Range) × GoodSizes p rs × (ns ≡ numbers_of rs)))
  unfolding sizes_of
  refused_22 ns = (λ h (rs, g, z). no_value (sym h ∙ ap (sizes_of p) z ∙ good_read rs g), λ h. go h (sizes_of p ns) refl)
    where
      go : ¬ ((rs : List Range) × GoodSizes p rs × (ns ≡ numbers_of rs)) → (o : Outcome (List Range)) → sizes_of p ns ≡ o → sizes_of p ns ≡ refused 22
      go h (ok rs) e = let w = read_good ns e in absurd (h (rs, w.1, w.0))
      go h (refused k) e = e ∙ ap refused (refused_from (on_arrow p.arrows) 0 ns k e)

-- ---- sizes kept by cell

module _ (low high : ℕ → ℕ) where
  -- what is kept at a cell is its range, and its lowest size is not 0
  at_cell : (i : ℕ) (r : Range) → Memᴰ r (kept_at low high i) → (r ≡ range_at i (low i) (high i)) × (low i ≡ 0 → ⊥)
  unfolding kept_at
  at_cell i r m = go (eqb (low i) 0) refl m
    where
      go : (t : Bool) → eqb (low i) 0 ≡ t → Memᴰ r (cond t [] (range_at i (low i) (high i) ∷ [])) → (r ≡ range_at i (low i) (high i)) × (low i ≡ 0 → ⊥)
      go true e k = absurd (Memᴰ.not-nil k)
      go false e k = (Memᴰ.eq_of_singleton k, eqb-false (low i) 0 e)

  -- so it is with what is kept at the cells from a on, which rise
  kept_in : (a k : ℕ) (r : Range) → Memᴰ r (flat_map (kept_at low high) (range a k)) → (i : ℕ) × (a ≤ i) × (i < a + k) × (r ≡ range_at i (low i) (high i)) × (low i ≡ 0 → ⊥)
  kept_in a k r m =
      let w = flat_map-mem (kept_at low high) (range a k) m in
      let h = range-mem a k w.1 in
      let z = at_cell w.0 r w.2 in
      (w.0, h.0, h.1, z.0, z.1)

  Rising-from : (k a : ℕ) → Rising (sized_cells (flat_map (kept_at low high) (range a k)))
  unfolding range kept_at
  Rising-from zero a = nil
  Rising-from (suc k) a = go (eqb (low a) 0) (Rising-from k (suc a))
    where
      go : (t : Bool) → Rising (sized_cells (flat_map (kept_at low high) (range (suc a) k)))
          → Rising (sized_cells (cond t [] (range_at a (low a) (high a) ∷ []) ++ flat_map (kept_at low high) (range (suc a) k)))
      go true up = up
      go false up = cons {x = a} (λ y m. behind y m) up
        where
          behind : (y : ℕ) → Memᴰ y (sized_cells (flat_map (kept_at low high) (range (suc a) k))) → a < y
          behind y m =
              let u = Memᴰ.of_map (λ (q : Range). q.cell) (flat_map (kept_at low high) (range (suc a) k)) m in
              let w = kept_in (suc a) k u.0 u.1 in
              omega (arith, w.1, u.2, ap (λ (q : Range). q.cell) w.3)

  -- the ranges of the first n cells
  pub kept_mem : (n : ℕ) (r : Range) → Memᴰ r (kept_by low high n) → (i : ℕ) × (i < n) × (r ≡ range_at i (low i) (high i)) × (low i ≡ 0 → ⊥)
  unfolding kept_by upto
  kept_mem n r m = let w = kept_in 0 n r m in (w.0, omega (arith, w.2), w.3, w.4)

  pub kept_Rising : (n : ℕ) → Rising (sized_cells (kept_by low high n))
  unfolding kept_by upto
  kept_Rising n = Rising-from n 0
