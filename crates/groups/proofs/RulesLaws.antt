-- The test of the block rules passes exactly where they hold.
-- Assumes nothing.
use mathlib.Core.Bool.{So, Bool, true, false, cond, ◌&&◌}
use Prim.Native.Nat.{ℕ, suc, ◌+◌, ◌≤◌, ◌<◌}
use native.Mathlib.Omega.{arith}
use mathlib.Core.Path.{◌≡◌, refl, sym, subst}
use mathlib.Core.List.{List, ◌∷◌, ◌++◌, Memᴰ}
use lib.Dec.{eqb, leb, ltb}
use lib.ListN.{length, get_or}
use borrow.Author.Tests.{eqb-true, eq-eqb, eqb-false, ltb-true, lt-ltb, leb-true, le-leb}
use Rattle.std.proofs.lemmas.Bool.{and_from}
use Rattle.grid.specs.Count.{count}
use Rattle.grid.proofs.Count.{length-filter, count_iff}
use Rattle.grid.proofs.Finite.{Dec-Linked}
use Rattle.grid.specs.Grid.{Adjacent, Grid, size, cells_of}
use Rattle.grid.proofs.GridLaws.{Dec-Adjacent}
use Rattle.grid.proofs.ListLaws.{Dec-So, only_one, single, in_single, of_single, Distinct-filter, mem-upto, and-true, filter-mem, mem-filter, flat_map-mem, mem-flat_map, any-mem, all-mem, mem-all}
use Rattle.grid.proofs.LinkLaws.{Linked-end}
use Rattle.grid.specs.Lists.{upto, filter, any, all, flat_map}
use Rattle.record.specs.Record.{Puzzle}
use Rattle.grid.specs.Cells.{square}
use Rattle.grid.proofs.CellLaws.{square_below}
use Rattle.groups.proofs.GroupLaws.{group-Distinct, label_own, group_linked, linked_group, names_own, own_names}
use Rattle.groups.proofs.Shift.{Contains-map, Contains-fits, fits-Contains, Grown-more, Grown-most, size-Grown}
use Rattle.groups.specs.Groups.{labels, group, names}
use Rattle.groups.specs.Arrows.{on_arrow, Pair, pairs}
use Rattle.record.specs.Leaf.{Range, leaf_with}
use Rattle.groups.specs.Rules.{fits, SameBlock, OneArrowCell, Grown, Next, InRange, BlockRules, one_test, more_test, grown_test, sized_test, rules_test, Below, taking}
use Rattle.groups.proofs.ArrowLaws.{arrow_So, So-arrow, pairs-Parted, Parted-pairs}

-- what the test of two sizes means
more_so : (e : ℕ) (n k : ℕ) → more_test e n k ≡ true → (n < k) × (e ≡ 1 → k ≤ suc n)
unfolding more_test
more_so e n k h = go (eqb e 1) refl h
  where
    go : (t : Bool) → eqb e 1 ≡ t → cond t (eqb k (n + 1)) (ltb n k) ≡ true → (n < k) × (e ≡ 1 → k ≤ suc n)
    go true _ h = (omega (arith, eqb-true k (n + 1) h), λ _. omega (arith, eqb-true k (n + 1) h))
    go false z h = (ltb-true n k h, λ q. absurd (eqb-false e 1 z q))

so_more : (e : ℕ) (n k : ℕ) → n < k → (e ≡ 1 → k ≤ suc n) → more_test e n k ≡ true
unfolding more_test
so_more e n k h f = go (eqb e 1) refl
  where
    go : (t : Bool) → eqb e 1 ≡ t → cond t (eqb k (n + 1)) (ltb n k) ≡ true
    go true z = eq-eqb k (n + 1) (omega (arith, h, f (eqb-true e 1 z)))
    go false _ = lt-ltb n k h

module _ (p : Puzzle) (cells : List ℕ) (n : length cells ≡ size p.grid) where
  abbrev g : Grid
  g = p.grid

  abbrev arrows : List (List ℕ)
  arrows = p.arrows

  on_board : (i : ℕ) → So (square cells i) → i < size g
  on_board i h = omega (arith, square_below cells i h)

  -- it is decided whether two cells are in one block
  pub Dec-block : (i j : ℕ) → Dec (SameBlock g cells i j)
  Dec-block = Dec-Linked (Adjacent g) (Dec-Adjacent g) (size g) (λ c. So (square cells c)) (λ c. Dec-So (square cells c)) on_board

  below : (i : ℕ) → Below g (SameBlock g cells i)
  below i c l = on_board c (Linked-end l)

  lab : List ℕ
  lab = labels g (square cells)

  block_of : ℕ → List ℕ
  block_of i = group g (square cells) lab (get_or lab i 0)

  -- the block of i, as a list
  in_block : (i x : ℕ) → So (square cells i) → Memᴰ x (block_of i) → SameBlock g cells i x
  unfolding lab block_of
  in_block i x h = group_linked g (square cells) i x (on_board i h) h

  block_in : (i x : ℕ) → So (square cells i) → SameBlock g cells i x → Memᴰ x (block_of i)
  unfolding lab block_of
  block_in i x h = linked_group g (square cells) i x (on_board i h)

  block_size : (i : ℕ) → So (square cells i) → length (block_of i) ≡ count (Dec-block i) (size g)
  unfolding lab block_of group cells_of
  block_size i h = length-filter (λ k. square cells k && eqb (get_or lab k 0) (get_or lab i 0)) (size g) (Dec-block i)
      (λ x l t. in_block i x h (mem-filter (λ k. square cells k && eqb (get_or lab k 0) (get_or lab i 0)) (upto (size g)) (mem-upto (size g) l) t))
      (λ x l t. (filter-mem (λ k. square cells k && eqb (get_or lab k 0) (get_or lab i 0)) (upto (size g)) (block_in i x h t)).1)

  test_one : (i : ℕ) → square cells i ≡ true → one_test p cells lab (get_or lab i 0) ≡ true → OneArrowCell p cells i
  unfolding one_test block_of
  test_one i h t =
      let s = single (filter (on_arrow arrows) (block_of i)) (eqb-true _ 1 t) in
      let m = filter-mem (on_arrow arrows) (block_of i) (in_single s.1) in
      record {
        cell = s.0;
        within = in_block i s.0 h m.0;
        arrow = arrow_So arrows s.0 m.1;
        unique = λ j r k. of_single s.1 (mem-filter (on_arrow arrows) (block_of i) (block_in i j h r) (So-arrow arrows j k));
      }

  one_test_lem : (i : ℕ) → square cells i ≡ true → OneArrowCell p cells i → one_test p cells lab (get_or lab i 0) ≡ true
  unfolding one_test block_of
  one_test_lem i h c =
      eq-eqb (length (filter (on_arrow arrows) (block_of i))) 1
      (only_one (filter (on_arrow arrows) (block_of i)) (Distinct-filter (on_arrow arrows) (block_of i) (group-Distinct g (square cells) lab (get_or lab i 0))) c.cell (mem-filter (on_arrow arrows) (block_of i) (block_in i c.cell h c.within) (So-arrow arrows c.cell c.arrow))
      (λ y m. let k = filter-mem (on_arrow arrows) (block_of i) m in c.unique y (in_block i y h k.0) (arrow_So arrows y k.1)))

  -- a listed pair is two squares of an arrow with none between
  abbrev pub Next-pair : (e : Pair) → Memᴰ e (flat_map (pairs cells) arrows) → Next p cells e.last e.cur
  Next-pair e m =
      let r = flat_map-mem (pairs cells) arrows m in
      let q = pairs-Parted cells r.0 e r.2 in
      record {
        before = q.before;
        between = e.between;
        behind = q.behind;
        arrow = subst (λ a. Memᴰ a arrows) q.whole r.1;
        first = q.first;
        second = q.second;
        none = q.none;
      }

  -- and such two are listed
  pub pair_Next : (i j : ℕ) (c : Next p cells i j) → Memᴰ (record { last = i; between = c.between; cur = j }) (flat_map (pairs cells) arrows)
  pair_Next i j c =
      mem-flat_map (pairs cells) arrows c.arrow
      (Parted-pairs cells (c.before ++ (i ∷ (c.between ++ (j ∷ c.behind)))) (record { last = i; between = c.between; cur = j })
      (record { before = c.before; behind = c.behind; whole = refl; first = c.first; second = c.second; none = c.none }))

  sized_test_lem : (r : Range) → (square cells r.cell ≡ true → InRange p cells r) → sized_test p cells lab r ≡ true
  unfolding sized_test block_of
  sized_test_lem r f = go (square cells r.cell) refl
    where
      go : (t : Bool) → square cells r.cell ≡ t → cond t (leb r.lowest (length (block_of r.cell)) && leb (length (block_of r.cell)) r.highest) true ≡ true
      go true h =
          let w = f h in
          let z = count_iff (Dec-block r.cell) w.block_size.0 (size g) (λ i _ k. k) (λ i _ k. k) in
          and_from _ _ (le-leb r.lowest (length (block_of r.cell)) (omega (arith, w.least, w.block_size.1, z, block_size r.cell h)))
          (le-leb (length (block_of r.cell)) r.highest (omega (arith, w.most, w.block_size.1, z, block_size r.cell h)))
      go false h = refl

  test_sized : (r : Range) → sized_test p cells lab r ≡ true → square cells r.cell ≡ true → InRange p cells r
  unfolding sized_test block_of
  test_sized r t h =
      let k = and-true (leb r.lowest (length (block_of r.cell))) (leb (length (block_of r.cell)) r.highest) (rw h at t) in
      record {
        counted = length (block_of r.cell);
        block_size = (Dec-block r.cell, sym (block_size r.cell h));
        least = leb-true r.lowest (length (block_of r.cell)) k.0;
        most = leb-true (length (block_of r.cell)) r.highest k.1;
      }

  module _ (e : ℕ) (sizes : List Range) where
    larger : (i j : ℕ) → So (square cells i) → So (square cells j) → Grown e g (SameBlock g cells i) (SameBlock g cells j) → more_test e (length (block_of i)) (length (block_of j)) ≡ true
    larger i j si sj r = so_more e (length (block_of i)) (length (block_of j))
        (omega (arith, block_size i si, block_size j sj, Grown-more g (Dec-block i) (Dec-block j) (below i) (below j) r))
        (λ h. omega (arith, block_size i si, block_size j sj, Grown-most g (Dec-block i) (Dec-block j) (below i) (below j) h r))

    -- where the rules hold the test passes
    pub rules_test_lem : BlockRules (leaf_with e sizes p) cells → rules_test (leaf_with e sizes p) cells ≡ true
    unfolding rules_test lab grown_test block_of
    rules_test_lem c =
        and_from _ _ (and_from _ _ (mem-all (one_test p cells lab) (names g (square cells) lab) one) (mem-all (grown_test p cells e lab) (flat_map (pairs cells) arrows) grow))
        (mem-all (sized_test p cells lab) sizes (λ r m. sized_test_lem r (c.sized r m)))
      where
        one : (f : ℕ) → Memᴰ f (names g (square cells) lab) → one_test p cells lab f ≡ true
        one f m =
            let r = names_own g (square cells) f m in
            rw r.2 at (one_test_lem f r.1 (c.one f r.0 r.1))

        grow : (k : Pair) → Memᴰ k (flat_map (pairs cells) arrows) → grown_test p cells e lab k ≡ true
        grow k m =
            let q = Next-pair k m in
            let r = c.grown k.last k.cur q in
            and_from _ _ (larger k.last k.cur q.first q.second r)
            (Contains-fits g (block_of k.last) (block_of k.cur) (get_or lab k.last 0)
            (block_in k.last (get_or lab k.last 0) q.first (label_own g (square cells) k.last (on_board k.last q.first) q.first)) r.shift
            (Contains-map g r.shift (SameBlock g cells k.last) (SameBlock g cells k.cur) (λ x. Memᴰ x (block_of k.last)) (λ x. Memᴰ x (block_of k.cur))
            (λ x. in_block k.last x q.first) (λ x. block_in k.cur x q.second) r.copy))

    -- where the test passes the rules hold
    pub test_rules : rules_test (leaf_with e sizes p) cells ≡ true → BlockRules (leaf_with e sizes p) cells
    unfolding rules_test lab grown_test block_of
    test_rules t =
        let z = and-true (all (one_test p cells lab) (names g (square cells) lab) && all (grown_test p cells e lab) (flat_map (pairs cells) arrows)) (all (sized_test p cells lab) sizes) t in
        let s = and-true (all (one_test p cells lab) (names g (square cells) lab)) (all (grown_test p cells e lab) (flat_map (pairs cells) arrows)) z.0 in
        record {
          one = λ i h q. test_one i q (all-mem (one_test p cells lab) (names g (square cells) lab) s.0 (get_or lab i 0) (own_names g (square cells) i h q));
          grown = λ i j c. grow i j c (all-mem (grown_test p cells e lab) (flat_map (pairs cells) arrows) s.1 (record { last = i; between = c.between; cur = j }) (pair_Next i j c));
          sized = λ r m. test_sized r (all-mem (sized_test p cells lab) sizes z.1 r m);
        }
      where
        grow : (i j : ℕ) (c : Next p cells i j) → grown_test p cells e lab (record { last = i; between = c.between; cur = j }) ≡ true → Grown e g (SameBlock g cells i) (SameBlock g cells j)
        grow i j c t =
            let k = and-true (more_test e (length (block_of i)) (length (block_of j))) (any (fits g (block_of i) (block_of j) (get_or lab i 0)) (block_of j)) t in
            let u = any-mem (fits g (block_of i) (block_of j) (get_or lab i 0)) (block_of j) k.1 in
            let m = more_so e (length (block_of i)) (length (block_of j)) k.0 in
            size-Grown g (Dec-block i) (Dec-block j) (below i) (below j) e (taking g (get_or lab i 0) u.0)
            (Contains-map g (taking g (get_or lab i 0) u.0) (λ x. Memᴰ x (block_of i)) (λ x. Memᴰ x (block_of j)) (SameBlock g cells i) (SameBlock g cells j)
            (λ x. block_in i x c.first) (λ x. in_block j x c.second) (fits-Contains g (block_of i) (block_of j) (get_or lab i 0) u.0 u.2))
            (omega (arith, m.0, block_size i c.first, block_size j c.second))
            (λ h. omega (arith, m.1 h, block_size i c.first, block_size j c.second))
