-- Reasons 1 and 2, as Units and Paths compute them, are those of units/specs/Chosen.antt and paths/specs/Chosen.antt: of the lowest numbered group, and no others.
-- Assumes nothing.
use Prim.Native.Nat.{ℕ, ◌≤◌, ◌<◌}
use native.Mathlib.Decide.{dec_lt}
use native.Mathlib.Nat.{le_antisymm}
use native.Mathlib.Omega.{arith}
use mathlib.Core.Logic.{◌⊎◌, inl, inr, ◌↔◌}
use mathlib.Core.Path.{◌≡◌, refl, sym, ap, ◌∙◌, subst}
use mathlib.Core.Bool.{Bool, So, ◌&&◌, not}
use mathlib.Core.List.Memᴰ
use mathlib.Core.List.{List, [], ◌∷◌, Memᴰ}
use mathlib.Core.Option.{none, some}
use Rattle.std.proofs.Math.Option.{none-ne-some}
use lib.ListN.{length, get_or-eq_default}
use borrow.Author.Tests.{eq-eqb}
use Rattle.std.proofs.lemmas.Bool.{and_from}
use Rattle.grid.specs.Lists.{Rising, nil, cons, any, filter, last}
use Rattle.grid.specs.Grid.{Grid, size, cells_of, touches, Adjacent}
use Rattle.grid.specs.Link.{here}
use Rattle.grid.proofs.LinkLaws.{Linked-end, Linked-start, Linked-trans, Linked-sym}
use Rattle.grid.specs.Cells.{Literal, empty, square, potential}
use Rattle.grid.proofs.ListLaws.{and-true, not-So, So-not, filter-mem, mem-filter, any-mem, mem-any, upto-mem, last-mem}
use Rattle.grid.proofs.RisingLaws.{filter-Rising, cells_Rising, first_least, last_greatest, Rising-same}
use Rattle.grid.proofs.GridLaws.{adj_sym, Adjacent-touches, touches-Adjacent, in_cells}
use Rattle.grid.proofs.CellLaws.{square_below}
use Rattle.record.specs.Record.{Puzzle}
use Rattle.groups.specs.Groups.{Joined, labels, group, names}
use Rattle.groups.specs.Arrows.{OnArrow, on_arrow}
use Rattle.groups.proofs.ArrowLaws.{arrow_So, So-arrow}
use Rattle.groups.specs.Rules.{SameBlock}
use Rattle.groups.proofs.GroupLaws.{group-mem, mem-group, group-Rising, names-Rising, names_own, own_names, label_linked, linked_label, label_own, label_least, linked_size}
use Rattle.literals.specs.Literals.{Found, reason_if, or_else, first_found_of, each}
use Rattle.units.specs.Units.{boundary, reason1_at, reason1}
use Rattle.paths.specs.Paths.{way, reason2_at, reason2}
use Rattle.paths.specs.BreadthFirst.{ByParents}
use Rattle.units.specs.Chosen.{SamePotential, Stranded, Boundary, Reason1}
use Rattle.paths.specs.Chosen.{Crossed, Reason2}
use Rattle.reasons.proofs.First.{first_none, reason_if-some}
use Rattle.reasons.proofs.BreadthFirstLaws.{path-ByParents, ByParents-only}

-- ---- the first of a rising list is the lowest

-- x is the lowest member of l that gives a reason, and gives r
record Lowest (f : ℕ → Found) (l : List ℕ) (r : List Literal) : Type 0 where
  x : ℕ
  member : Memᴰ x l
  gives : f x ≡ some r
  low : (y : ℕ) (s : List Literal) → Memᴰ y l → f y ≡ some s → x ≤ y

first_Lowest : (f : ℕ → Found) {l : List ℕ} → Rising l → (r : List Literal) → first_found_of f l ≡ some r → Lowest f l r
unfolding first_found_of or_else
first_Lowest f nil r e = absurd (none-ne-some r e)
first_Lowest f (cons {x} {xs} h k) r e = go (f x) refl e (λ q. first_Lowest f k r q)
  where
    later : f x ≡ none → (w : Lowest f xs r) (y : ℕ) (s : List Literal) → Memᴰ y (x ∷ xs) → f y ≡ some s → w.x ≤ y
    later n w y s (Memᴰ.head q) e = absurd (let z : ◌≡◌ {A = ℕ} 0 1 = cc (ap f q) in omega arith)
    later n w y s (Memᴰ.tail m) e = w.low y s m e

    go : (o : Found) → f x ≡ o → or_else o (first_found_of f xs) ≡ some r → (first_found_of f xs ≡ some r → Lowest f xs r) → Lowest f (x ∷ xs) r
    go (some s) q e ih = record { x = x; member = Memᴰ.head refl; gives = q ∙ e; low = λ y s m e. first_least (cons h k) y m }
    go none q e ih = let w = ih e in record { x = w.x; member = Memᴰ.tail w.member; gives = w.gives; low = later q w }

-- P says that a number gives a reason, G which; the rising list l has all that give one
module _ (f : ℕ → Found) (l : List ℕ) (rise : Rising l) (P : ℕ → Type 0) (G : ℕ → List Literal → Type 0)
    (gives : (x : ℕ) (r : List Literal) → Memᴰ x l → f x ≡ some r → P x × G x r)
    (given : (x : ℕ) → P x → Memᴰ x l × ((r : List Literal) × (f x ≡ some r)))
    (only : (x : ℕ) (r : List Literal) → P x → G x r → f x ≡ some r) where
  first_is : (r : List Literal) → first_found_of f l ≡ some r → (x : ℕ) × P x × G x r × ((y : ℕ) → P y → x ≤ y)
  first_is r e =
      let w = first_Lowest f rise r e in
      let q = gives w.x r w.member w.gives in
      (w.x, q.0, q.1, λ y a. let v = given y a in w.low y v.1.0 v.0 v.1.1)

  none_is : first_found_of f l ≡ none → (x : ℕ) → ¬ P x
  none_is e x a = let v = given x a in none-ne-some v.1.0 (sym (first_none f l e v.0) ∙ v.1.1)

  is_first : (r : List Literal) → (x : ℕ) × P x × G x r × ((y : ℕ) → P y → x ≤ y) → first_found_of f l ≡ some r
  is_first r (x, a, b, h) = go (first_found_of f l) refl
    where
      go : (o : Found) → first_found_of f l ≡ o → first_found_of f l ≡ some r
      go none e = absurd (none_is e x a)
      go (some s) e =
          let w = first_is s e in
          let q : x ≡ w.0 = le_antisymm (h w.0 w.1) (w.3 x a) in
          e ∙ sym (only w.0 s w.1 w.2) ∙ sym (ap f q) ∙ only x r a b

  is_none : ((x : ℕ) → ¬ P x) → first_found_of f l ≡ none
  is_none h = go (first_found_of f l) refl
    where
      go : (o : Found) → first_found_of f l ≡ o → first_found_of f l ≡ none
      go none e = e
      go (some s) e = let w = first_is s e in absurd (h w.0 w.1)

  -- the first reason is that of the lowest number that gives one, and there is none where no number gives one
  lowest_first : (r : List Literal) → (first_found_of f l ≡ some r) ↔ ((x : ℕ) × P x × G x r × ((y : ℕ) → P y → x ≤ y))
  lowest_first r = (first_is r, is_first r)

  none_first : (first_found_of f l ≡ none) ↔ ((x : ℕ) → ¬ P x)
  none_first = (none_is, is_none)

-- ---- a group's number is its first cell

module _ (g : Grid) (test : ℕ → Bool) (f : ℕ) where
  -- a name is the first cell of its group, which lists the cells that are joined to it
  module _ (m : Memᴰ f (names g test (labels g test))) where
    number_first : (j : ℕ) → Joined g test f j → f ≤ j
    number_first j r =
        let q = names_own g test f m in
        omega (arith, label_least g test f j q.0 (linked_size g test q.0 r) r, q.2)

    group-Joined : (x : ℕ) → Memᴰ x (group g test (labels g test) f) → Joined g test f x
    group-Joined x n =
        let q = names_own g test f m in
        let r = group-mem g test (labels g test) f x n in
        linked_label g test f x q.0 r.0 q.1 (q.2 ∙ sym r.2)

    Joined-group : (x : ℕ) → Joined g test f x → Memᴰ x (group g test (labels g test) f)
    Joined-group x r =
        let q = names_own g test f m in
        mem-group g test (labels g test) f x (linked_size g test q.0 r) (Linked-end r) (sym (label_linked g test f x q.0 r) ∙ q.2)

  -- the first cell of a group is a name
  first_number : f < size g → So (test f) → ((j : ℕ) → Joined g test f j → f ≤ j) → Memᴰ f (names g test (labels g test))
  first_number l s h =
      let own = label_own g test f l s in
      subst (λ z. Memᴰ z (names g test (labels g test))) (le_antisymm (label_least g test f f l l (here s)) (h _ own)) (own_names g test f l s)

-- ---- reason 1

module _ (p : Puzzle) (cells : List ℕ) (long : length cells ≡ size p.grid) where
  abbrev grid : Grid
  grid = p.grid

  -- the potential groups' numbers
  abbrev numbers : List ℕ
  numbers = names grid (potential cells) (labels grid (potential cells))

  -- the potential group numbered f
  abbrev pot : ℕ → List ℕ
  pot f = group grid (potential cells) (labels grid (potential cells)) f

  -- it has a square and no arrow cell
  abbrev stranded_test : ℕ → Bool
  stranded_test f = any (square cells) (pot f) && not (any (on_arrow p.arrows) (pot f))

  -- cells that aren't empty lie on the grid
  potential< : (c : ℕ) → So (potential cells c) → c < size grid
  unfolding potential empty
  potential< c h = go (dec_lt c (length cells))
    where
      go : Dec (c < length cells) → c < size grid
      go (yes l) = omega (arith, long)
      go (no l) = absurd (not-So h (eq-eqb _ _ (get_or-eq_default cells 0 {n = c} (omega arith))))

  module _ (f : ℕ) (m : Memᴰ f numbers) where
    -- the group lists the cells that are joined to f
    joined : (x : ℕ) → Memᴰ x (pot f) → SamePotential grid cells f x
    joined = group-Joined grid (potential cells) f m

    listed : (x : ℕ) → SamePotential grid cells f x → Memᴰ x (pot f)
    listed = Joined-group grid (potential cells) f m

    -- the test says what it means
    So-Stranded : So (stranded_test f) → Stranded p cells f
    So-Stranded t =
        let q = and-true (any (square cells) (pot f)) _ t in
        let w = any-mem (square cells) (pot f) q.0 in
        record {
          first = number_first grid (potential cells) f m;
          some = (w.0, joined w.0 w.1, w.2);
          none = λ j r a. not-So {a = any (on_arrow p.arrows) (pot f)} q.1 (mem-any (on_arrow p.arrows) (pot f) (listed j r) (So-arrow p.arrows j a));
        }

    Stranded-So : Stranded p cells f → So (stranded_test f)
    Stranded-So s = and_from _ _ (mem-any (square cells) (pot f) (listed s.some.0 s.some.1) s.some.2)
        (So-not (any (on_arrow p.arrows) (pot f)) (λ t. let w = any-mem (on_arrow p.arrows) (pot f) t in s.none w.0 (joined w.0 w.1) (arrow_So p.arrows w.0 w.2)))

    -- the squares of the group, and the empty cells that touch it
    abbrev squares : List ℕ
    squares = filter (square cells) (pot f)

    abbrev bounds : List ℕ
    bounds = filter (λ i. empty cells i && touches grid (pot f) i) (cells_of grid)

    bounds_exact : (i : ℕ) → Memᴰ i bounds ↔ (So (empty cells i) × ((j : ℕ) × Adjacent grid i j × SamePotential grid cells f j))
    unfolding cells_of
    bounds_exact i = (to, from)
      where
        to : Memᴰ i bounds → So (empty cells i) × ((j : ℕ) × Adjacent grid i j × SamePotential grid cells f j)
        to n =
            let q = filter-mem (λ k. empty cells k && touches grid (pot f) k) (cells_of grid) n in
            let t = and-true (empty cells i) _ q.1 in
            let w = touches-Adjacent grid (pot f) i (upto-mem (size grid) q.0) t.1 in
            (t.0, (w.0, w.1, joined w.0 w.2))

        from : So (empty cells i) × ((j : ℕ) × Adjacent grid i j × SamePotential grid cells f j) → Memᴰ i bounds
        from (z, w) = mem-filter (λ k. empty cells k && touches grid (pot f) k) (cells_of grid) (in_cells grid i w.1.0)
            (and_from _ _ z (Adjacent-touches grid (pot f) i w.0 w.1 (listed w.0 w.2)))

    -- the computed literals are those of the meaning
    bounded : Stranded p cells f → Boundary p cells f (boundary grid cells (pot f))
    bounded s =
        let lm = filter-mem (square cells) (pot f) (last-mem 0 squares (mem-filter (square cells) (pot f) (listed s.some.0 s.some.1) s.some.2)) in
        record {
          empties = bounds;
          rising = filter-Rising _ (cells_Rising grid);
          exact = bounds_exact;
          last = last 0 squares;
          within = joined _ lm.0;
          filled = lm.1;
          latest = λ j r q. last_greatest 0 (filter-Rising (square cells) (group-Rising grid (potential cells) _ f)) j (mem-filter (square cells) (pot f) (listed j r) q);
          literals = refl;
        }

  -- no others are
  Boundary-only : (f : ℕ) (r t : List Literal) → Boundary p cells f r → Boundary p cells f t → r ≡ t
  Boundary-only f r t a b =
      let e : a.empties ≡ b.empties = Rising-same a.rising b.rising (λ i n. (b.exact i).1 ((a.exact i).0 n)) (λ i n. (a.exact i).1 ((b.exact i).0 n)) in
      let q : a.last ≡ b.last = le_antisymm (b.latest _ a.within a.filled) (a.latest _ b.within b.filled) in
      cc

  -- what a group gives
  reason1_gives : (f : ℕ) (r : List Literal) → Memᴰ f numbers → reason1_at p cells (pot f) ≡ some r → Stranded p cells f × Boundary p cells f r
  unfolding reason1_at
  reason1_gives f r m e =
      let q = reason_if-some (stranded_test f) (boundary grid cells (pot f)) r e in
      let s = So-Stranded f m q.0 in
      (s, subst (Boundary p cells f) q.1 (bounded f m s))

  reason1_given : (f : ℕ) → Stranded p cells f → Memᴰ f numbers × ((r : List Literal) × (reason1_at p cells (pot f) ≡ some r))
  unfolding reason1_at reason_if
  reason1_given f s =
      let h = Linked-start s.some.1 in
      let m = first_number grid (potential cells) f (potential< f h) h s.first in
      (m, (boundary grid cells (pot f), rw (Stranded-So f m s) refl))

  reason1_only : (f : ℕ) (r : List Literal) → Stranded p cells f → Boundary p cells f r → reason1_at p cells (pot f) ≡ some r
  reason1_only f r s b =
      let v = reason1_given f s in
      v.1.1 ∙ ap some (Boundary-only f _ r (reason1_gives f _ v.0 v.1.1).1 b)

  numbers-Rising : Rising numbers
  numbers-Rising = names-Rising grid (potential cells) (labels grid (potential cells))

  -- reason 1 is that of the lowest numbered potential group with a square and no arrow cell, and nothing else
  pub Reason1-chosen : (r : List Literal) → (reason1 p cells ≡ some r) ↔ Reason1 p cells r
  unfolding reason1
  Reason1-chosen r =
      let (to, from) = lowest_first _ _ numbers-Rising (Stranded p cells) (Boundary p cells) reason1_gives reason1_given reason1_only r in (
        λ e. let (f, s, b, h) = to e in record { number = f; stranded = s; lowest = h; boundary = b },
        λ w. from (w.number, w.stranded, w.boundary, w.lowest),
      )

  -- there is none exactly where no potential group is such
  pub reason1-none : (reason1 p cells ≡ none) ↔ ((f : ℕ) → ¬ Stranded p cells f)
  unfolding reason1
  reason1-none = none_first _ _ numbers-Rising (Stranded p cells) (Boundary p cells) reason1_gives reason1_given reason1_only

  -- ---- reason 2

  -- squares lie on the grid
  square< : (c : ℕ) → So (square cells c) → c < size grid
  square< c s = omega (arith, square_below cells c s, long)

  -- the blocks' numbers
  abbrev blocks : List ℕ
  blocks = names grid (square cells) (labels grid (square cells))

  -- the arrow cells of the block numbered f
  abbrev arrow_cells : ℕ → List ℕ
  arrow_cells f = filter (on_arrow p.arrows) (group grid (square cells) (labels grid (square cells)) f)

  arrow_cells-Rising : (f : ℕ) → Rising (arrow_cells f)
  arrow_cells-Rising f = filter-Rising (on_arrow p.arrows) (group-Rising grid (square cells) (labels grid (square cells)) f)

  module _ (f : ℕ) (m : Memᴰ f blocks) where
    -- they are the arrow cells that are joined to f
    arrow_cell : (x : ℕ) → Memᴰ x (arrow_cells f) → SameBlock grid cells f x × OnArrow p.arrows x
    arrow_cell x n = let q = filter-mem (on_arrow p.arrows) _ n in (group-Joined grid (square cells) f m x q.0, arrow_So p.arrows x q.1)

    cell_arrow : (x : ℕ) → SameBlock grid cells f x → OnArrow p.arrows x → Memᴰ x (arrow_cells f)
    cell_arrow x r o = mem-filter (on_arrow p.arrows) _ (Joined-group grid (square cells) f m x r) (So-arrow p.arrows x o)

    -- the first two listed are the first two
    Crossed-of : (a b : ℕ) (rest : List ℕ) → arrow_cells f ≡ a ∷ b ∷ rest → Crossed p cells f a b
    Crossed-of a b rest e = go (subst Rising e (arrow_cells-Rising f))
      where
        listed_at : (j : ℕ) → Memᴰ j (a ∷ b ∷ rest) → SameBlock grid cells f j × OnArrow p.arrows j
        listed_at j n = arrow_cell j (subst (Memᴰ j) (sym e) n)

        others : Rising (b ∷ rest) → (j : ℕ) → Memᴰ j (a ∷ b ∷ rest) → (j ≡ a) ⊎ (b ≤ j)
        others k j (Memᴰ.head q) = inl q
        others k j (Memᴰ.tail n) = inr (first_least k j n)

        go : Rising (a ∷ b ∷ rest) → Crossed p cells f a b
        go (cons h k) = record {
          first = number_first grid (square cells) f m;
          one = listed_at a (Memᴰ.head refl);
          two = listed_at b (Memᴰ.tail (Memᴰ.head refl));
          order = h b (Memᴰ.head refl);
          rest = λ j r o. others k j (subst (Memᴰ j) e (cell_arrow j r o));
        }

    of_Crossed : (a b : ℕ) → Crossed p cells f a b → (rest : List ℕ) × (arrow_cells f ≡ a ∷ b ∷ rest)
    of_Crossed a b c = go (arrow_cells-Rising f) (cell_arrow a c.one.0 c.one.1) (cell_arrow b c.two.0 c.two.1) (λ j n. let q = arrow_cell j n in c.rest j q.0 q.1)
      where
        go : {l : List ℕ} → Rising l → Memᴰ a l → Memᴰ b l → ((j : ℕ) → Memᴰ j l → (j ≡ a) ⊎ (b ≤ j)) → (rest : List ℕ) × (l ≡ a ∷ b ∷ rest)
        go nil na nb w = absurd (Memᴰ.not-nil na)
        go (cons {x} h nil) na nb w = absurd (omega (arith, c.order, Memᴰ.eq_of_singleton na, Memᴰ.eq_of_singleton nb))
        go (cons {x} h (cons {x = y} {xs} k q)) na nb w =
            let ex = at_a (w x (Memᴰ.head refl)) in
            let ey = at_b ex nb (w y (Memᴰ.tail (Memᴰ.head refl))) in
            (xs, cc)
          where
            at_a : (x ≡ a) ⊎ (b ≤ x) → x ≡ a
            at_a (inl e) = e
            at_a (inr n) = absurd (omega (arith, c.order, first_least (cons h (cons k q)) a na))

            at_b : x ≡ a → Memᴰ b (x ∷ y ∷ xs) → (y ≡ a) ⊎ (b ≤ y) → y ≡ b
            at_b ex (Memᴰ.head e) z = absurd (omega (arith, c.order))
            at_b ex (Memᴰ.tail n) (inl e) = absurd (omega (arith, h y (Memᴰ.head refl)))
            at_b ex (Memᴰ.tail n) (inr z) = le_antisymm (first_least (cons k q) b n) z

  -- the block numbered f has two arrow cells, and r is a way between the first two
  abbrev HasTwo : ℕ → Type 0
  HasTwo f = (a b : ℕ) × Crossed p cells f a b

  abbrev WayBetween : ℕ → List Literal → Type 0
  WayBetween f r = (a b : ℕ) × Crossed p cells f a b × ByParents grid cells a b r

  -- the two are in one block
  across : {f a b : ℕ} → Crossed p cells f a b → SameBlock grid cells b a
  across c = Linked-trans (Linked-sym (adj_sym grid) c.two.0) c.one.0

  -- what a block gives
  reason2_gives : (f : ℕ) (r : List Literal) → Memᴰ f blocks → reason2_at grid cells (arrow_cells f) ≡ some r → HasTwo f × WayBetween f r
  unfolding reason2_at
  reason2_gives f r m e = go (arrow_cells f) refl e
    where
      go : (l : List ℕ) → arrow_cells f ≡ l → reason2_at grid cells l ≡ some r → HasTwo f × WayBetween f r
      go [] q e = absurd (none-ne-some r e)
      go (a ∷ []) q e = absurd (none-ne-some r e)
      go (a ∷ b ∷ rest) q e =
          let c = Crossed-of f m a b rest q in
          let e : each 1 (way grid cells a b) ≡ r = cc in
          ((a, b, c), (a, b, c, subst (ByParents grid cells a b) e (path-ByParents grid cells square< b (Linked-start (across c)) a (across c))))

  Crossed-gives : (f a b : ℕ) → Crossed p cells f a b → Memᴰ f blocks × (reason2_at grid cells (arrow_cells f) ≡ some (each 1 (way grid cells a b)))
  unfolding reason2_at
  Crossed-gives f a b c =
      let h = Linked-start c.one.0 in
      let m = first_number grid (square cells) f (square< f h) h c.first in
      (m, ap (reason2_at grid cells) (of_Crossed f m a b c).1)

  reason2_given : (f : ℕ) → HasTwo f → Memᴰ f blocks × ((r : List Literal) × (reason2_at grid cells (arrow_cells f) ≡ some r))
  reason2_given f (a, b, c) = let v = Crossed-gives f a b c in (v.0, (each 1 (way grid cells a b), v.1))

  reason2_only : (f : ℕ) (r : List Literal) → HasTwo f → WayBetween f r → reason2_at grid cells (arrow_cells f) ≡ some r
  reason2_only f r _ (a, b, c, w) = (Crossed-gives f a b c).1 ∙ ap some (sym (ByParents-only grid cells square< b (Linked-start (across c)) a (across c) r w))

  blocks-Rising : Rising blocks
  blocks-Rising = names-Rising grid (square cells) (labels grid (square cells))

  -- reason 2 is that of the lowest numbered block with two or more arrow cells, and nothing else
  pub Reason2-chosen : (r : List Literal) → (reason2 p cells ≡ some r) ↔ Reason2 p cells r
  unfolding reason2
  Reason2-chosen r =
      let (to, from) = lowest_first _ _ blocks-Rising HasTwo WayBetween reason2_gives reason2_given reason2_only r in (
        λ e. let (f, t, (a, b, c, w), h) = to e in record { number = f; a = a; b = b; crossed = c; lowest = λ f c d k. h f (c, d, k); way = w },
        λ w. from (w.number, (w.a, w.b, w.crossed), (w.a, w.b, w.crossed, w.way), λ f (c, d, k). w.lowest f c d k),
      )

  -- there is none exactly where no block is such
  pub reason2-none : (reason2 p cells ≡ none) ↔ ((f a b : ℕ) → ¬ Crossed p cells f a b)
  unfolding reason2
  reason2-none =
      let (to, from) = none_first _ _ blocks-Rising HasTwo WayBetween reason2_gives reason2_given reason2_only in
      (λ e f a b c. to e f (a, b, c), λ h. from (λ f (a, b, c). h f a b c))
