-- The kinds that Kinds computes mean the predicates of Meaning.
-- Assumes nothing.
use Prim.Native.Nat.{ℕ, ◌<◌}
use mathlib.Core.Logic.{◌⊎◌, inl, inr}
use mathlib.Core.Path.{◌≡◌, refl, sym, ap, ◌∙◌, subst}
use mathlib.Core.Bool.{Bool, true, false, So, cond, ◌&&◌, false≢true}
use mathlib.Core.List.Memᴰ
use mathlib.Core.List.{List, [], ◌∷◌, map, Memᴰ}
use native.Mathlib.Omega.{arith}
use native.Mathlib.Decide.{dec_lt}
use lib.Dec.{eqb}
use lib.ListN.{get_or}
use borrow.Author.Tests.{eqb-true, eq-eqb}
use Rattle.std.proofs.lemmas.Bool.{and_from}
use Rattle.grid.proofs.ListLaws.{once_one, once-nil, filter-mem, mem-filter, mem-upto, Dec-So, So-false, and-true, any-mem, mem-any, once-mem, mem-once}
use Rattle.grid.proofs.GridLaws.{Dec-Adjacent, adj_sym}
use Rattle.grid.specs.Lists.{filter}
use Rattle.grid.specs.Grid.{Grid, size, cells_of, neighbours}
use Rattle.grid.proofs.LinkLaws.{Linked-end, Linked-start, Linked-trans}
use Rattle.grid.proofs.CellLaws.{undecided_not_empty, square_not_undecided, square_not_empty, undecided_below, square_below, cell_cases}
use Rattle.grid.specs.Cells.{empty, square, undecided}
use Rattle.groups.specs.Groups.{labels, Labels}
use Rattle.groups.specs.Arrows.{OnArrow}
use Rattle.groups.proofs.ArrowLaws.{arrow_So, So-arrow, Dec-arrow}
use Rattle.groups.proofs.GroupLaws.{labelled}
use Rattle.kinds.specs.Kinds.{Kind, vacant, floating, in_block, is_floating, is_in, is_neighbour, kind_touching, arrow_block, blocks_touched, kind_at, kinds_of, has}
use Rattle.kinds.specs.Meaning.{Setting, partial_of, Block, InArrow, Touch, Neighbour, Floating, Reach}
use Rattle.kinds.proofs.Confine.{Decide}
use Rattle.kinds.proofs.Decide.{all_decided, Reach-decided}
use Rattle.kinds.proofs.BlockArrays.{kind_get, kind_past}

-- ---- kinds by tests

-- kind_at, with its tests as arguments
abbrev pub kind_of : Bool → Bool → Bool → ℕ → List ℕ → Kind
kind_of e s a m l = cond e vacant (cond s (cond a (in_block m) floating) (kind_touching l))

pub in_of : (e s a : Bool) (m : ℕ) (l : List ℕ) (f : ℕ) → So (is_in f (kind_of e s a m l)) → So s × So a × (m ≡ f)
unfolding is_in kind_touching
in_of true s a m l f h = absurd (false≢true h)
in_of false true true m l f h = (refl, refl, eqb-true m f h)
in_of false true false m l f h = absurd (false≢true h)
in_of false false a m [] f h = absurd (false≢true h)
in_of false false a m (x ∷ []) f h = absurd (false≢true h)
in_of false false a m (x ∷ y ∷ l) f h = absurd (false≢true h)

pub beside_of : (e s a : Bool) (m : ℕ) (l : List ℕ) (f : ℕ) → So (is_neighbour f (kind_of e s a m l)) → (e ≡ false) × (s ≡ false) × (l ≡ f ∷ [])
unfolding is_neighbour kind_touching
beside_of true s a m l f h = absurd (false≢true h)
beside_of false true true m l f h = absurd (false≢true h)
beside_of false true false m l f h = absurd (false≢true h)
beside_of false false a m [] f h = absurd (false≢true h)
beside_of false false a m (x ∷ []) f h = (refl, refl, ap (λ y. y ∷ []) (eqb-true x f h))
beside_of false false a m (x ∷ y ∷ l) f h = absurd (false≢true h)

floating_of : (e s a : Bool) (m : ℕ) (l : List ℕ) → So (is_floating (kind_of e s a m l)) → (e ≡ false) × ((So s × (a ≡ false)) ⊎ ((s ≡ false) × (l ≡ [])))
unfolding is_floating kind_touching
floating_of true s a m l h = absurd (false≢true h)
floating_of false true true m l h = absurd (false≢true h)
floating_of false true false m l h = (refl, inl (refl, refl))
floating_of false false a m [] h = (refl, inr (refl, refl))
floating_of false false a m (x ∷ []) h = absurd (false≢true h)
floating_of false false a m (x ∷ y ∷ l) h = absurd (false≢true h)

vacant_of : (e s a : Bool) (m : ℕ) (l : List ℕ) → kind_of e s a m l ≡ vacant → So e
unfolding kind_touching
vacant_of true s a m l h = refl
vacant_of false true true m l h = absurd (let z : ◌≡◌ {A = ℕ} 0 1 = cc in omega arith)
vacant_of false true false m l h = absurd (let z : ◌≡◌ {A = ℕ} 0 1 = cc in omega arith)
vacant_of false false a m [] h = absurd (let z : ◌≡◌ {A = ℕ} 0 1 = cc in omega arith)
vacant_of false false a m (x ∷ []) h = absurd (let z : ◌≡◌ {A = ℕ} 0 1 = cc in omega arith)
vacant_of false false a m (x ∷ y ∷ l) h = absurd (let z : ◌≡◌ {A = ℕ} 0 1 = cc in omega arith)

module _ (set : Setting) where
  open set use {puzzle, cells, valid}

  abbrev pub grid : Grid
  grid = puzzle.grid

  abbrev pub arrows : List (List ℕ)
  arrows = puzzle.arrows

  -- squares and undecided cells lie on the grid
  pub sq< : (c : ℕ) → So (square cells c) → c < size grid
  sq< c s = omega (arith, square_below cells c s, valid.long)

  pub un< : (c : ℕ) → So (undecided cells c) → c < size grid
  un< c s = omega (arith, undecided_below cells c s, valid.long)

  -- the name of the block of a square
  abbrev pub block_name : ℕ → ℕ
  block_name i = get_or (labels grid (square cells)) i 0

  -- the kinds of all cells
  abbrev pub kinds : List Kind
  kinds = kinds_of puzzle cells (labels grid (square cells))

  -- the kind of a cell
  abbrev pub kind : ℕ → Kind
  kind = kind_at puzzle cells (labels grid (square cells))

  -- the block named f has an arrow cell
  abbrev pub arrowed : ℕ → Bool
  arrowed = arrow_block puzzle cells (labels grid (square cells))

  -- the arrow blocks around a cell, with repetitions
  abbrev pub around : ℕ → List ℕ
  around i = map block_name (filter (λ j. square cells j && arrowed (block_name j)) (neighbours grid i))

  -- the arrow blocks around a cell, each once
  abbrev pub listed : ℕ → List ℕ
  listed = blocks_touched puzzle cells (labels grid (square cells))

  -- what a kind says of the cell
  pub kind-vacant : (i : ℕ) → kind i ≡ vacant → So (empty cells i)
  unfolding kind_at
  kind-vacant i e = vacant_of (empty cells i) (square cells i) (arrowed (block_name i)) (block_name i) (listed i) e

  pub kind-in_block : (i x : ℕ) → kind i ≡ in_block x → So (square cells i)
  unfolding kind_at is_in
  kind-in_block i x e = (in_of (empty cells i) (square cells i) (arrowed (block_name i)) (block_name i) (listed i) x (subst (λ z. So (is_in x z)) (sym e) (eq-eqb x x refl))).0

  has-So : (p : Kind → Bool) → ¬ So (p vacant) → (i : ℕ) → So (has p kinds i) → (i < size grid) × So (p (kind i))
  unfolding has
  has-So p v i h = go (dec_lt i (size grid))
    where
      go : Dec (i < size grid) → (i < size grid) × So (p (kind i))
      go (yes l) = (l, subst (λ z. So (p z)) (kind_get puzzle cells (labels grid (square cells)) i l) h)
      go (no l) = absurd (v (subst (λ z. So (p z)) (kind_past puzzle cells (labels grid (square cells)) i (omega arith)) h))

  So-has : (p : Kind → Bool) (i : ℕ) → i < size grid → So (p (kind i)) → So (has p kinds i)
  unfolding has
  So-has p i l h = subst (λ z. So (p z)) (sym (kind_get puzzle cells (labels grid (square cells)) i l)) h

  -- the law of the blocks' names
  pub block_Labels : Labels grid (square cells)
  block_Labels = labelled grid (square cells) sq<

  -- blocks, touching and the like are decided
  pub decisions : Decide (partial_of set)
  decisions = all_decided (partial_of set) (size grid) (Dec-Adjacent grid) (Dec-arrow arrows) (λ c. Dec-So (square cells c)) (λ c. Dec-So (undecided cells c)) sq< un< (adj_sym grid)
      (λ c. cell_cases cells c (valid.three c))

  -- the reach is decided
  pub Dec-Reach : (a c : ℕ) → Dec (Reach (partial_of set) a c)
  Dec-Reach = Reach-decided (partial_of set) (size grid) (Dec-Adjacent grid) (Dec-arrow arrows) (λ c. Dec-So (square cells c)) (λ c. Dec-So (undecided cells c)) sq< un<

  -- a name is an arrow block's
  arrowed-So : (f : ℕ) → So (arrowed f) → (d : ℕ) × So (square cells d) × OnArrow arrows d × (block_name d ≡ f)
  unfolding arrow_block
  arrowed-So f h =
      let r = any-mem _ (cells_of grid) h in
      let q = and-true (square cells r.0 && eqb (block_name r.0) f) _ r.2 in
      let q' = and-true (square cells r.0) _ q.0 in
      (r.0, q'.0, arrow_So arrows r.0 q.1, eqb-true _ _ q'.1)

  So-arrowed : (f d : ℕ) → So (square cells d) → OnArrow arrows d → block_name d ≡ f → So (arrowed f)
  unfolding arrow_block cells_of
  So-arrowed f d s a e = mem-any _ (cells_of grid) (mem-upto (size grid) (sq< d s)) (and_from _ _ (and_from _ _ s (eq-eqb _ _ e)) (So-arrow arrows d a))

  -- a square's block has an arrow cell
  pub arrowed_in : (c : ℕ) → So (square cells c) → So (arrowed (block_name c)) → InArrow (partial_of set) c
  arrowed_in c s h = let r = arrowed-So (block_name c) h in (r.0, r.2, block_Labels.same r.0 c r.1 s r.3)

  pub in_arrowed : (c : ℕ) → InArrow (partial_of set) c → So (arrowed (block_name c))
  in_arrowed c (d, a, l) = So-arrowed (block_name c) d (Linked-start l) a (block_Labels.linked d c l)

  -- what the kind of a cell of an arrow block says
  pub kind_arrow : (i x : ℕ) → kind i ≡ in_block x → InArrow (partial_of set) i × (block_name i ≡ x)
  unfolding kind_at is_in
  kind_arrow i x e =
      let q = in_of (empty cells i) (square cells i) (arrowed (block_name i)) (block_name i) (listed i) x (subst (λ z. So (is_in x z)) (sym e) (eq-eqb x x refl)) in
      (arrowed_in i q.0 q.1, q.2)

  -- the blocks around an undecided cell
  pub around-So : (i f : ℕ) → i < size grid → Memᴰ f (around i) → (d : ℕ) × OnArrow arrows d × Touch (partial_of set) d i × (block_name d ≡ f) × So (square cells d)
  around-So i f l m =
      let r = Memᴰ.of_map block_name _ m in
      let q = filter-mem (λ j. square cells j && arrowed (block_name j)) (neighbours grid i) r.1 in
      let q' = and-true (square cells r.0) _ q.1 in
      let w = arrowed-So (block_name r.0) q'.1 in
      (w.0, w.2, (r.0, (l, q.0), block_Labels.same w.0 r.0 w.1 q'.0 w.3), w.3 ∙ r.2, w.1)

  pub so_around : (i d : ℕ) → OnArrow arrows d → Touch (partial_of set) d i → Memᴰ (block_name d) (around i)
  so_around i d a (y, e, l) = subst (λ x. Memᴰ x (around i)) (sym (block_Labels.linked d y l))
      (Memᴰ.map block_name (mem-filter (λ j. square cells j && arrowed (block_name j)) (neighbours grid i) e.1 (and_from _ _ (Linked-end l) (in_arrowed y (d, a, l)))))

  -- the three kinds
  pub in_blk : (a i : ℕ) → So (square cells a) → So (has (is_in (block_name a)) kinds i) → Block (partial_of set) a i
  unfolding kind_at is_in
  in_blk a i sa h =
      let r = has-So (is_in (block_name a)) false≢true i h in
      let q = in_of (empty cells i) (square cells i) (arrowed (block_name i)) (block_name i) (listed i) (block_name a) r.1 in
      block_Labels.same a i sa q.0 (sym q.2)

  pub blk_in : (a i : ℕ) → OnArrow arrows a → Block (partial_of set) a i → So (has (is_in (block_name a)) kinds i)
  unfolding kind_at is_in
  blk_in a i ar l = So-has (is_in (block_name a)) i (sq< i (Linked-end l))
      (rw (So-false (empty cells i) (square_not_empty cells i (Linked-end l)), Linked-end l, in_arrowed i (a, ar, l)) (eq-eqb _ _ (sym (block_Labels.linked a i l))))

  pub listed-mem : (i f : ℕ) → Memᴰ f (listed i) → Memᴰ f (around i)
  unfolding blocks_touched
  listed-mem i f m = once-mem (around i) m

  pub mem-listed : (i f : ℕ) → Memᴰ f (around i) → Memᴰ f (listed i)
  unfolding blocks_touched
  mem-listed i f m = mem-once (around i) m

  pub undecided-So : (i : ℕ) → empty cells i ≡ false → square cells i ≡ false → So (undecided cells i)
  undecided-So i e s = go (cell_cases cells i (valid.three i))
    where
      go : So (empty cells i) ⊎ So (square cells i) ⊎ So (undecided cells i) → So (undecided cells i)
      go (inl z) = absurd (false≢true (sym e ∙ z))
      go (inr (inl z)) = absurd (false≢true (sym s ∙ z))
      go (inr (inr z)) = z

  pub un_sq_false : (i : ℕ) → So (undecided cells i) → square cells i ≡ false
  un_sq_false i u = So-false (square cells i) (λ z. square_not_undecided cells i z u)

  pub un_em_false : (i : ℕ) → So (undecided cells i) → empty cells i ≡ false
  un_em_false i u = So-false (empty cells i) (undecided_not_empty cells i u)

  -- beside the arrow block of a only
  pub beside_nbr : (a i : ℕ) → So (square cells a) → So (has (is_neighbour (block_name a)) kinds i) → Neighbour (partial_of set) a i
  unfolding kind_at is_neighbour
  beside_nbr a i sa h =
      let r = has-So (is_neighbour (block_name a)) false≢true i h in
      let q = beside_of (empty cells i) (square cells i) (arrowed (block_name i)) (block_name i) (listed i) (block_name a) r.1 in
      let w = around-So i (block_name a) r.0 (listed-mem i (block_name a) (subst (λ z. Memᴰ (block_name a) z) (sym q.2) (Memᴰ.head refl))) in (
        undecided-So i q.0 q.1,
        near w.0 w.2 (block_Labels.same a w.0 sa w.4 (sym w.3)),
        λ (d, ad, nb, (y, e, l)). nb (block_Labels.same a d sa (Linked-start l)
            (sym (Memᴰ.eq_of_singleton (subst (λ z. Memᴰ (block_name d) z) q.2 (mem-listed i (block_name d) (so_around i d ad (y, e, l))))))),
      )
    where
      near : (d : ℕ) → Touch (partial_of set) d i → Block (partial_of set) a d → Touch (partial_of set) a i
      near d (y, e, l) k = (y, e, Linked-trans k l)

  pub nbr_beside : (a i : ℕ) → OnArrow arrows a → Neighbour (partial_of set) a i → So (has (is_neighbour (block_name a)) kinds i)
  unfolding kind_at is_neighbour blocks_touched kind_touching
  nbr_beside a i ar (u, t, nf) = So-has (is_neighbour (block_name a)) i (un< i u)
      (rw (un_em_false i u, un_sq_false i u, once_one (around i) (block_name a) (so_around i a ar t) all_a) (eq-eqb (block_name a) (block_name a) refl))
    where
      all_a : (x : ℕ) → Memᴰ x (around i) → x ≡ block_name a
      all_a x m = let w = around-So i x (un< i u) m in go w.0 w.1 w.2 w.3 (decisions.blk a w.0)
        where
          go : (d : ℕ) → OnArrow arrows d → Touch (partial_of set) d i → block_name d ≡ x → Dec (Block (partial_of set) a d) → x ≡ block_name a
          go d ad t e (yes b) = sym e ∙ sym (block_Labels.linked a d b)
          go d ad t e (no b) = absurd (nf (d, ad, b, t))

  -- floating
  pub Floating-So : (i : ℕ) → So (has is_floating kinds i) → Floating (partial_of set) i
  unfolding kind_at is_floating
  Floating-So i h = go q.0 q.1
    where
      r : (i < size grid) × So (is_floating (kind i))
      r = has-So is_floating false≢true i h

      q : (empty cells i ≡ false) × ((So (square cells i) × (arrowed (block_name i) ≡ false)) ⊎ ((square cells i ≡ false) × (listed i ≡ [])))
      q = floating_of (empty cells i) (square cells i) (arrowed (block_name i)) (block_name i) (listed i) r.1

      go : empty cells i ≡ false → (So (square cells i) × (arrowed (block_name i) ≡ false)) ⊎ ((square cells i ≡ false) × (listed i ≡ [])) → Floating (partial_of set) i
      go e (inl (s, n)) = inl (s, λ w. false≢true (sym n ∙ in_arrowed i w))
      go e (inr (s, n)) = inr (undecided-So i e s, λ (d, ad, t). Memᴰ.not-nil (subst (λ z. Memᴰ (block_name d) z) n (mem-listed i (block_name d) (so_around i d ad t))))

  pub So-Floating : (i : ℕ) → Floating (partial_of set) i → So (has is_floating kinds i)
  unfolding kind_at is_floating blocks_touched kind_touching
  So-Floating i (inl (s, n)) = So-has is_floating i (sq< i s)
      (rw (So-false (empty cells i) (square_not_empty cells i s), s, So-false (arrowed (block_name i)) (λ z. n (arrowed_in i s z))))
  So-Floating i (inr (u, n)) = So-has is_floating i (un< i u)
      (rw (un_em_false i u, un_sq_false i u, once-nil (around i) (λ x m. let w = around-So i x (un< i u) m in n (w.0, w.1, w.2))))

  floats< : (c : ℕ) → So (has is_floating kinds c) → c < size grid
  floats< c h = go (Floating-So c h)
    where
      go : Floating (partial_of set) c → c < size grid
      go (inl s) = sq< c s.0
      go (inr u) = un< c u.0

  -- the law of the floating groups' names
  pub float_Labels : Labels grid (has is_floating kinds)
  float_Labels = labelled grid (has is_floating kinds) floats<
