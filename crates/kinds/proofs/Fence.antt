-- The computed reach, block and fence.
-- Assumes nothing.
use Prim.Native.Nat.{ℕ, ◌<◌}
use mathlib.Core.Logic.{◌⊎◌, inl, inr}
use mathlib.Core.Path.{◌≡◌, refl, sym, ◌∙◌, subst}
use mathlib.Core.Bool.{So, ◌&&◌, ◌||◌, not}
use mathlib.Core.List.{List, Memᴰ}
use native.Mathlib.Omega.{arith}
use lib.Dec.{eqb}
use lib.ListN.{length, get_or}
use borrow.Author.Tests.{eqb-true, eq-eqb}
use Rattle.std.proofs.lemmas.Bool.{and_from}
use Rattle.grid.proofs.GridLaws.{Adjacent-touches, adj_sym}
use Rattle.grid.proofs.ListLaws.{filter-mem, mem-filter, mem-upto, mem-flat_map, So-false, or-So, So-orl, So-orr, and-true, So-not, any-mem, mem-any}
use Rattle.grid.specs.Grid.{Grid, size, cells_of, neighbours, Adjacent}
use Rattle.grid.specs.Link.{Linked}
use Rattle.grid.proofs.LinkLaws.{Linked-end, Linked-start, Linked-map}
use Rattle.grid.specs.Count.{count}
use Rattle.grid.proofs.Count.{length-filter}
use Rattle.grid.specs.Cells.{Agrees, empty, square, undecided}
use Rattle.grid.proofs.CellLaws.{square_not_empty}
use Rattle.groups.specs.Groups.{labels}
use Rattle.groups.specs.Arrows.{OnArrow}
use Rattle.kinds.proofs.Bridge.{block_Labels, float_Labels, decisions, sq<, un<, block_name, kinds, kind, in_blk, blk_in, beside_nbr, nbr_beside, Floating-So, So-Floating, in_arrowed}
use Rattle.kinds.proofs.BlockArrays.{kind_get}
use Rattle.kinds.specs.Kinds.{Kind, vacant, in_block, is_floating, is_in, is_neighbour, kind_at, has, View, view, view_with, block, float_near, in_reach, reach, disturbing, fence_at, fence}
use Rattle.kinds.specs.Meaning.{PartialBoard, Block, InArrow, Touch, Floating, Reach, Setting, partial_of}
use Rattle.kinds.proofs.Confine.{Fenced}

module _ (set : Setting) where
  open set use {puzzle, cells}

  abbrev grid : Grid
  grid = puzzle.grid

  abbrev pub arrows : List (List ℕ)
  arrows = puzzle.arrows

  -- the board as Confine takes it
  abbrev pub B : PartialBoard
  B = partial_of set

  -- the view of the board
  abbrev pub v : View
  v = view puzzle cells

  -- the kinds of all cells
  abbrev ks : List Kind
  ks = kinds set

  float : (i j : ℕ) → Linked (Adjacent grid) (λ c. So (has is_floating ks c)) i j → Linked (Adjacent grid) (Floating B) i j
  float i j = Linked-map (λ x l. Floating-So set x (Linked-end l))

  float' : (i j : ℕ) → Linked (Adjacent grid) (Floating B) i j → Linked (Adjacent grid) (λ c. So (has is_floating ks c)) i j
  float' i j = Linked-map (λ x l. So-Floating set x (Linked-end l))

  -- the test of the reach
  pub Reach-So : (a i : ℕ) → So (square cells a) → So (in_reach v (block_name set a) i) → Reach B a i
  unfolding in_reach view view_with float_near
  Reach-So a i sa h = go (or-So {a = has (is_in (block_name set a)) ks i || has (is_neighbour (block_name set a)) ks i} h)
    where
      two : So (has (is_in (block_name set a)) ks i) ⊎ So (has (is_neighbour (block_name set a)) ks i) → Reach B a i
      two (inl k) = inl (in_blk set a i sa k)
      two (inr k) = inr (inl (beside_nbr set a i sa k))

      go : So (has (is_in (block_name set a)) ks i || has (is_neighbour (block_name set a)) ks i) ⊎ So (has is_floating ks i && float_near v (block_name set a) (get_or (labels grid (has is_floating ks)) i 0)) → Reach B a i
      go (inl k) = two (or-So {a = has (is_in (block_name set a)) ks i} k)
      go (inr k) =
          let q = and-true (has is_floating ks i) _ k in
          let r = any-mem _ (cells_of grid) q.1 in
          let s = and-true (has (is_neighbour (block_name set a)) ks r.0) _ r.2 in
          let t = any-mem _ (neighbours grid r.0) s.1 in
          let u = and-true (has is_floating ks t.0) _ t.2 in
          let nb = beside_nbr set a r.0 sa s.0 in
          inr (inr (r.0, t.0, nb, (un< set r.0 nb.0, t.1), float t.0 i ((float_Labels set).same t.0 i u.0 q.0 (eqb-true _ _ u.1))))

  pub So-Reach : (a i : ℕ) → OnArrow arrows a → Reach B a i → So (in_reach v (block_name set a) i)
  unfolding in_reach view view_with float_near cells_of
  So-Reach a i ar (inl b) = So-orl _ (So-orl _ (blk_in set a i ar b))
  So-Reach a i ar (inr (inl m)) = So-orl _ (So-orr (has (is_in (block_name set a)) ks i) (nbr_beside set a i ar m))
  So-Reach a i ar (inr (inr (m, f, nb, e, l))) =
      let k = float' f i l in
      So-orr (has (is_in (block_name set a)) ks i || has (is_neighbour (block_name set a)) ks i) (and_from _ _ (Linked-end k)
      (mem-any _ (cells_of grid) (mem-upto (size grid) (un< set m nb.0))
      (and_from _ _ (nbr_beside set a m ar nb)
      (mem-any _ (neighbours grid m) e.1 (and_from _ _ (Linked-start k) (eq-eqb _ _ ((float_Labels set).linked f i k)))))))

  pub reach< : (a i : ℕ) → Reach B a i → i < size grid
  reach< a i (inl b) = sq< set i (Linked-end b)
  reach< a i (inr (inl m)) = un< set i m.0
  reach< a i (inr (inr (m, f, nb, e, l))) = go (Linked-end l)
    where
      go : Floating B i → i < size grid
      go (inl s) = sq< set i s.0
      go (inr u) = un< set i u.0

  -- the list of the reach
  pub in_Reach : (a i : ℕ) → OnArrow arrows a → Reach B a i → Memᴰ i (reach v (block_name set a))
  unfolding reach cells_of view view_with
  in_Reach a i ar r = mem-filter (in_reach v (block_name set a)) (cells_of grid) (mem-upto (size grid) (reach< a i r)) (So-Reach a i ar r)

  pub Reach-in : (a i : ℕ) → So (square cells a) → Memᴰ i (reach v (block_name set a)) → Reach B a i
  unfolding reach view view_with
  Reach-in a i sa m = Reach-So a i sa (filter-mem (in_reach v (block_name set a)) (cells_of grid) m).1

  -- the list of the block
  pub in_Block : (a i : ℕ) → OnArrow arrows a → Block B a i → Memᴰ i (block v (block_name set a))
  unfolding block cells_of view view_with
  in_Block a i ar b = mem-filter (has (is_in (block_name set a)) ks) (cells_of grid) (mem-upto (size grid) (sq< set i (Linked-end b))) (blk_in set a i ar b)

  pub Block-in : (a i : ℕ) → So (square cells a) → Memᴰ i (block v (block_name set a)) → Block B a i
  unfolding block view view_with
  Block-in a i sa m = in_blk set a i sa (filter-mem (has (is_in (block_name set a)) ks) (cells_of grid) m).1

  -- their lengths are counts
  pub length-Reach : (a : ℕ) → OnArrow arrows a → So (square cells a) → (d_r : (c : ℕ) → Dec (Reach B a c)) → length (reach v (block_name set a)) ≡ count d_r (size grid)
  unfolding reach cells_of view view_with
  length-Reach a ar sa d_r = length-filter (in_reach v (block_name set a)) (size grid) d_r (λ i _. Reach-So a i sa) (λ i _. So-Reach a i ar)

  pub length-block : (a : ℕ) → OnArrow arrows a → So (square cells a) → length (block v (block_name set a)) ≡ count ((decisions set).blk a) (size grid)
  unfolding block cells_of view view_with
  length-block a ar sa = length-filter (has (is_in (block_name set a)) ks) (size grid) ((decisions set).blk a) (λ i _. in_blk set a i sa) (λ i _. blk_in set a i ar)

  -- the kind of an empty cell, and of a cell of an arrow block
  pub kind-empty : (i : ℕ) → So (empty cells i) → kind set i ≡ vacant
  unfolding kind_at
  kind-empty i z = rw z

  pub kind_in : (i : ℕ) → InArrow B i → kind set i ≡ in_block (block_name set i)
  unfolding kind_at
  kind_in i w = rw (So-false (empty cells i) (square_not_empty cells i (Linked-end w.2)), Linked-end w.2, in_arrowed set i w)

  -- a board that agrees with the fence
  pub fenced : (full : List ℕ) (a : ℕ) → OnArrow arrows a → So (square cells a) → Agrees full (fence v (block_name set a)) → Fenced B (λ c. So (square full c)) a
  unfolding fence fence_at view view_with cells_of disturbing square
  fenced full a ar sa ag = record {
    out = λ r e rr ad z. out r e rr ad z (kind_get puzzle cells (labels grid (square cells)) e (adj_sym grid r e ad).0 ∙ kind-empty e z);
    far = λ r u d x rr ru uu dd nb t dx. far r u d x rr ru uu dd nb t dx (kind_get puzzle cells (labels grid (square cells)) x (sq< set x (Linked-end dx)) ∙ kind_in x (d, dd, dx));
  }
    where
      R : List ℕ
      R = reach v (block_name set a)

      at : (i w : ℕ) → i < size grid → Memᴰ (i, w) (fence_at v (block_name set a) R i (get_or ks i vacant)) → get_or full i 0 ≡ w
      at i w l m = ag i w (mem-flat_map (λ k. fence_at v (block_name set a) R k (get_or ks k vacant)) (cells_of grid) (mem-upto (size grid) l) m)

      out : (r e : ℕ) → Reach B a r → Adjacent grid r e → So (empty cells e) → get_or ks e vacant ≡ vacant → ¬ So (square full e)
      out r e rr ad z k =
          let h : get_or full e 0 ≡ 0 = at e 0 (adj_sym grid r e ad).0 (subst (λ q. Memᴰ (e, 0) (fence_at v (block_name set a) R e q)) (sym k)
          (rw (Adjacent-touches grid R e r (adj_sym grid r e ad) (in_Reach a r ar rr)) (Memᴰ.head refl))) in
          λ s. omega (arith, eqb-true)

      far : (r u d x : ℕ) → Reach B a r → Adjacent grid r u → So (undecided cells u) → OnArrow arrows d → ¬ Block B a d → Touch B d u → Block B d x → get_or ks x vacant ≡ in_block (block_name set x) → So (square full x)
      far r u d x rr ru uu dd nb (y, uy, dy) dx k =
          let dn : block_name set d ≡ block_name set x = (block_Labels set).linked d x dx in
          let diff : So (not (eqb (block_name set x) (block_name set a))) = So-not _ (λ h. nb ((block_Labels set).same a d sa (Linked-start dx) (sym (eqb-true _ _ h) ∙ sym dn))) in
          let riv : So (disturbing v R (block_name set x)) =
          mem-any _ (cells_of grid) (mem-upto (size grid) (sq< set y (Linked-end dy)))
          (and_from _ _ (subst (λ q. So (has (is_in q) ks y)) dn (blk_in set d y dd dy))
          (mem-any _ (neighbours grid y) (adj_sym grid u y uy).1 (and_from _ _ uu (Adjacent-touches grid R u r (adj_sym grid r u ru) (in_Reach a r ar rr))))) in
          eq-eqb _ _ (at x 1 (sq< set x (Linked-end dx)) (subst (λ q. Memᴰ (x, 1) (fence_at v (block_name set a) R x q)) (sym k)
          (rw (and_from _ _ diff riv) (Memᴰ.head refl))))
