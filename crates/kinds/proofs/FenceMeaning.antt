-- The fence of an arrow block: the empty cells that touch its reach as 0, and the cells of each other arrow block with some cell beside an
-- undecided cell that touches the reach as 1; by rising index, each once.
-- Assumes nothing.
use Prim.Native.Nat.{ℕ, ◌<◌}
use mathlib.Core.Logic.{◌⊎◌, inl, inr, ◌↔◌}
use mathlib.Core.Path.{◌≡◌, refl, sym, ap, ◌∙◌, subst}
use mathlib.Core.Bool.{Bool, true, false, So, cond, ◌&&◌, not}
use mathlib.Core.List.Memᴰ
use mathlib.Core.List.{List, [], ◌∷◌, ◌++◌, map, Memᴰ}
use native.Mathlib.Omega.{arith}
use lib.Dec.{eqb}
use lib.ListN.{get_or}
use borrow.Author.Tests.{eqb-true, eq-eqb}
use Rattle.std.proofs.lemmas.Bool.{and_from}
use Rattle.grid.specs.Lists.{flat_map}
use Rattle.grid.specs.Grid.{Grid, size, cells_of, neighbours, touches, Adjacent}
use Rattle.grid.proofs.LinkLaws.{Linked-start, Linked-end}
use Rattle.grid.proofs.ListLaws.{and-true, any-mem, mem-any, flat_map-mem, mem-flat_map, upto-mem, not-So, So-not}
use Rattle.grid.proofs.GridLaws.{adj_sym, Adjacent-touches, touches-Adjacent, in_cells}
use Rattle.grid.proofs.RisingLaws.{Rising, nil, cons, cells_Rising}
use Rattle.grid.specs.Cells.{Literal, square, undecided}
use Rattle.groups.specs.Groups.{labels}
use Rattle.groups.specs.Arrows.{OnArrow}
use Rattle.kinds.specs.Kinds.{Kind, vacant, barrier, floating, in_block, neighbour, is_in, has, View, view, view_with, reach, disturbing, fence_at, fence}
use Rattle.kinds.specs.Meaning.{PartialBoard, InArrow, Reach, Shut, Disturbing, Setting, partial_of}
use Rattle.kinds.proofs.Bridge.{block_name, kinds, kind, kind-vacant, kind_arrow, block_Labels, sq<, in_blk, blk_in}
use Rattle.kinds.proofs.BlockArrays.{kind_get}
use Rattle.kinds.proofs.Fence.{v, in_Reach, Reach-in, kind-empty, kind_in}

-- a literal's index
abbrev pub index_of : Literal → ℕ
index_of d = d.0

-- nothing, or one literal with this index
abbrev AtMost : ℕ → List Literal → Type 0
AtMost i l = (l ≡ []) ⊎ ((w : ℕ) × (l ≡ (i, w) ∷ []))

AtMost-index : (i : ℕ) (l : List Literal) → AtMost i l → (d : Literal) → Memᴰ d l → index_of d ≡ i
AtMost-index i l (inl e) d m = absurd (Memᴰ.not-nil (subst (Memᴰ d) e m))
AtMost-index i l (inr (w, e)) d m = ap index_of (Memᴰ.eq_of_singleton (subst (Memᴰ d) e m))

-- at most one literal for each of rising indexes
Rising-flat : (f : ℕ → List Literal) → ((i : ℕ) → AtMost i (f i)) → {l : List ℕ} → Rising l → Rising (map index_of (flat_map f l))
Rising-flat f h nil = nil
Rising-flat f h (cons {x} {xs} low r) = go (f x) (h x) (Rising-flat f h r)
  where
    back : (y : ℕ) → Memᴰ y (map index_of (flat_map f xs)) → x < y
    back y m =
        let d = Memᴰ.of_map index_of (flat_map f xs) m in
        let z = flat_map-mem f xs d.1 in
        subst (λ k. x < k) (sym (AtMost-index z.0 (f z.0) (h z.0) d.0 z.2) ∙ d.2) (low z.0 z.1)

    go : (q : List Literal) → AtMost x q → Rising (map index_of (flat_map f xs)) → Rising (map index_of (q ++ flat_map f xs))
    go q (inl e) k = rw e k
    go q (inr (w, e)) k = rw e (cons back k)

-- a literal that is there where a test passes
if_AtMost : (t : Bool) (i w : ℕ) → AtMost i (cond t ((i, w) ∷ []) [])
if_AtMost true i w = inr (w, refl)
if_AtMost false i w = inl refl

if_mem : (t : Bool) (c d : Literal) → Memᴰ d (cond t (c ∷ []) []) → So t × (d ≡ c)
if_mem true c d m = (refl, Memᴰ.eq_of_singleton m)
if_mem false c d m = absurd (Memᴰ.not-nil m)

-- by rising index, each once
pub fence-Rising : (w : View) (f : ℕ) → Rising (map index_of (fence w f))
unfolding fence fence_at
fence-Rising w f = Rising-flat (λ i. fence_at w f (reach w f) i (get_or w.kinds i vacant)) (λ i. one i (get_or w.kinds i vacant)) (cells_Rising w.grid)
  where
    one : (i : ℕ) (k : Kind) → AtMost i (fence_at w f (reach w f) i k)
    one i vacant = if_AtMost (touches w.grid (reach w f) i) i 0
    one i barrier = inl refl
    one i floating = inl refl
    one i (in_block e) = if_AtMost (not (eqb e f) && disturbing w (reach w f) e) i 1
    one i (neighbour e) = inl refl

module _ (set : Setting) where
  open set use {puzzle, cells}

  abbrev grid : Grid
  grid = puzzle.grid

  abbrev arrows : List (List ℕ)
  arrows = puzzle.arrows

  -- the board in terms of Meaning
  abbrev pub B : PartialBoard
  B = partial_of set

  module _ (a : ℕ) where
    -- the fence of a's block
    abbrev pub fence_of : List Literal
    fence_of = fence (v set) (block_name set a)

    -- the reach of a's block
    abbrev R : List ℕ
    R = reach (v set) (block_name set a)

    -- what the fence says of a cell of this kind
    abbrev says : ℕ → Kind → List Literal
    says i k = fence_at (v set) (block_name set a) R i k

    -- what a literal of the fence means
    abbrev Meant : ℕ → ℕ → Type 0
    Meant i w = ((w ≡ 0) × Shut B a i) ⊎ ((w ≡ 1) × Disturbing B a i)

    module _ (arrow : OnArrow arrows a) (sq : So (square cells a)) where
      -- a cell of the grid that touches the reach
      touching : (i : ℕ) → i < size grid → So (touches grid R i) → (r : ℕ) × Adjacent grid i r × Reach B a r
      touching i l t = let r = touches-Adjacent grid R i l t in (r.0, r.1, Reach-in set a r.0 sq r.2)

      of_fence : (i w : ℕ) → Memᴰ (i, w) fence_of → Meant i w
      unfolding fence fence_at disturbing view view_with cells_of
      of_fence i w m =
          let x = flat_map-mem (λ k. says k (get_or (kinds set) k vacant)) (cells_of grid) m in
          let l = upto-mem (size grid) x.1 in
          at x.0 l (kind set x.0) refl (subst (λ k. Memᴰ (i, w) (says x.0 k)) (kind_get puzzle cells (labels grid (square cells)) x.0 l) x.2)
        where
          far : (x e : ℕ) → kind set x ≡ in_block e → So (not (eqb e (block_name set a))) → So (disturbing (v set) R e) → Disturbing B a x
          far x e k n t = go (kind_arrow set x e k)
            where
              go : InArrow B x × (block_name set x ≡ e) → Disturbing B a x
              go ((d, ad, dx), ex) =
                  let dn : block_name set d ≡ e = (block_Labels set).linked d x dx ∙ ex in
                  let j = any-mem _ (cells_of grid) t in
                  let q = and-true (has (is_in e) (kinds set) j.0) _ j.2 in
                  let u = any-mem _ (neighbours grid j.0) q.1 in
                  let s = and-true (undecided cells u.0) _ u.2 in
                  let ju : Adjacent grid j.0 u.0 = (upto-mem (size grid) j.1, u.1) in
                  let uj : Adjacent grid u.0 j.0 = adj_sym grid j.0 u.0 ju in
                  let r = touching u.0 uj.0 s.1 in (
                    d,
                    u.0,
                    r.0,
                    ad,
                    λ b. not-So {a = eqb e (block_name set a)} n (eq-eqb e (block_name set a) (sym dn ∙ sym ((block_Labels set).linked a d b))),
                    dx,
                    s.0,
                    (j.0, uj, in_blk set d j.0 (Linked-start dx) (subst (λ z. So (has (is_in z) (kinds set) j.0)) (sym dn) q.0)),
                    r.1,
                    r.2,
                  )

          at : (x : ℕ) → x < size grid → (k : Kind) → kind set x ≡ k → Memᴰ (i, w) (says x k) → Meant i w
          at x l vacant k m =
              let q = if_mem (touches grid R x) (x, 0) (i, w) m in
              inl (ap (λ z. z.1) q.1, subst (Shut B a) (sym (ap index_of q.1)) (kind-vacant set x k, touching x l q.0))
          at x l barrier k m = absurd (Memᴰ.not-nil m)
          at x l floating k m = absurd (Memᴰ.not-nil m)
          at x l (in_block e) k m =
              let q = if_mem (not (eqb e (block_name set a)) && disturbing (v set) R e) (x, 1) (i, w) m in
              let t = and-true (not (eqb e (block_name set a))) _ q.0 in
              inr (ap (λ z. z.1) q.1, subst (Disturbing B a) (sym (ap index_of q.1)) (far x e k t.0 t.1))
          at x l (neighbour e) k m = absurd (Memᴰ.not-nil m)

      -- what the fence says of a cell of the grid is in it
      in_fence : (i w : ℕ) (k : Kind) → i < size grid → kind set i ≡ k → Memᴰ (i, w) (says i k) → Memᴰ (i, w) fence_of
      unfolding fence view view_with
      in_fence i w k l e m = mem-flat_map (λ j. says j (get_or (kinds set) j vacant)) (cells_of grid) (in_cells grid i l)
          (subst (λ z. Memᴰ (i, w) (says i z)) (sym (kind_get puzzle cells (labels grid (square cells)) i l ∙ e)) m)

      Shut-in : (i : ℕ) → Shut B a i → Memᴰ (i, 0) fence_of
      unfolding fence_at view view_with
      Shut-in i (z, (r, ad, rr)) = in_fence i 0 vacant ad.0 (kind-empty set i z)
          (rw (Adjacent-touches grid R i r ad (in_Reach set a r arrow rr)) (Memᴰ.head refl))

      Disturbing-in : (i : ℕ) → Disturbing B a i → Memᴰ (i, 1) fence_of
      unfolding fence_at disturbing view view_with
      Disturbing-in i (d, u, r, ad, nb, di, uu, (y, uy, dy), ur, rr) =
          in_fence i 1 (in_block (block_name set i)) (sq< set i (Linked-end di)) (kind_in set i (d, ad, di)) (rw (and_from _ _ other beside_it) (Memᴰ.head refl))
        where
          dn : block_name set d ≡ block_name set i
          dn = (block_Labels set).linked d i di

          other : So (not (eqb (block_name set i) (block_name set a)))
          other = So-not _ (λ h. nb ((block_Labels set).same a d sq (Linked-start di) (sym (eqb-true _ _ h) ∙ sym dn)))

          beside_it : So (disturbing (v set) R (block_name set i))
          beside_it = mem-any _ (cells_of grid) (in_cells grid y (sq< set y (Linked-end dy)))
              (and_from _ _ (subst (λ q. So (has (is_in q) (kinds set) y)) dn (blk_in set d y ad dy))
              (mem-any _ (neighbours grid y) (adj_sym grid u y uy).1 (and_from _ _ uu (Adjacent-touches grid R u r ur (in_Reach set a r arrow rr)))))

      -- as 0: every empty cell that touches the reach
      pub fence_Shut : (i : ℕ) → Memᴰ (i, 0) fence_of ↔ Shut B a i
      fence_Shut i = (λ m. go 0 refl (of_fence i 0 m), Shut-in i)
        where
          go : (w : ℕ) → w ≡ 0 → Meant i w → Shut B a i
          go w e (inl s) = s.1
          go w e (inr d) = absurd (omega (arith, d.0))

      -- as 1: all cells of each other arrow block with some cell beside an undecided cell that touches the reach
      pub fence_Disturbing : (i : ℕ) → Memᴰ (i, 1) fence_of ↔ Disturbing B a i
      fence_Disturbing i = (λ m. go 1 refl (of_fence i 1 m), Disturbing-in i)
        where
          go : (w : ℕ) → w ≡ 1 → Meant i w → Disturbing B a i
          go w e (inl s) = absurd (omega (arith, s.0))
          go w e (inr d) = d.1

      -- and nothing else
      pub fence_values : (i w : ℕ) → Memᴰ (i, w) fence_of → (w ≡ 0) ⊎ (w ≡ 1)
      fence_values i w m = go (of_fence i w m)
        where
          go : Meant i w → (w ≡ 0) ⊎ (w ≡ 1)
          go (inl s) = inl s.0
          go (inr d) = inr d.0
