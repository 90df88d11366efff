-- Every literal of a reason is shown by the board.
-- Assumes nothing.
use Prim.Native.Nat.{ℕ, ◌+◌, ◌≤◌, ◌<◌}
use mathlib.Core.Logic.{◌⊎◌, inl, inr}
use mathlib.Core.Path.{◌≡◌, sym, ◌∙◌, subst}
use mathlib.Core.Bool.{Bool, true, false, So, ◌&&◌, not, cond}
use mathlib.Core.List.Memᴰ
use mathlib.Core.List.{List, [], ◌∷◌, ◌++◌, Memᴰ}
use mathlib.Core.Option.{some}
use native.Mathlib.Omega.{arith}
use lib.ListN.{length, get_or}
use borrow.Author.Tests.{eqb-true}
use lib.Dec.{eqb}
use Rattle.grid.specs.Lists.{filter, any, last, init, tail}
use Rattle.grid.proofs.ListLaws.{filter-mem, mem-filter, flat_map-mem, and-true, any-mem, last-mem, at_mem, mem_at, upto-mem}
use Rattle.grid.specs.Grid.{Grid, size, cells_of, touches}
use Rattle.grid.proofs.LinkLaws.{Linked-end, Linked-start}
use Rattle.grid.specs.Cells.{Literal, empty, square, potential}
use Rattle.groups.specs.Groups.{labels, group, names}
use Rattle.groups.specs.Arrows.{on_arrow, Pair}
use Rattle.kinds.proofs.Bridge.{sq<, block_name, kinds, kind, kind-vacant, kind-in_block}
use Rattle.kinds.specs.Meaning.{Setting}
use Rattle.kinds.proofs.BlockArrays.{kind_get}
use Rattle.kinds.specs.Kinds.{View, view, view_with, block, reach, fence, fence_at, disturbing, Kind, vacant, barrier, floating, in_block, neighbour}
use Rattle.kinds.proofs.Fence.{Block-in}
use Rattle.reasons.proofs.Sound34.{cur_cell, last_cell, shrink_literals, Placed, Spot, Told34, no_shift, told_too_few, told_too_many, told_34, pair}
use Rattle.reasons.proofs.First.{reason_if-some, or_else-some, first_some}
use Rattle.reasons.proofs.Sound2.{Two-of}
use Rattle.literals.specs.Literals.{each}
use Rattle.units.specs.Units.{reason1_at, reason1}
use Rattle.paths.specs.Paths.{way, reason2}
use Rattle.growth.specs.Growth.{block_name as view_name, reason_grow, reason34}
use Rattle.reasons.specs.Reasons.{find_reason}
use Rattle.paths.proofs.Walk.{path_square}
use Rattle.record.specs.Leaf.{Range, leaf_with}
use Rattle.sized.specs.Sized.{reason5}
use Rattle.reasons.proofs.Sound5.{Told5, told_too_low, told_too_high, told_5}

module _ (set : Setting) where
  open set use {puzzle, lines, cells, valid}

  abbrev grid : Grid
  grid = puzzle.grid

  abbrev arrows : List (List ℕ)
  arrows = puzzle.arrows

  -- the board shows each literal, on a cell of the grid
  abbrev pub Stands : List Literal → Type 0
  Stands l = (i w : ℕ) → Memᴰ (i, w) l → (i < size grid) × (w ≤ 1) × (get_or cells i 0 ≡ w)

  -- the literal (x, w) is shown
  abbrev Shown : ℕ → ℕ → Type 0
  Shown w x = (x < size grid) × (w ≤ 1) × (get_or cells x 0 ≡ w)

  Shown-as : (c : Literal) (i u : ℕ) → (i, u) ≡ c → Shown c.1 c.0 → Shown u i
  Shown-as c i u e h = subst (λ z. Shown z.1 z.0) (sym e) h

  stand_each : (w : ℕ) (l : List ℕ) → ((x : ℕ) → Memᴰ x l → Shown w x) → Stands (each w l)
  unfolding each
  stand_each w l h i u m =
      let r = Memᴰ.of_map (λ (x : ℕ). (x, w)) l m in
      Shown-as (r.0, w) i u (sym r.2) (h r.0 r.1)

  stand_join : (a b : List Literal) → Stands a → Stands b → Stands (a ++ b)
  stand_join a b ha hb i u m = go (Memᴰ.append_cases a m)
    where
      go : Memᴰ (i, u) a ⊎ Memᴰ (i, u) b → Shown u i
      go (inl k) = ha i u k
      go (inr k) = hb i u k

  sq_one : (x : ℕ) → So (square cells x) → Shown 1 x
  unfolding square
  sq_one x s = (sq< set x s, omega arith, eqb-true _ _ s)

  em_zero : (x : ℕ) → x < size grid → So (empty cells x) → Shown 0 x
  unfolding empty
  em_zero x l z = (l, omega arith, eqb-true _ _ z)

  -- the view of the board
  abbrev v : View
  v = view puzzle cells

  cond-mem : (b : Bool) (c : Literal) {x : Literal} → Memᴰ x (cond b (c ∷ []) []) → x ≡ c
  cond-mem true c m = Memᴰ.eq_of_singleton m
  cond-mem false c m = absurd (Memᴰ.not-nil m)

  -- a literal of the fence
  stand_fence : (f : ℕ) → Stands (fence v f)
  unfolding fence view view_with cells_of fence_at
  stand_fence f i u m =
      let w = flat_map-mem (λ k. fence_at v f (reach v f) k (get_or (kinds set) k vacant)) (cells_of grid) m in
      let l : w.0 < size grid = upto-mem (size grid) w.1 in
      at w.0 l (get_or (kinds set) w.0 vacant) (sym (kind_get puzzle cells (labels grid (square cells)) w.0 l)) w.2
    where
      at : (k : ℕ) → k < size grid → (q : Kind) → kind set k ≡ q → Memᴰ (i, u) (fence_at v f (reach v f) k q) → Shown u i
      at k l vacant e n = Shown-as (k, 0) i u (cond-mem (touches grid (reach v f) k) (k, 0) n) (em_zero k l (kind-vacant set k e))
      at k l barrier e n = absurd (Memᴰ.not-nil n)
      at k l floating e n = absurd (Memᴰ.not-nil n)
      at k l (in_block x) e n = Shown-as (k, 1) i u (cond-mem (not (eqb x f) && disturbing v (reach v f) x) (k, 1) n) (sq_one k (kind-in_block set k x e))
      at k l (neighbour x) e n = absurd (Memᴰ.not-nil n)

  stand_block : (a : ℕ) → So (square cells a) → Stands (each 1 (block v (block_name set a)))
  stand_block a sa = stand_each 1 (block v (block_name set a)) (λ x m. sq_one x (Linked-end (Block-in set a x sa m)))

  stand_one : (a : ℕ) → So (square cells a) → Stands (each 1 (a ∷ []))
  stand_one a sa = stand_each 1 (a ∷ []) (λ x m. sq_one x (subst (λ z. So (square cells z)) (sym (Memᴰ.eq_of_singleton m)) sa))

  -- the pairs' reasons
  module _ (spot : Spot set) where
    -- the earlier cell of the pair
    abbrev a₀ : ℕ
    a₀ = last_cell set spot

    -- the later cell of the pair
    abbrev c₀ : ℕ
    c₀ = cur_cell set spot

    stand_grow : Stands (reason_grow v (pair set spot))
    unfolding reason_grow view view_with view_name
    stand_grow = stand_join (each 1 (block v (block_name set a₀)) ++ each 1 (c₀ ∷ [])) (fence v (block_name set c₀)) (stand_join (each 1 (block v (block_name set a₀))) (each 1 (c₀ ∷ [])) (stand_block a₀ spot.pr.1) (stand_one c₀ spot.pr.2)) (stand_fence (block_name set c₀))

    stand_shrink : ((x : ℕ) → Memᴰ x (tail (init spot.between)) → x < size grid) → Stands (shrink_literals set spot)
    stand_shrink low = stand_join (each 1 (block v (block_name set c₀)) ++ each 1 (a₀ ∷ []) ++ fence v (block_name set a₀)) (each 0 (filter (empty cells) (tail (init spot.between))))
        (stand_join (each 1 (block v (block_name set c₀)) ++ each 1 (a₀ ∷ [])) (fence v (block_name set a₀)) (stand_join (each 1 (block v (block_name set c₀))) (each 1 (a₀ ∷ [])) (stand_block c₀ spot.pr.2) (stand_one a₀ spot.pr.1)) (stand_fence (block_name set a₀)))
        (stand_each 0 (filter (empty cells) (tail (init spot.between))) (λ x m. let k = filter-mem (empty cells) (tail (init spot.between)) m in em_zero x (low x k.0) k.1))

  -- the gap lies on the arrow
  gap_low : {p : Pair} (q : Placed set p) (x : ℕ) → Memᴰ x (tail (init q.spot.between)) → x < size grid
  gap_low q x m =
      let u = q.spot in
      let k = mem_at (tail (init u.between)) m in
      let l : u.i + 2 + k.0 < length u.t.0 = omega (arith, k.1, q.glen, u.jl) in
      subst (λ z. z < size grid) (q.gat k.0 k.1 ∙ k.2) (lines.on u.t.0 u.t.1 _ (at_mem u.t.0 (u.i + 2 + k.0) l))

  stand_34 : (e : ℕ) (r : List Literal) → reason34 e v ≡ some r → Stands r
  stand_34 e r k = go (told_34 set e r k)
    where
      go : Told34 set e r → Stands r
      go (no_shift spot n z) = subst Stands z (stand_grow spot)
      go (told_too_few spot h z) = subst Stands z (stand_grow spot)
      go (told_too_many o q h z) = subst Stands z (stand_shrink q.spot (gap_low q))

  stand_5 : (sizes : List Range) (r : List Literal) → reason5 v sizes ≡ some r → Stands r
  stand_5 sizes r k = go (told_5 set sizes r k)
    where
      go : Told5 set sizes r → Stands r
      go (told_too_low q m s h z) = subst Stands z (stand_join (each 1 (q.cell ∷ [])) (fence v (block_name set q.cell)) (stand_one q.cell s) (stand_fence (block_name set q.cell)))
      go (told_too_high q m s h z) = subst Stands z (stand_block q.cell s)

  stand_2 : (r : List Literal) → reason2 puzzle cells ≡ some r → Stands r
  stand_2 r e =
      let w = Two-of set r e in
      subst Stands (sym w.is) (stand_each 1 (way set.puzzle.grid set.cells w.a w.b) (λ y m. sq_one y
      (path_square grid cells (sq< set) w.b (Linked-start w.joined) w.a w.joined y m)))

  stand_1 : (r : List Literal) → reason1 puzzle cells ≡ some r → Stands r
  unfolding reason1 reason1_at cells_of
  stand_1 r e =
      let w = first_some (λ f. reason1_at puzzle cells (pot f)) (names grid (potential cells) (labels grid (potential cells))) r e in
      let q = reason_if-some (any (square cells) (pot w.0) && not (any (on_arrow arrows) (pot w.0))) (each 0 (bounds (pot w.0)) ++ each 1 (last 0 (filter (square cells) (pot w.0)) ∷ [])) r w.2 in
      let h = any-mem (square cells) (pot w.0) (and-true (any (square cells) (pot w.0)) _ q.0).0 in
      subst Stands q.1 (stand_join (each 0 (bounds (pot w.0))) (each 1 (last 0 (filter (square cells) (pot w.0)) ∷ []))
      (stand_each 0 (bounds (pot w.0)) (λ x m. let k = filter-mem (λ i. empty cells i && touches grid (pot w.0) i) (cells_of grid) m in em_zero x (upto-mem (size grid) k.0) (and-true (empty cells x) _ k.1).0))
      (stand_each 1 (last 0 (filter (square cells) (pot w.0)) ∷ []) (λ x m. subst (Shown 1) (sym (Memᴰ.eq_of_singleton m))
      (sq_one _ (filter-mem (square cells) (pot w.0) (last-mem 0 (filter (square cells) (pot w.0)) (mem-filter (square cells) (pot w.0) h.1 h.2))).1))))
    where
      pot : ℕ → List ℕ
      pot f = group grid (potential cells) (labels grid (potential cells)) f

      bounds : List ℕ → List ℕ
      bounds c = filter (λ i. empty cells i && touches grid c i) (cells_of grid)

  -- every literal of a reason is shown
  pub find_Stands : (e : ℕ) (sizes : List Range) (r : List Literal) → find_reason (leaf_with e sizes puzzle) cells ≡ some r → Stands r
  unfolding find_reason
  find_Stands e sizes r k =
      or_else-some (reason1 puzzle cells) _ r k (stand_1 r)
      (λ k. or_else-some (reason2 puzzle cells) _ r k (stand_2 r) (λ k. or_else-some (reason34 e v) (reason5 v sizes) r k (stand_34 e r) (stand_5 sizes r)))
