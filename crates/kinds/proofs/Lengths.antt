-- How long a block and a fence are at most.
-- Assumes nothing.
use Prim.Native.Nat.{ℕ, ◌≤◌}
use native.Mathlib.Omega.{arith}
use mathlib.Core.Bool.{Bool, true, false, cond, ◌&&◌, not}
use mathlib.Core.List.{[], ◌∷◌}
use lib.Dec.{eqb}
use lib.ListN.{length, get_or}
use Rattle.grid.proofs.ListLaws.{filter-length, flat_map-length}
use Rattle.grid.proofs.GridLaws.{cells_length}
use Rattle.grid.specs.Grid.{size, cells_of, touches}
use Rattle.grid.specs.Cells.{Literal}
use Rattle.kinds.specs.Kinds.{View, Kind, block, reach, fence, fence_at, vacant, barrier, floating, in_block, neighbour, disturbing, has, is_in}

module _ (v : View) where
  pub block-length : (f : ℕ) → length (block v f) ≤ size v.grid
  unfolding block
  block-length f = omega (arith, filter-length (has (is_in f) v.kinds) (cells_of v.grid), cells_length v.grid)

  pub fence-length : (f : ℕ) → length (fence v f) ≤ size v.grid
  unfolding fence fence_at
  fence-length f = omega (arith, flat_map-length (λ i. fence_at v f (reach v f) i (get_or v.kinds i vacant)) (λ i. one i (get_or v.kinds i vacant)) (cells_of v.grid), cells_length v.grid)
    where
      pick : (t : Bool) (l : Literal) → length (cond t (l ∷ []) []) ≤ 1
      pick true l = omega arith
      pick false l = omega arith

      one : (i : ℕ) (k : Kind) → length (fence_at v f (reach v f) i k) ≤ 1
      one i vacant = pick (touches v.grid (reach v f) i) (i, 0)
      one i barrier = omega arith
      one i floating = omega arith
      one i (in_block e) = pick (not (eqb e f) && disturbing v (reach v f) e) (i, 1)
      one i (neighbour e) = omega arith
