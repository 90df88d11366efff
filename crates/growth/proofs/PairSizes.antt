-- How many cells and literals the parts of reasons 3 and 4 have, at most.
-- Assumes nothing.
use Prim.Native.Nat.{ℕ, ◌+◌, ◌*◌, ◌≤◌}
use native.Mathlib.Omega.{arith}
use mathlib.Core.Path.{◌≡◌, refl}
use mathlib.Core.List.{List}
use lib.ListN.{length, length-append}
use Rattle.grid.specs.Grid.{size, cells_of}
use Rattle.grid.proofs.ListLaws.{filter-length}
use Rattle.grid.proofs.GridLaws.{cells_length}
use Rattle.kinds.specs.Kinds.{view, view_with, in_reach, reach, fence}
use Rattle.growth.specs.Pairs.{view_on}
use Rattle.growth.specs.Growth.{cell_fence}
use Rattle.literals.proofs.Pass.{each-length}
use Rattle.kinds.proofs.Lengths.{fence-length}

module _ (h w : ℕ) (lines : List (List ℕ)) (cells : List ℕ) where
  pub view_size : h * w ≡ size (view_on h w lines cells).grid
  unfolding view view_with size
  view_size = refl

  -- a fence and a reach
  fence_few : (f : ℕ) → length (fence (view_on h w lines cells) f) ≤ h * w
  fence_few f = omega (arith, fence-length (view_on h w lines cells) f, view_size)

  pub reach_few : (f : ℕ) → length (reach (view_on h w lines cells) f) ≤ h * w
  unfolding reach
  reach_few f = omega (arith, filter-length (in_reach (view_on h w lines cells) f) (cells_of (view_on h w lines cells).grid), cells_length (view_on h w lines cells).grid, view_size)

  -- an arrow cell and a fence
  pub cell_few : (i f : ℕ) → length (cell_fence (view_on h w lines cells) i f) ≤ h * w + 1
  cell_few i f = simp (length-append, each-length) (omega (arith, fence_few f))
