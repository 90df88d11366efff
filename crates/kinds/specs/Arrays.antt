-- The arrays of the code: the kinds of all cells by their numbers, the groups that they belong to, and the cells of a reach.
-- Assumes nothing.
use Rattle.std.specs.Prelude.{ℕ, List, map, get_or}
use Rattle.grid.specs.Lists.{array_of}
use Rattle.grid.specs.Grid.{cells_of}
use Rattle.groups.specs.Arrays.{no_group, mask_of}
use Rattle.kinds.specs.Kinds.{Kind, vacant, barrier, floating, in_block, neighbour, View, in_reach}

-- the number of a kind
unfoldable pub kind_code : Kind → ℕ
kind_code vacant = 0
kind_code (in_block f) = 1
kind_code (neighbour f) = 2
kind_code barrier = 3
kind_code floating = 4

-- the group that a cell of this kind belongs to: its arrow block, or the floating group m
unfoldable pub owner_by : ℕ → Kind → ℕ
owner_by m vacant = no_group
owner_by m (in_block f) = f
owner_by m (neighbour f) = f
owner_by m barrier = no_group
owner_by m floating = m

module _ (v : View) where
  -- the kind of each cell by its number, in an array
  unfoldable pub kind_array : List ℕ
  kind_array = array_of 0 (map (λ i. kind_code (get_or v.kinds i vacant)) (cells_of v.grid))

  -- the group of each cell, in an array
  unfoldable pub owner_array : List ℕ
  owner_array = array_of no_group (map (λ i. owner_by (get_or v.floats i 0) (get_or v.kinds i vacant)) (cells_of v.grid))

  -- the reach of the arrow block f as a mark for each cell
  unfoldable pub reach_mask : ℕ → List ℕ
  reach_mask f = mask_of v.grid (in_reach v f)
