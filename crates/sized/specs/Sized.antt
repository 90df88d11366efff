-- Reason 5, for the sized cells that are square.
-- Assumes nothing.
use Rattle.std.specs.Prelude.{List, ltb, length}
use Rattle.grid.specs.Lists.{filter}
use Rattle.grid.specs.Cells.{square}
use Rattle.record.specs.Leaf.{Range}
use Rattle.kinds.specs.Kinds.{View, block, reach}
use Rattle.literals.specs.Literals.{Found, or_else, reason_if, first_found_of, each}
use Rattle.growth.specs.Growth.{block_name, cell_fence}

module _ (v : View) (r : Range) where
  -- the reach of the cell's block is smaller than the lowest: the cell, then the fence of its block
  unfoldable pub reason_low : Found
  reason_low = reason_if (ltb (length (reach v (block_name v r.cell))) r.lowest) (cell_fence v r.cell (block_name v r.cell))

  -- the block is larger than the highest: its cells
  unfoldable pub reason_high : Found
  reason_high = reason_if (ltb r.highest (length (block v (block_name v r.cell)))) (each 1 (block v (block_name v r.cell)))

  -- 5 for a sized cell: the first, otherwise the second
  unfoldable pub reason5_at : Found
  reason5_at = or_else reason_low reason_high

-- 5. the sized cells that are square are taken in turn
unfoldable pub reason5 : View → List Range → Found
reason5 v sizes = first_found_of (reason5_at v) (filter (λ (r : Range). square v.cells r.cell) sizes)
