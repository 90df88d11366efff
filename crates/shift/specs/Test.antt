-- The shift test on what is gathered for it.
-- Assumes nothing.
use Rattle.std.specs.Prelude.{ℕ, ◌<◌, Bool, List, ℤ, Option}
use Rattle.grid.specs.Side.{shifted_of}
use Rattle.kinds.specs.declared.BoardInfo.{BoardInfo}
use Rattle.kinds.specs.Board.{cell_count}
use Rattle.reach.specs.Chains.{cells_from}
use Rattle.reach.specs.Inside.{reaches_at}
use Rattle.shift.specs.Shift as shift
use Rattle.shift.specs.declared.ShiftTest.{ShiftTest}

-- the board that it is made on
abbrev pub board : ShiftTest → BoardInfo
board s = s.block.linked.info

-- row y and column x are those of a cell
abbrev pub HasPlace : ShiftTest → ℕ → ℕ → Type 0
HasPlace s y x = (y < (board s).grid.height) × (x < (board s).grid.width)

-- where the cell at row y, column x comes by an offset
abbrev pub shifted : ShiftTest → ℕ → ℕ → ℤ → ℤ → Option ℕ
shifted s = shifted_of (board s).grid.height (board s).grid.width

-- the cell is in the reach
abbrev pub in_reach : ShiftTest → ℕ → Bool
in_reach s = reaches_at (board s).kinds.now (board s).owners.now s.near.now s.e

-- the offset takes every cell of the block into the reach
abbrev pub fits_by : ShiftTest → ℤ → ℤ → Bool
fits_by s = shift.all_land (board s).grid.height (board s).grid.width s.block.rows.now s.block.columns.now (in_reach s)

-- the shift that takes the block's first cell to the cell t takes every cell into the reach
abbrev pub fits_at : ShiftTest → ℕ → Bool
fits_at s = shift.fits_at (board s).grid.height (board s).grid.width s.block.rows.now s.block.columns.now (in_reach s) s.row s.column

-- the cells of the group named m
abbrev pub group : ShiftTest → ℕ → List ℕ
group s m = cells_from (board s).owners.now (cell_count (board s)) m 0
