-- Reason 2 on a board that is lent.
-- Assumes nothing.
use Rattle.std.specs.Prelude.{ℕ, List}
use Rattle.grid.specs.Side.{sized}
use Rattle.grid.specs.Cells.{square}
use Rattle.grid.specs.declared.Grid.{Grid}
use Rattle.record.specs.Record.{Puzzle}
use Rattle.groups.specs.Groups.{Joined}
use Rattle.groups.specs.declared.Groups.{Groups}
use Rattle.units.specs.Lent.{puzzle_on, states_on}
use Rattle.paths.specs.Paths.{way}
use Rattle.paths.specs.Ends.{BlockTable, Blocked}

-- the blocks of a puzzle stand in the table, and its arrow cells are marked
abbrev pub HasTable : Puzzle → List ℕ → List ℕ → List ℕ → Groups → Type 0
HasTable p cells squares onarrow blocks = BlockTable p cells blocks.labels onarrow blocks.firsts squares blocks.arrowed blocks.count

module _ (grid : Grid) where
  -- the same of the board, if these are its arrows
  abbrev pub HasBlocks : List (List ℕ) → List ℕ → List ℕ → List ℕ → Groups → Type 0
  HasBlocks lines cells = HasTable (puzzle_on grid lines) (states_on grid cells)

  -- the same for some arrows
  abbrev pub BlocksAreThere : List ℕ → List ℕ → Groups → Type 0
  BlocksAreThere cells onarrow blocks = Blocked grid.height grid.width cells blocks.labels onarrow blocks.firsts blocks.arrowed blocks.count

  -- a and b are squares of one block
  abbrev pub AreJoined : List ℕ → ℕ → ℕ → Type 0
  AreJoined cells = Joined (sized grid.height grid.width) (square (states_on grid cells))

  -- the path from a to b
  abbrev pub way_on : List ℕ → ℕ → ℕ → List ℕ
  way_on cells = way (sized grid.height grid.width) (states_on grid cells)
