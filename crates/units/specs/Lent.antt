-- A board that is lent by its grid and the states of its cells. Its arrows are not lent.
-- Assumes nothing.
use Rattle.std.specs.Prelude.{ℕ, ◌+◌, ◌*◌, ◌≤◌, List, length, take}
use Rattle.grid.specs.Side.{sized}
use Rattle.grid.specs.declared.Grid.{Grid}
use Rattle.record.specs.Record.{Puzzle}
use Rattle.kinds.specs.Inside.{puzzle_with}

module _ (grid : Grid) where
  -- how many cells it has
  abbrev pub cells_in : ℕ
  cells_in = grid.height * grid.width

  -- its puzzle, if these are its arrows
  abbrev pub puzzle_on : List (List ℕ) → Puzzle
  puzzle_on = puzzle_with (sized grid.height grid.width)

  -- the states of its cells, which stand first in their array
  abbrev pub states_on : List ℕ → List ℕ
  states_on = take cells_in

  -- there is room for any reason on it
  abbrev pub HasRoom : List ℕ → Type 0
  HasRoom buffer = 3 * cells_in + 1 ≤ length buffer
