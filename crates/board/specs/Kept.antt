-- A board as the code keeps it, and what `open` answers.
-- Assumes nothing.
use Rattle.std.specs.Prelude.{ℕ, List, [], map, length, take, replicate}
use Rattle.grid.specs.Grid.{size}
use Rattle.grid.specs.Lists.{array_of}
use Rattle.record.specs.Record.{Outcome, ok, refused}
use Rattle.record.specs.Leaf.{Range, Leaf, leaf_with, leaf_of}
use Rattle.record.specs.Sizes.{kept_ranges}
use Rattle.record.specs.Problem.{problem_of, puzzle_of, grid_of, blank, Done, Refused}
use Rattle.sizes.specs.Kept.{lowest_of, highest_of}
use Rattle.board.specs.declared.Board.{Board}
use Rattle.board.specs.Answers.{Opened}
use Rattle.grid.specs.Cells.{Literal}
use Rattle.board.specs.Board.{cells_after}

-- the counts of hints where no player has taken one: 0 for each of four players
abbrev pub no_hints : List ℕ
no_hints = replicate 4 0

-- the board of a leaf with the standing decisions ds, in arrays, and the counts ns of hints; its sizes by cell
unfoldable pub board_of : Leaf → List Literal → List ℕ → Board
board_of l ds ns = record {
  problem = problem_of l.puzzle;
  edition = l.edition;
  cells = array_of 2 (cells_after l.puzzle.grid ds);
  order = array_of 0 (map (λ (d : Literal). d.0) ds);
  decided = length ds;
  hints = ns;
  lowest = lowest_of l.sizes;
  highest = highest_of l.sizes;
}

-- the states of a board's cells
unfoldable pub cells_on : Board → List ℕ
cells_on b = take (size (grid_of b.problem)) b.cells

-- the sizes that a board keeps
unfoldable pub sizes_on : Board → List Range
sizes_on b = kept_ranges b.lowest b.highest (size (grid_of b.problem))

-- the leaf of a board: its puzzle, its edition and its sizes
unfoldable pub leaf_on : Board → Leaf
leaf_on b = leaf_with b.edition (sizes_on b) (puzzle_of b.problem)

-- the board of no cells that stands beside a refusal
unfoldable pub blank_board : Board
blank_board = record { problem = blank; edition = 1; cells = array_of 2 []; order = array_of 0 []; decided = 0; hints = no_hints; lowest = array_of 0 []; highest = array_of 0 [] }

-- the answer to what was read, with the fresh board: all undecided, no hint taken
unfoldable pub opening : Outcome Leaf → Opened
opening (refused k) = record { answer = Refused k; board = blank_board }
opening (ok l) = record { answer = Done; board = board_of l [] no_hints }

-- what `open` answers of the bytes s in the edition e with the sizes ns
unfoldable pub open_of : List ℕ → ℕ → List ℕ → Opened
open_of s e ns = opening (leaf_of s e ns)
