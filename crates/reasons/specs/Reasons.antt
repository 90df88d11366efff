-- What find says after decisions.
-- Assumes nothing.
use Rattle.std.specs.Prelude.{List}
use Rattle.record.specs.Leaf.{Leaf}
use Rattle.grid.specs.Cells.{Literal}
use Rattle.board.specs.Board.{cells_after}
use Rattle.literals.specs.Literals.{Found}
unfoldable pub use Rattle.reasons.specs.Inconsistency.{find_reason}

-- what find says of the leaf l after the decisions ds
unfoldable pub find_on : Leaf → List Literal → Found
find_on l ds = find_reason l (cells_after l.puzzle.grid ds)
