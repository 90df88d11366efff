-- What is turned with a leaf: calls, decisions and sizes.
-- Assumes nothing.
use Rattle.std.specs.Prelude.{cond, List, map, eqb, ltb}
use Rattle.grid.specs.Lists.{filter, flat_map}
use Rattle.grid.specs.Grid.{Grid, size, cells_of}
use Rattle.grid.specs.Cells.{Literal}
use Rattle.record.specs.Leaf.{Range}
use Rattle.board.specs.Board.{Call, decide, undo, find}
use Rattle.turn.specs.Turn.{Turn}
use Rattle.verdict.specs.Isomorphism.{range_to}

-- a call on a board of the grid g, turned by m: decide is at the turned cell. An index off the grid has none and stays as it is: it is refused on both
unfoldable pub call_to : Grid → Turn → Call → Call
call_to g m (decide i v) = decide (cond (ltb i (size g)) (m.to i) i) v
call_to g m undo = undo
call_to g m (find q n) = find q n

-- a decision at its turned cell
abbrev pub decision_to : Turn → Literal → Literal
decision_to m d = (m.to d.0, d.1)

-- ranges on a grid, listed by rising cell
unfoldable pub by_cell : Grid → List Range → List Range
by_cell g sizes = flat_map (λ c. filter (λ (r : Range). eqb r.cell c) sizes) (cells_of g)

-- sizes, each at its turned cell, listed by rising cell again
abbrev pub sizes_to : Turn → List Range → List Range
sizes_to m sizes = by_cell m.grid (map (range_to m.to) sizes)
