-- The call for the shades of a board: what it writes.
-- Assumes nothing.
use Rattle.std.specs.Prelude.{ℕ, ◌*◌, List}
use Rattle.grid.specs.Grid.{size}
use Rattle.record.specs.Record.{Outcome}
use Rattle.board.specs.Board.{cells_after}
use Rattle.exported.specs.Written.{bytes_of}
use Rattle.shades.specs.Shades.{shades_on}
use Rattle.calls.specs.Call.{host_call}

-- the call opens, decides in order and writes the shades, each of their numbers as two bytes: 11 for an output below 4 × H × W bytes
unfoldable pub host_shades : List ℕ → List ℕ → ℕ → Outcome (List ℕ)
host_shades s decisions k = host_call (λ g. 4 * size g) (λ l ds. bytes_of (shades_on l.puzzle.grid (cells_after l.puzzle.grid ds))) s decisions k
