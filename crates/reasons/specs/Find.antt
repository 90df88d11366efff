-- What find answers on a board, and what it leaves in the lent buffer. What it leaves on the board is `after_find` of crate board.
-- Assumes nothing.
use Rattle.std.specs.Prelude.{ℕ, ◌/◌, ◌%◌, List, map, length, take, Option, Some, None}
use Rattle.std.proofs.Math.Option.{none, some}
use Rattle.record.specs.Record.{Outcome, ok, refused}
use Rattle.grid.specs.Cells.{Literal}
unfoldable pub use Rattle.board.specs.Kept.{cells_on, leaf_on}
use Rattle.board.specs.Hints.{find_refusal}
use Rattle.board.specs.declared.Board.{Board}
use Rattle.literals.specs.Literals.{Found}
use Rattle.reasons.specs.Reasons.{find_reason}
use Rattle.literals.specs.Buffer.{Finding, Nothing, Reason, Refused, finding_by, buffer_by}

-- the first reason that applies on a board
unfoldable pub reason_on : Board → Found
reason_on b = find_reason (leaf_on b) (cells_on b)

-- what find answers player q
unfoldable pub find_of : Board → ℕ → List ℕ → Finding
find_of b q buffer = finding_by (find_refusal b q (length buffer)) (reason_on b)

-- the answer as an outcome: a refusal, none, or how many literals there are
abbrev pub found_as : Finding → Outcome (Option ℕ)
found_as Nothing = ok None
found_as (Reason k) = ok (Some k)
found_as (Refused k) = refused k

-- what find of player q leaves in the buffer
unfoldable pub buffer_after : Board → ℕ → List ℕ → List ℕ
buffer_after b q buffer = buffer_by (find_refusal b q (length buffer)) (reason_on b) buffer

-- a number of the buffer as a literal
unfoldable pub literal_of : ℕ → Literal
literal_of w = (w % 32768, w / 32768)

-- what a caller of find learns from the answer and the buffer: a refusal, none, or the literals in the first places
unfoldable pub told : Finding → List ℕ → Outcome Found
told Nothing buffer = ok none
told (Reason k) buffer = ok (some (map literal_of (take k buffer)))
told (Refused k) buffer = refused k

-- find of player q on a board with a lent buffer, as its caller sees it
unfoldable pub answer_on : Board → ℕ → List ℕ → Outcome Found
answer_on b q buffer = told (find_of b q buffer) (buffer_after b q buffer)
