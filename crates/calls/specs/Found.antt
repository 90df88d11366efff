-- The call for the first reason: what it returns, and what it leaves in the output.
-- Assumes nothing.
use Rattle.std.specs.Prelude.{ℕ, ◌*◌, List, ◌++◌, map, ℤ, pos, neg_ℤ, length, drop}
use Rattle.std.proofs.Math.Option.{none, some}
use Rattle.grid.specs.Cells.{word}
use Rattle.record.specs.Record.{Outcome, ok, refused}
use Rattle.exported.specs.Written.{bytes_of}
use Rattle.board.specs.Board.{enough}
use Rattle.reasons.specs.Reasons.{find_on}
use Rattle.literals.specs.Literals.{Found}
use Rattle.calls.specs.Call.{host_call, host_call_with}

-- the call opens, decides in order and finds
unfoldable pub host_finds : List ℕ → List ℕ → ℕ → Outcome Found
host_finds s decisions k = host_call (λ g. 2 * enough g) find_on s decisions k

-- the same in the edition e with sizes
unfoldable pub host_finds_with : List ℕ → ℕ → List ℕ → List ℕ → ℕ → Outcome Found
host_finds_with s e sizes decisions k = host_call_with (λ g. 2 * enough g) find_on s e sizes decisions k

-- the number returned: the literal count, 0 for none, or the negated refusal number
unfoldable pub returned : Outcome Found → ℤ
returned (refused k) = neg_ℤ (pos k)
returned (ok none) = pos 0
returned (ok (some r)) = pos (length r)

-- the literal count of an outcome, 0 for none and for a refusal
abbrev pub literal_count : Outcome Found → ℕ
literal_count (refused k) = 0
literal_count (ok none) = 0
literal_count (ok (some r)) = length r

-- the output afterwards: the literals in its first bytes; those behind the last, and all of them after a refusal or none, are unchanged
unfoldable pub output_after : Outcome Found → List ℕ → List ℕ
output_after (refused k) output = output
output_after (ok none) output = output
output_after (ok (some r)) output = bytes_of (map word r) ++ drop (2 * length r) output
