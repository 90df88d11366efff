-- The board itself, lent by a caller in another language: the number that each call returns, and the board that open leaves. What the other calls leave
-- is what decide, undo and find leave.
-- Assumes nothing.
use Rattle.std.specs.Prelude.{ℕ, ◌+◌, leb, ℤ, pos, neg_ℤ}
use Rattle.record.specs.Record.{Outcome, ok, refused, ◌>>=◌, unless}
use Rattle.record.specs.Problem.{Answer}
use Rattle.record.specs.Problem as answers
use Rattle.board.specs.declared.Board.{Board}
unfoldable pub use Rattle.board.specs.Answers.{opened_over, after_open}
use Rattle.board.specs.Form.{well_formed}
use Rattle.board.specs.Decide.{area}
use Rattle.board.specs.Hints.{count_of}
use Rattle.literals.specs.Buffer.{Finding}
use Rattle.literals.specs.Buffer as findings
use Rattle.finished.specs.Verdicts.{Verdict}
use Rattle.finished.specs.Verdicts as verdicts
use Rattle.certain.specs.Facts.{certain_of}
use Rattle.calls.specs.Told.{Said, said_of}

-- an answer as a number: 0 for done, or the negated refusal number
unfoldable pub answer_number : Answer → ℤ
answer_number answers.Done = pos 0
answer_number (answers.Refused k) = neg_ℤ (pos k)

-- what find answers as a number: how many literals there are, 0 for none, or the negated refusal number
unfoldable pub finding_number : Finding → ℤ
finding_number findings.Nothing = pos 0
finding_number (findings.Reason k) = pos k
finding_number (findings.Refused k) = neg_ℤ (pos k)

-- a verdict as a number: 1 yes, 0 no, or the negated refusal number
unfoldable pub verdict_number : Verdict → ℤ
verdict_number verdicts.Yes = pos 1
verdict_number verdicts.No = pos 0
verdict_number (verdicts.Refused k) = neg_ℤ (pos k)

-- which cells are certain on a board, for an output of k bytes: 6, then 11 for one below 8 + H × W, then the search
unfoldable pub board_certain : Board → ℕ → ℕ → Outcome Said
board_certain b budget k =
    unless (well_formed b) 6 >>= λ _.
    unless (leb (8 + area b) k) 11 >>= λ _.
    ok (said_of (area b) (certain_of b budget))

-- how many hints player q has taken: 6, then 17 for a player above 3, then the count
unfoldable pub hints_of : Board → ℕ → Outcome ℕ
hints_of b q =
    unless (well_formed b) 6 >>= λ _.
    unless (leb q 3) 17 >>= λ _.
    ok (count_of b q)

-- the number returned for a count, or the negated refusal number
unfoldable pub count_number : Outcome ℕ → ℤ
count_number (refused k) = neg_ℤ (pos k)
count_number (ok n) = pos n
