-- What `finished` answers.
-- Assumes nothing.
use Rattle.std.specs.Prelude.{ℕ, Bool, true, false, cond}
use Rattle.board.specs.Form.{well_formed}
use Rattle.board.specs.declared.Board.{Board}
use Rattle.reasons.specs.Find.{leaf_on, cells_on}
use Rattle.refusal.specs.Refusals.{Outcome, ok, refused}
use Rattle.finished.specs.Finished.{finished_test}

-- yes, no, or a refusal by its number
pub data Verdict : Type 0 where
  Yes : Verdict
  No : Verdict
  Refused : ℕ → Verdict

-- the same as an outcome
abbrev pub judged_as : Verdict → Outcome Bool
judged_as Yes = ok true
judged_as No = ok false
judged_as (Refused k) = refused k

-- yes where the test passes
unfoldable pub verdict : Bool → Verdict
verdict true = Yes
verdict false = No

-- yes exactly when the board is finished; 6 for a board that no list of calls could leave
unfoldable pub finished_of : Board → Verdict
finished_of b = cond (well_formed b) (verdict (finished_test (leaf_on b) (cells_on b))) (Refused 6)
