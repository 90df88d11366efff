-- `join::join_records` meets its contract: the left record's refusals, the right's, and what comes after both.
-- Assumes nothing.
use mathlib.Core.Path.{sym}
use lib.ListN.{length}
use Rattle.exported.proofs.WrittenLaws.{Writes-fault, Writes-as}
use Rattle.join.proofs.AnswerLaws.{left_refused, right_refused, both_read}
use Rattle.join.proofs.join_records.Goals as goal

-- the left record is refused
pub returns-in_err-first : goal.returns-in_err-first
returns-in_err-first c =
    Writes-fault _ c.args.output.now _ _ c.from_residual.ensures.1 (left_refused (length c.args.output.now) c.args.left.now c.args.right.now _ (sym c.in_err-first.ensures))

-- the right one is
pub returns-in_err-second : goal.returns-in_err-second
returns-in_err-second c =
    Writes-fault _ c.args.output.now _ _ c.from_residual-in_err-second.ensures.1
    (right_refused (length c.args.output.now) c.args.left.now c.args.right.now c.in_ok-first.first _ (sym c.in_ok-first.ensures) (sym c.in_err-second.ensures))

-- both are accepted
pub returns : goal.returns
returns c =
    Writes-as _ c.args.output.now _ _
    (both_read (length c.args.output.now) c.args.left.now c.args.right.now c.in_ok-first.first c.in_ok-second.second (sym c.in_ok-first.ensures) (sym c.in_ok-second.ensures))
    c.write_joined.ensures
