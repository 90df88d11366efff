-- `clauses::write_record` meets its contract: the record is refused, or its sheet is written.
-- Assumes nothing.
use mathlib.Core.Path.{sym}
use lib.ListN.{length}
use Rattle.exported.proofs.WrittenLaws.{Writes-fault, Writes-as}
use Rattle.clauses.proofs.AnswerLaws.{sheet_refused, sheet_read}
use Rattle.clauses.proofs.write_record.Goals as goal

pub returns-in_err-puzzle : goal.returns-in_err-puzzle
returns-in_err-puzzle c =
    Writes-fault _ c.args.output.now _ _ c.from_residual.ensures.1 (sheet_refused (length c.args.output.now) c.args.«record».now _ (sym c.in_err-puzzle.ensures))

pub returns : goal.returns
returns c = Writes-as _ c.args.output.now _ _ (sheet_read (length c.args.output.now) c.args.«record».now (sym c.in_ok-puzzle.ensures)) c.write_puzzle.ensures
