-- `form::accepted::Accepted::read` meets its contract: the problem that was read is well formed, and keeps the record's puzzle.
-- Assumes nothing.
use mathlib.Core.Path.{sym}
use Rattle.record.specs.Record.{read_record}
use Rattle.record.proofs.ProblemLaws.{problem_refused, read_ok}
use Rattle.fields.proofs.OutcomeLaws.{outcome_fault}
use Rattle.form.proofs.AcceptedLaws.{read_formed, read_kept}
use Rattle.form.proofs.accepted.Accepted.read.Goals as goal

pub returns-in_err-read_record_in : goal.returns-in_err-read_record_in
returns-in_err-read_record_in c = outcome_fault _ _ c.from_residual.ensures.1 (sym (problem_refused (read_record c.args.bytes.now) (sym c.in_err-read_record_in.ensures)))

pub invariant_of-result : goal.invariant_of-result
invariant_of-result c = read_formed c.args.bytes.now (read_ok c.in_ok-read_record_in.ensures)

pub returns : goal.returns
returns c = read_kept c.args.bytes.now (read_ok c.in_ok-read_record_in.ensures)
