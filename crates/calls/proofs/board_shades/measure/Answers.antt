-- `calls::board_shades::measure` meets its contract: the grid of a record that is accepted.
-- Assumes nothing.
use mathlib.Core.Path.{sym, ap}
use Rattle.grid.specs.Side.{sized}
use Rattle.fields.proofs.OutcomeLaws.{agrees_fault}
use Rattle.record.specs.Record.{read_record}
use Rattle.record.specs.Problem.{problem_of}
use Rattle.record.specs.declared.Problem.{Problem}
use Rattle.record.proofs.ProblemLaws.{problem_ok, problem_refused, read_ok}
use Rattle.record.proofs.RecordLaws.{record_Valid}
use Rattle.calls.proofs.board_shades.measure.Goals as goal

pub returns-in_err-read_record_in : goal.returns-in_err-read_record_in
returns-in_err-read_record_in c = agrees_fault _ c.from_residual.result c.in_err-read_record_in.field-0.0 c.from_residual.ensures.1 (problem_refused (read_record c.args.«record».now) (sym c.in_err-read_record_in.ensures))

pub grid-requires : goal.grid-requires
unfolding problem_of
grid-requires c =
    let p = problem_ok (read_record c.args.«record».now) (read_ok c.in_ok-read_record_in.ensures) in
    let v = (record_Valid c.args.«record».now p.1).high in
    (rw (ap (λ (q : Problem). q.height) p.2) v.0, rw (ap (λ (q : Problem). q.width) p.2) v.1)

pub returns : goal.returns
unfolding problem_of
returns c =
    let p = problem_ok (read_record c.args.«record».now) (read_ok c.in_ok-read_record_in.ensures) in
    (p.0, p.1, rw (c.grid.ensures.height, c.grid.ensures.width) (ap (λ (q : Problem). sized q.height q.width) p.2))
