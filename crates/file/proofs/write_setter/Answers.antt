-- `file::write_setter` meets its contract: a refusal, and the grade with the solution.
-- Assumes nothing.
use lib.ListN.{length}
use Rattle.file.proofs.AnswerLaws.{setter_refused, setter_bounds, setter_given_lem}
use Rattle.file.proofs.write_setter.Goals as goal

pub returns-in_err-setter : goal.returns-in_err-setter
returns-in_err-setter c = setter_refused (length c.args.output.now) c.args.file.now c.args.edition c.args.output.now _ _ c.from_residual.ensures.1 c.in_err-setter.ensures

pub write_solution-requires : goal.write_solution-requires
write_solution-requires c =
    let b = setter_bounds (length c.args.output.now) c.args.file.now c.args.edition c.in_ok-setter.ensures in
    (b.1, b.0)

pub returns : goal.returns
returns c = setter_given_lem (length c.args.output.now) c.args.file.now c.args.edition c.in_ok-setter.ensures c.args.output.now _ c.write_solution.ensures
