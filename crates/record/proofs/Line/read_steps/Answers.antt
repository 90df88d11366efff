-- `record::Line::read_steps` meets its contract: the first steps are taken, and what is left makes of them what the whole makes.
-- Assumes nothing.
use native.Mathlib.Omega.{arith}
use Rattle.fields.proofs.OutcomeLaws.{agrees_fault}
use Rattle.record.proofs.ArrowLaws.{steps_fault, steps_end}
use Rattle.record.proofs.Line.read_steps.Goals as goal

pub returns-in_err-place-clause-cells : goal.returns-in_err-place-clause-cells
returns-in_err-place-clause-cells c = agrees_fault _ _ _ c.from_residual.ensures.1 (steps_fault _ _ _ _ c.args.steps c.loop-test.true c.loop.invariant.2 c.in_err-place.ensures.step)

pub returns-clause-cells : goal.returns-clause-cells
returns-clause-cells c = steps_end _ _ _ _ c.args.steps (omega (arith, c.loop.auto.counter-end, c.loop-test.false)) c.loop.invariant.2
