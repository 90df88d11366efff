-- `form::is_formed` meets its contract: a grid of a right size has columns.
-- Assumes nothing.
use Rattle.form.proofs.Verdicts.{good_width}
use Rattle.form.proofs.is_formed.Goals as goal

pub good_arrows-requires-clause-some : goal.good_arrows-requires-clause-some
good_arrows-requires-clause-some c = good_width c.args.problem.now c.in-Some.ensures.some.1 c.in-Some.ensures.some.0
