-- `replay::go_through` meets its contract: it counts one entry after another until none is left.
-- Assumes nothing.
use Rattle.std.proofs.Common.{rules}
use Rattle.replay.specs.Tallies.{through_all}
use Rattle.replay.proofs.TallyLaws.{one_more}
use Rattle.replay.proofs.go_through.Goals as goal

pub loop-tally-preserved : goal.loop-tally-preserved
loop-tally-preserved g c = λ u t. c.loop-tally.invariant u (one_more c.run.result c.unwrap_or-run.result (search rules) (search rules) (search rules) (search rules) t)

pub returns : goal.returns
returns g c = c.loop-tally.invariant _ (through_all (search rules))
