-- `record_replay::record_differs` meets its contract: an accepted record's problem decides, and a refused one differs.
-- Assumes nothing.
use Rattle.record_replay.proofs.ReadingLaws.{accepted, not_accepted}
use Rattle.record_replay.proofs.record_differs.Goals as goal

pub returns-in-Ok : goal.returns-in-Ok
returns-in-Ok c = accepted c.args.«record».now c.args.said.list.now c.args.said.at c.problem_differs.result c.in-Ok.ensures c.problem_differs.ensures

pub returns-in-Err : goal.returns-in-Err
returns-in-Err c = not_accepted c.args.«record».now c.args.said.list.now c.args.said.at c.in-Err.ensures
