-- `turn::Move::line` meets its contract: no cell is in the array at first.
-- Assumes nothing.
use Rattle.grid.specs.Side.{sized}
use Rattle.turn.specs.Inside.{step_of}
use Rattle.turn.proofs.ArrayLaws.{moved_none}
use Rattle.turn.proofs.Move.line.Goals as goal

pub loop-t-init : goal.loop-t-init
loop-t-init c = moved_none (step_of c.args.self (sized c.args.grid.height c.args.grid.width)).to c.args.line.now
