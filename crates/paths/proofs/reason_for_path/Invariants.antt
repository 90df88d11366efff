-- What holds at each turn of the loop of `paths::reason_for_path`, and what falls from turn to turn.
-- Assumes nothing.
use Prim.Native.Nat.{◌*◌, ◌-◌}
use Rattle.grid.specs.Side.{sized}
use Rattle.paths.proofs.Ways.{Way}
use Rattle.paths.proofs.reason_for_path.Given as goal

abbrev pub invariant-loop-cell : goal.invariant-loop-cell
invariant-loop-cell l = Way (sized l.fn.grid.height l.fn.grid.width) l.cells l.b l.a l.initial.way.out l.cell l.way

abbrev pub decreases-loop-cell : goal.decreases-loop-cell
decreases-loop-cell l = l.fn.grid.height * l.fn.grid.width - l.way.count
