-- What holds at each turn of the loop of `paths::BreadthFirstList::list_from`, and what falls from turn to turn.
-- Assumes nothing.
use Prim.Native.Nat.{◌*◌, ◌-◌}
use Rattle.grid.specs.Side.{sized}
use Rattle.paths.proofs.Breadth.{Run}
use Rattle.paths.proofs.BreadthFirstList.list_from.Given as goal

abbrev pub invariant-loop-p : goal.invariant-loop-p
invariant-loop-p l = Run (sized l.grid.height l.grid.width) l.cells l.b l.self.order.items l.self.from l.t

abbrev pub decreases-loop-p : goal.decreases-loop-p
decreases-loop-p l = l.grid.height * l.grid.width - l.t
