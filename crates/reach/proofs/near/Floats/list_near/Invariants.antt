-- What holds at each turn of the loop of `reach::near::Floats::list_near`, and what falls from turn to turn.
-- Assumes nothing.
use Prim.Native.Nat.{◌-◌, ◌*◌}
use Rattle.grid.specs.Side.{sized}
use Rattle.reach.proofs.NearLaws.{Nearby}
use Rattle.reach.proofs.near.Floats.list_near.Given as goal

abbrev pub invariant-loop-i : goal.invariant-loop-i
invariant-loop-i l =
    Nearby l.linked.info.kinds.now l.linked.info.owners.now (sized l.linked.info.grid.height l.linked.info.grid.width) (l.linked.info.grid.height * l.linked.info.grid.width)
    l.f l.i l.self.near.now l.self.groups.now l.total

abbrev pub decreases-loop-i : goal.decreases-loop-i
decreases-loop-i l = 1024 - l.i
