-- What holds at each turn of the loop of `reach::BlockReach::mark_near_floats`.
-- Assumes nothing.
use mathlib.Core.Path.{◌≡◌}
use Rattle.grid.specs.Marks.{Marks}
use Rattle.grid.specs.Side.{sized}
use Rattle.reach.specs.Inside.{near_among}
use Rattle.reach.proofs.BlockReach.mark_near_floats.Given as goal

abbrev pub invariant-loop-i : goal.invariant-loop-i
invariant-loop-i l = Marks l.self.near (near_among l.info.kinds.now l.info.owners.now (sized l.info.grid.height l.info.grid.width) l.f l.i) × (l.self ≡ record l.fn.self { near = l.self.near })
