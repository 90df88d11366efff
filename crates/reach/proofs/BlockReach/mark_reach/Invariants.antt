-- What holds at each turn of the loop of `reach::BlockReach::mark_reach`.
-- Assumes nothing.
use mathlib.Core.Path.{◌≡◌}
use Rattle.reach.specs.Inside.{Reached}
use Rattle.reach.proofs.BlockReach.mark_reach.Given as goal

abbrev pub invariant-loop-i : goal.invariant-loop-i
invariant-loop-i l = Reached l.info.kinds.now l.info.owners.now l.self.near l.f l.i l.self.marks l.self.size × (l.self.near ≡ l.fn.self.near)
