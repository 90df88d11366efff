-- What holds at each turn of the loop of `fence::Fence::place`, and what falls from turn to turn.
-- Assumes nothing.
use Prim.Native.Nat.{◌≤◌, ◌<◌, ◌-◌}
use lib.ListN.{get_or}
use Rattle.fence.specs.Inside.{key}
use Rattle.fence.proofs.Fence.place.Given as goal

abbrev pub invariant-loop-low : goal.invariant-loop-low
invariant-loop-low l = (l.low ≤ l.high) × (l.high ≤ l.self.count) × (0 < l.low → key (get_or l.self.part.now (l.low - 1) 0) < key l.index) × (l.high < l.self.count → key l.index ≤ key (get_or l.self.part.now l.high 0))

abbrev pub decreases-loop-low : goal.decreases-loop-low
decreases-loop-low l = l.high - l.low
