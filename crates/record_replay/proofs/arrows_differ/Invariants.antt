-- What holds at each turn of the loop of `record_replay::arrows_differ`.
-- Assumes nothing.
use Prim.Native.Nat.{◌-◌, ◌≤◌}
use mathlib.Core.Bool.{Bool}
use mathlib.Core.Path.{◌≡◌}
use Rattle.replay.specs.Comparisons.{DiffersUnless}
use Rattle.record_replay.specs.Problems.{ArrowsSo}
use Rattle.record_replay.proofs.arrows_differ.Given as goal

abbrev pub invariant-loop-stop : goal.invariant-loop-stop
invariant-loop-stop l =
    let list = l.fn.said.list.now in
    (l.end ≤ 1024) × (l.arrow.list.now ≡ list)
    × ((r : Bool) → DiffersUnless r (ArrowsSo list l.arrow.at (l.count - l.stop-index) l.line l.ends l.end l.stop-index) → DiffersUnless r (ArrowsSo list l.fn.said.at l.count l.line l.ends 0 0))
