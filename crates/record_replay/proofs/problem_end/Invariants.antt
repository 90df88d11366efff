-- What holds at each turn of the loop of `record_replay::problem_end`.
-- Assumes nothing.
use Prim.Native.Nat.{◌-◌}
use mathlib.Core.Path.{◌≡◌}
use Rattle.record_replay.specs.Problems.{arrows_end, problem_end}
use Rattle.record_replay.proofs.problem_end.Given as goal

abbrev pub invariant-loop-i : goal.invariant-loop-i
invariant-loop-i l =
    (l.cursor.list.now ≡ l.fn.problem.list.now)
    × (arrows_end l.fn.problem.list.now l.cursor.at (l.arrows - l._i) ≡ problem_end l.fn.problem.list.now l.fn.problem.at)
