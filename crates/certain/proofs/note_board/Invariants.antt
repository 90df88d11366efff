-- What holds at each turn of the loop of `certain::note_board`, and what falls from turn to turn.
-- Assumes nothing.
use Prim.Native.Nat.{◌≤◌, ◌-◌}
use Rattle.certain.specs.Inside.{Noted}
use Rattle.certain.proofs.note_board.Given as goal

abbrev pub invariant-loop-i : goal.invariant-loop-i
invariant-loop-i l = (l.i ≤ l.n) × Noted l.i l.cells l.initial.facts l.facts

abbrev pub decreases-loop-i : goal.decreases-loop-i
decreases-loop-i l = l.n - l.i
