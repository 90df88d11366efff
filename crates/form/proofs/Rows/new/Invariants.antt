-- What holds at each turn of the loop of `form::Rows::new`, and what falls from turn to turn.
-- Assumes nothing.
use Prim.Native.Nat.{◌-◌}
use Rattle.form.proofs.Marking.{Marked}
use Rattle.form.proofs.Rows.new.Given as goal

abbrev pub invariant-loop-at : goal.invariant-loop-at
invariant-loop-at l = Marked l.grid.width l.at l.starts

abbrev pub decreases-loop-at : goal.decreases-loop-at
decreases-loop-at l = l.at-end - l.at
