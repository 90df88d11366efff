-- What holds at each turn of the loop of `form::mark`.
-- Assumes nothing.
use Rattle.form.proofs.Marking.{Marking}
use Rattle.form.proofs.mark.Given as goal

abbrev pub invariant-loop-cell : goal.invariant-loop-cell
invariant-loop-cell l = Marking l.n l.list l.cell-index l.marks
