-- What holds at each turn of the loop of `reach::near::count_cells`.
-- Assumes nothing.
use Rattle.reach.specs.Near.{Sizes}
use Rattle.reach.proofs.near.count_cells.Given as goal

abbrev pub invariant-loop-i : goal.invariant-loop-i
invariant-loop-i l = Sizes l.kinds l.owners l.i l.sizes
