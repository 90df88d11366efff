-- What holds at each turn of the loop of `groups::mark_arrow_cells`.
-- Assumes nothing.
use lib.ListN.{take}
use Rattle.grid.specs.Lists.{member}
use Rattle.grid.specs.Marks.{Marks}
use Rattle.groups.proofs.mark_arrow_cells.Given as goal

abbrev pub invariant-loop-i : goal.invariant-loop-i
invariant-loop-i l = Marks l.marks (λ i. member i (take l.i-index l.arrows))
