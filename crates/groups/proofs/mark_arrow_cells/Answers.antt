-- `groups::mark_arrow_cells` meets its contract: the cells passed are marked.
-- Assumes nothing.
use Rattle.grid.specs.Lists.{member}
use Rattle.grid.proofs.MarkLaws.{Marks-none, Marks-next}
use Rattle.groups.proofs.mark_arrow_cells.Goals as goal

pub loop-i-init : goal.loop-i-init
unfolding member
loop-i-init c = Marks-none

pub loop-i-preserved : goal.loop-i-preserved
loop-i-preserved c =
    let k = c.loop-i.i-index in
    rw c.from.ensures (Marks-next c.args.arrows.now k c.loop-i-test.true (c.requires.cells k 0 c.loop-i-test.true) c.loop-i.invariant)
