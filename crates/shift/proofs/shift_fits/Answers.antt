-- `shift::shift_fits` meets its contract: the gathered block, and the shifts of it to each cell of the reach.
-- Assumes nothing.
use Rattle.shift.proofs.ShiftChains.{gathered_view}
use Rattle.shift.proofs.shift_fits.Goals as goal

pub returns : goal.returns
returns c =
    let a = c.args.linked.now.info in
    λ lines cells held arrow. (rw c.from-2.ensures at c.fits.ensures) lines cells held arrow (gathered_view a.grid.height a.grid.width lines cells held c.args.f c.gather_block.ensures)
