-- `fence::Fence::insert_block` meets its contract: the block's cells among those passed are inserted.
-- Assumes nothing.
use native.Mathlib.Omega.{arith}
use Rattle.fence.proofs.Ordering.{ordered_room}
use Rattle.fence.proofs.Fences.{block_more, block_all}
use Rattle.fence.proofs.Fence.insert_block.Goals as goal

pub insert_cell-requires-clause-room : goal.insert_cell-requires-clause-room
insert_cell-requires-clause-room c =
    let p = c.requires.room in
    ordered_room (c.loop-i.invariant p.lent p.test p.filled).ordered

pub loop-i-preserved : goal.loop-i-preserved
loop-i-preserved c =
    let info = c.args.info.now in
    λ lent t o.
    let f = c.insert_cell.ensures lent _ (c.loop-i.invariant lent t o) in
    record { same = f.same; ordered = block_more info.kinds.now info.owners.now c.args.e t c.loop-i.i f.ordered }

pub returns : goal.returns
returns c =
    let info = c.args.info.now in
    λ lent t o.
    let f = c.loop-i.invariant lent t o in
    record { same = f.same; ordered = block_all info.kinds.now info.owners.now c.args.e t c.loop-i.i (omega (arith, c.loop-i-test.false, c.size-i-end.ensures)) f.ordered }
