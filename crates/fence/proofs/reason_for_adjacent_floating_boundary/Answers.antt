-- `fence::reason_for_adjacent_floating_boundary` meets its contract: the literals that are inserted are those of the fence.
-- Assumes nothing.
use Rattle.std.proofs.Common.{rules}
use Rattle.fence.proofs.FenceList.{fence_computed}
use Rattle.fence.proofs.reason_for_adjacent_floating_boundary.Goals as goal

pub returns : goal.returns
returns c =
    let a = c.args in
    let info = a.info.now in
    let g = info.grid in
    fence_computed g.height g.width info.cells.now info.kinds.now info.owners.now a.marks.now a.f a.part.now (search rules) c.insert_fence.ensures.ordered
