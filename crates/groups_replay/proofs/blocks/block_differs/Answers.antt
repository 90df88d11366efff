-- `groups_replay::blocks::block_differs` holds the reach and then the fence against what the list says.
-- Assumes nothing.
use Prim.Native.Nat.{◌*◌}
use lib.ListN.{take}
use mathlib.Core.Path.{refl}
use Rattle.kinds.specs.Board.{board_of}
use Rattle.groups_replay.proofs.BlockLaws.{Block-told}
use Rattle.groups_replay.proofs.blocks.block_differs.Goals as goal

pub returns-else-reach_differs : goal.returns-else-reach_differs
returns-else-reach_differs c =
    let a = c.args in
    let info = a.info.now in
    let n = info.grid.height * info.grid.width in
    λ arrows held.
    let reach = c.compute_reach-reach.ensures arrows (take n info.cells.now) held in
    Block-told (board_of info arrows) a.f a.block.list.now a.block.at c.size-n.result n c.number_at.result c.size-n.ensures.value c.number_at.ensures.0 reach
    refl (c.reason_for_adjacent_floating_boundary-written.ensures arrows held reach.marked) c.reach_differs.result c.fence_differs.result c.reach_differs.ensures c.if-reach_differs.false (rw (c.on-fence.ensures.same, c.on-fence.ensures.on) at c.fence_differs.ensures)
