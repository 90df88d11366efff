-- `fence::Fence::insert_fence` meets its contract: what the cells passed bring into the fence is inserted.
-- Assumes nothing.
use Prim.Native.Nat.{◌*◌}
use mathlib.Core.Path.{refl}
use Rattle.grid.proofs.SideLaws.{area}
use Rattle.fence.proofs.Fences.{among_Whole, fence_none, fence_more}
use Rattle.fence.proofs.Fence.insert_fence.Goals as goal

pub loop-i-init : goal.loop-i-init
loop-i-init c =
    let a = c.args in
    let info = a.info.now in
    let g = info.grid in
    let e = c.requires.empty in
    record {
      same = refl;
      ordered = rw e (fence_none info.cells.now info.kinds.now info.owners.now a.marks.now _ a.f (g.height * g.width) a.self.now.part.now (area g.height g.width g.tall g.wide) c.requires.room);
    }

pub loop-i-preserved : goal.loop-i-preserved
loop-i-preserved c =
    let a = c.args in
    let info = a.info.now in
    let f = c.insert_fence_of.ensures _ _ (among_Whole info.cells.now info.kinds.now info.owners.now a.marks.now _ a.f c.loop-i.i) c.loop-i.invariant in
    record { same = f.same; ordered = fence_more info.cells.now info.kinds.now info.owners.now a.marks.now _ a.f c.loop-i.i f.ordered }
