-- `reach::compute_reach` meets its contract: the two passes one after the other.
-- Assumes nothing.
use Rattle.grid.proofs.SideLaws.{area}
use Rattle.reach.proofs.Reaches.{Reach-computed}
use Rattle.reach.proofs.compute_reach.Goals as goal

pub returns : goal.returns
returns c =
    let info = c.args.info.now in
    let g = info.grid in
    λ arrows cells held. Reach-computed g.height g.width (area g.height g.width g.tall g.wide) info.kinds.now info.owners.now c.args.f _ _ _
    (rw c.mark_reach.ensures.near c.mark_near_floats.ensures.near) c.mark_reach.ensures.marked arrows cells held
