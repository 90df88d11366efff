-- `growth::Scene::count_reach` meets its contract: the floating groups near, and the sizes of their chains with the block's own.
-- Assumes nothing.
use mathlib.Core.Path.{refl}
use lib.ListN.{take}
use Prim.Native.Nat.{◌*◌}
use Rattle.growth.proofs.Scene.count_reach.Goals as goal

pub returns : goal.returns
returns c =
    let s = c.args.self.now in
    let i = s.linked.info in
    let cells = take (i.grid.height * i.grid.width) i.cells.now in
    λ lines held arrow. c.reach_size.ensures i lines cells _ _ _ held s.counts (s.blocks c.args.f c.requires.name arrow) refl (c.list_near-count.ensures.near lines cells held) arrow
