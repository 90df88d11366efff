-- `shades::shade_cells` meets its contract: the names and counts are those of the blocks, so what is written are the shades.
-- Assumes nothing.
use Prim.Native.Nat.{◌*◌, ◌≤◌}
use lib.ListN.{take}
use Rattle.grid.specs.Grid.{size}
use Rattle.grid.specs.Side.{sized}
use Rattle.grid.proofs.SideLaws.{area}
use Rattle.groups.specs.Arrays.{counts}
use Rattle.shades.proofs.PairLaws.{pairs_shades}
use Rattle.shades.proofs.shade_cells.Goals as goal

pub returns : goal.returns
unfolding counts size
returns c =
    let g = c.args.grid in
    let few : g.height * g.width ≤ 1024 = area g.height g.width g.tall g.wide in
    let T = c.compute_connected_components.ensures in
    pairs_shades (sized g.height g.width) (take (g.height * g.width) c.args.cells.now) _ _ T.groups_are T.squares_are.at few (rw c.size.ensures.value at c.cell_pairs.ensures)
