-- `kinds::compute_board_info_detailed` meets its contract: the two passes one after the other.
-- Assumes nothing.
use Rattle.grid.proofs.SideLaws.{area}
use Rattle.kinds.proofs.Views.{none_named, detailed}
use Rattle.kinds.proofs.compute_board_info_detailed.Goals as goal

pub returns : goal.returns
returns c =
    let fits = area c.args.grid.height c.args.grid.width c.args.grid.tall c.args.grid.wide in
    λ arrows given. detailed c.args.grid.height c.args.grid.width fits c.args.cells.now c.args.blocks.now.labels c.args.blocks.now.arrowed _ _ _
    c.compute_cell_kinds.ensures.kinds c.compute_cell_kinds.ensures.owners (c.name_floating_groups.ensures _ (none_named _ _ _ _ _ fits _ _ c.compute_cell_kinds.ensures.kinds c.compute_cell_kinds.ensures.owners)) arrows given
