-- `reasons::inconsistency::check_arrows` meets its contract: the kinds are those of the board, the cells of each owner are linked and counted, and the searches go on from there.
-- Assumes nothing.
use Rattle.groups.specs.Arrays.{lines_of}
use Rattle.reasons.proofs.Checks.{Blocks-Counted}
use Rattle.reasons.proofs.inconsistency.check_arrows.Goals as goal

pub search_arrows-requires-clause-blocks : goal.search_arrows-requires-clause-blocks
search_arrows-requires-clause-blocks c =
    let q = c.args.leaf.now.problem.now in
    let g = c.grid-grid.result in
    let same = c.grid-grid.ensures in
    let table = c.requires.blocks in
    Blocks-Counted g.height g.width g.tall g.wide (lines_of q.arrows q.ends q.count) c.args.cells.now
    (c.compute_board_info_detailed.ensures (lines_of q.arrows q.ends q.count) (rw (same.0, same.1) (record { named = table.groups_are; counted = table.arrowed_are })))
    (rw (same.0, same.1) table.squares_are)
