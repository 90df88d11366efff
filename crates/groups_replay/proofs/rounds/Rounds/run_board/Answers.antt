-- `groups_replay::rounds::Rounds::run_board` meets its contract: the leaf of the board, and its groups.
-- Assumes nothing.
use Prim.Native.Nat.{◌*◌}
use lib.ListN.{take}
use Rattle.grid.specs.Grid.{size}
use Rattle.record.specs.Problem.{grid_of}
use Rattle.board.specs.Decide.{area}
use Rattle.board.specs.Kept.{cells_on}
use Rattle.groups_replay.proofs.BoardLaws.{ok_told, board_told}
use Rattle.groups_replay.proofs.rounds.Rounds.run_board.Goals as goal

pub returns-then-cursor-n : goal.returns-then-cursor-n
unfolding area size grid_of
returns-then-cursor-n c =
    let told = ok_told _ c.leaf.result c.in_ok-leaf.ensures.value c.leaf.ensures.lent in
    let less = rw (c.size-n.ensures.value, c.grid-grid.ensures.0, c.grid-grid.ensures.1, told.2) at c.if-cursor-n.true in
    λ _. less

pub returns : goal.returns
unfolding area size grid_of cells_on
returns c =
    let told = ok_told _ c.leaf.result c.in_ok-leaf.ensures.value c.leaf.ensures.lent in
    let a = c.args in
    let lent = c.in_ok-leaf.leaf in
    let n = lent.problem.now.height * lent.problem.now.width in
    let same = c.grid-grid.ensures in
    let marks = rw c.arrow_total.ensures at c.mark_arrow_cells-onarrow.ensures in (
      rw (c.size-n.ensures.value, same.0, same.1, told.2) at c.if-cursor-n.false,
      rw told.2 at (board_told lent.problem.now lent.arrows lent.tall lent.wide a.self (take n a.board.now.cells) marks n a.cursor.list.now a.cursor.at
          c.potential_groups_differ-differs.result (rw (same.0, same.1) at c.potential_groups_differ-differs.ensures)
          c.run_arrows-found.result (rw (c.on-behind.ensures.same, c.on-behind.ensures.on, c.size-n.ensures.value, same.0, same.1) at c.run_arrows-found.ensures) c.also.ensures),
    )
