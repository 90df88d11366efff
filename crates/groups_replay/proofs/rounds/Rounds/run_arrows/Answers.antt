-- `groups_replay::rounds::Rounds::run_arrows` meets its contract: the blocks, and what comes of them.
-- Assumes nothing.
use Prim.Native.Nat.{◌*◌}
use native.Mathlib.Omega.{arith}
use lib.ListN.{take}
use Rattle.grid.specs.Cells.{square}
use Rattle.grid.specs.Grid.{size}
use Rattle.grid.specs.Side.{sized}
use Rattle.grid.proofs.SideLaws.{area}
use Rattle.groups.specs.Arrows.{on_arrow}
use Rattle.groups.specs.Arrays.{counts}
use Rattle.groups.proofs.TableLaws.{table_on}
use Rattle.groups_replay.proofs.BlockLaws.{groups_told}
use Rattle.groups_replay.proofs.RunLaws.{names_arrowed}
use Rattle.groups_replay.proofs.rounds.Rounds.run_arrows.Goals as goal

pub returns : goal.returns
unfolding counts size
returns c =
    let a = c.args in
    let board = a.board.now in
    let g = sized board.grid.height board.grid.width in
    let n = board.grid.height * board.grid.width in
    let cells = take n board.cells.now in
    λ arrows marks some kinds.
    let table = table_on g (square cells) arrows marks (c.label-blocks.ensures.computed some) in
    record {
      rest = c.run_kinds.result;
      rest_so = rw (c.on-behind.ensures.same, c.on-behind.ensures.on, c.size-n.ensures.value, names_arrowed g (square cells) table) at (c.run_kinds.ensures arrows kinds (record { named = table.groups_are; counted = table.arrowed_are }));
      answer = c.groups_differ-differs.result;
      told = groups_told g (square cells) (square cells) (on_arrow arrows) a.cursor.list.now a.cursor.at n (omega arith) (area board.grid.height board.grid.width board.grid.tall board.grid.wide) table
          c.groups_differ-differs.result (rw c.size-n.ensures.value at c.groups_differ-differs.ensures);
      counted = c.also.ensures;
    }
