-- What holds at each turn of the loop of `groups_replay::rounds::Rounds::label`: after the first, the table is that of the board's groups.
-- Assumes nothing.
use Prim.Native.Nat.{◌*◌, ◌<◌}
use lib.ListN.{take}
use Rattle.grid.specs.Side.{sized}
use Rattle.grid.specs.Cells.{square}
use Rattle.groups.specs.Arrays.{counts, marked, Names, GroupTable}
use Rattle.groups_replay.proofs.rounds.Rounds.label.Given as goal

abbrev pub invariant-loop-i : goal.invariant-loop-i
invariant-loop-i l =
    Names l.groups.firsts l.groups.count
    × (0 < l._i → GroupTable (sized l.board.grid.height l.board.grid.width) (counts l.fn.members (take (l.board.grid.height * l.board.grid.width) l.board.cells.now)) (square (take (l.board.grid.height * l.board.grid.width) l.board.cells.now)) (marked l.board.onarrow.now) l.groups.labels l.groups.firsts l.groups.squares l.groups.arrowed l.groups.count)
