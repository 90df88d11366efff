-- What holds at each turn of the loop of `groups_replay::rounds::Rounds::compute_kinds`: after the first, what is computed of the board holds.
-- Assumes nothing.
use Prim.Native.Nat.{ℕ, ◌*◌, ◌<◌}
use mathlib.Core.List.{List}
use lib.ListN.{take}
use Rattle.grid.specs.Side.{sized}
use Rattle.kinds.specs.Kinds.{view}
use Rattle.kinds.specs.Inside.{puzzle_with, Given, Held}
use Rattle.groups_replay.proofs.rounds.Rounds.compute_kinds.Given as goal

abbrev pub invariant-loop-i : goal.invariant-loop-i
invariant-loop-i l =
    0 < l._i → (arrows : List (List ℕ)) → Given (puzzle_with (sized l.board.grid.height l.board.grid.width) arrows) (take (l.board.grid.height * l.board.grid.width) l.board.cells.now) l.blocks.labels l.blocks.arrowed
    → Held (view (puzzle_with (sized l.board.grid.height l.board.grid.width) arrows) (take (l.board.grid.height * l.board.grid.width) l.board.cells.now)) l.kinds l.owners
