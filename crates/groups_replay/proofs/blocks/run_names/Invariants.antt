-- What holds at each turn of the loop of `groups_replay::blocks::run_names`: what the blocks that are left count, all count.
-- Assumes nothing.
use Prim.Native.Nat.{ℕ, ◌≤◌}
use mathlib.Core.List.{List}
use lib.ListN.{length, drop}
use Rattle.std.specs.Prelude.{Option, IfSome}
use Rattle.kinds.specs.Board.{cell_count, board_of, HasArrows}
use Rattle.replay.specs.declared.Run.{Run}
use Rattle.groups_replay.specs.Blocks.{BlockRuns, arrowed_of}
use Rattle.groups_replay.proofs.blocks.run_names.Given as goal

abbrev pub invariant-loop-f : goal.invariant-loop-f
invariant-loop-f l =
    let n = cell_count l.info in
    record {
      within : IfSome l.found.end (λ place. place ≤ length l.list);
      runs : (arrows : List (List ℕ)) → HasArrows l.info arrows → (all : Option Run)
          → BlockRuns (board_of l.info arrows) l.list n (arrowed_of l.blocks.arrowed (drop l.f-index l.f-items)) l.found all
          → BlockRuns (board_of l.info arrows) l.list n (arrowed_of l.blocks.arrowed l.f-items) l.initial.found all;
    }
