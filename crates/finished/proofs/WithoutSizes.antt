-- A leaf without sizes is finished as before: `finished` says of a board what the test says of the leaf in its edition, and that asks for the first two
-- block rules.
-- Assumes nothing.
use Prim.Native.Nat.{ℕ, ◌<◌}
use mathlib.Core.Logic.{◌↔◌}
use mathlib.Core.Path.{◌≡◌, refl}
use mathlib.Core.Bool.{true}
use mathlib.Core.List.{List, [], Memᴰ}
use Rattle.grid.specs.Grid.{size}
use Rattle.grid.specs.Cells.{square}
use Rattle.record.specs.Record.{Puzzle, ok, read_record}
use Rattle.record.specs.Leaf.{Leaf, leaf_of, in_edition, is_edition}
use Rattle.record.proofs.LeafLaws.{leaf_valid, plain_leaf}
use Rattle.board.specs.Board.{Call, Full, cells_after}
use Rattle.board.specs.Calls.{standing, hints_after}
use Rattle.board.proofs.Standing.{calls_Standing}
use Rattle.board.proofs.BoardForm.{board_leaf}
use Rattle.board.proofs.CallLaws.{Standing-well, opened_left, after_low}
use Rattle.groups.specs.Rules.{SameBlock, OneArrowCell, Grown, Next}
use Rattle.reasons.specs.Demand3.{board_after}
use Rattle.reasons.proofs.Demand3.{cells_on_lem}
use Rattle.reasons.proofs.WithoutSizes.{rules_without}
use Rattle.finished.specs.Finished.{KeepsGiven, TwoSquares, Finished, finished_test}
use Rattle.finished.specs.Verdicts.{verdict, finished_of}

-- every cell is decided, black and given cells are kept, each block has exactly one arrow cell, later blocks are earlier ones, grown, and two squares or
-- more stand on every arrow
pub means_without : (e : ℕ) (p : Puzzle) (cells : List ℕ)
    → Finished (in_edition e p) cells
    ↔ (Full p.grid cells × KeepsGiven p cells
    × ((i : ℕ) → i < size p.grid → square cells i ≡ true → OneArrowCell p cells i)
    × ((i j : ℕ) → Next p cells i j → Grown e p.grid (SameBlock p.grid cells i) (SameBlock p.grid cells j))
    × ((a : List ℕ) → Memᴰ a p.arrows → TwoSquares cells a))
means_without e p cells =
    let w = rules_without e p cells in (
      λ f. let r = w.0 f.rules in (f.decided, f.kept, r.0, r.1, f.two),
      λ (d, k, one, grown, two). record { decided = d; kept = k; rules = w.1 (one, grown); two = two },
    )

-- what is said of a board after any list of calls, with sizes or without
pub finished_after : (s : List ℕ) (e : ℕ) (ns : List ℕ) (l : Leaf) → leaf_of s e ns ≡ ok l → (cs : List Call)
    → finished_of (board_after s e ns cs) ≡ verdict (finished_test l (cells_after l.puzzle.grid (standing l.puzzle cs)))
unfolding finished_of
finished_after s e ns l k cs =
    let v = leaf_valid s e ns k in
    let t = calls_Standing l.puzzle.grid cs in
    let counts = hints_after l.puzzle cs in
    rw (opened_left s e ns l k cs, Standing-well l v (after_low l.puzzle cs) t, cells_on_lem l v counts t, board_leaf l v (standing l.puzzle cs) counts) refl

-- so of one that was opened without sizes
pub finished_without : (s : List ℕ) (e : ℕ) (p : Puzzle) → read_record s ≡ ok p → is_edition e ≡ true → (cs : List Call)
    → finished_of (board_after s e [] cs) ≡ verdict (finished_test (in_edition e p) (cells_after p.grid (standing p cs)))
finished_without s e p r h cs = finished_after s e [] (in_edition e p) (plain_leaf s e p r h) cs
