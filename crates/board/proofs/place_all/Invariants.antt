-- What holds at each turn of the loop of `board::place_all`, and what falls from turn to turn.
-- Assumes nothing.
use Prim.Native.Nat.{ℕ}
use mathlib.Core.Path.{◌≡◌}
use mathlib.Core.Bool.{true}
use mathlib.Core.List.{List}
use lib.ListN.{length}
use Rattle.grid.specs.Grid.{size}
use Rattle.record.specs.Problem.{grid_of}
use Rattle.board.specs.declared.Board.{Board}
use Rattle.board.specs.Form.{well_formed}
use Rattle.board.specs.Decide.{with_decisions, placed_from}
use Rattle.board.proofs.place_all.Given as goal

-- with the bytes that are left, on any board of n cells that is well formed with the first arrays
pub record Amid (n decided : ℕ) (cells₀ order₀ bytes : List ℕ) (count : ℕ) (left cells order : List ℕ) (b : Board) : Type 0 where
  pub well : well_formed (with_decisions b cells order count) ≡ true
  pub same : placed_from (with_decisions b cells₀ order₀ decided) bytes ≡ placed_from (with_decisions b cells order count) left

abbrev pub invariant-loop-left : goal.invariant-loop-left
invariant-loop-left l =
    (b : Board) → size (grid_of b.problem) ≡ l.fn.n → well_formed (with_decisions b l.initial.cells l.initial.order l.initial.decided) ≡ true
    → Amid l.fn.n l.initial.decided l.initial.cells l.initial.order l.fn.bytes l.decided l.left l.cells l.order b

abbrev pub decreases-loop-left : goal.decreases-loop-left
decreases-loop-left l = length l.left
