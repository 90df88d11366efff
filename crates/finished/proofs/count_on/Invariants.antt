-- What holds at each turn of the loop of `finished::count_on`.
-- Assumes nothing.
use Prim.Native.Nat.{ℕ, ◌+◌, ◌≤◌}
use mathlib.Core.Path.{◌≡◌}
use mathlib.Core.Bool.{Bool}
use lib.ListN.{length}
use Rattle.grid.proofs.ArrowSquares.{ahead}
use Rattle.finished.specs.Counting.{Tells}
use Rattle.finished.proofs.count_on.Given as goal

abbrev pub invariant-loop-cell : goal.invariant-loop-cell
invariant-loop-cell g l =
    ((test : ℕ → Bool) → Tells (goal.F-post g l.counts) test → l.count + ahead test l.arrow (length l.arrow) l.cell-index ≡ ahead test l.arrow (length l.arrow) 0)
    × (l.count ≤ l.cell-index)
