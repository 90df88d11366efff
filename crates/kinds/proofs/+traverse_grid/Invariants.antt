-- What holds at each turn of the loop of `kinds::traverse_grid`, and what falls from turn to turn, and from call to call.
-- Assumes nothing.
use mathlib.Core.Bool.{Bool, So}
use Prim.Native.Nat.{ℕ}
use Rattle.grid.specs.Side.{sized}
use Rattle.groups.specs.Flood.{free, Only}
use Rattle.kinds.proofs.Traversal.{Turn}
use Rattle.grid.proofs.AroundLaws.{gathered}
use Rattle.kinds.proofs.+traverse_grid.Given as goal

abbrev pub decreases-traverse_grid : goal.decreases-traverse_grid
decreases-traverse_grid l = free l.owners.now

abbrev pub invariant-loop-k : goal.invariant-loop-k
invariant-loop-k l =
    (p : ℕ → Bool) → So (p l.i) → Only p l.initial.owners → Turn (sized l.grid.height l.grid.width) p l.i l.name l.initial.owners l.owners (gathered (sized l.grid.height l.grid.width) l.i l.k)
