-- What holds at each turn of the loop of `kinds::name_floating_groups`.
-- Assumes nothing.
use Prim.Native.Nat.{ℕ}
use mathlib.Core.Bool.{Bool}
use Rattle.grid.specs.Side.{sized}
use Rattle.groups.specs.Flood.{Unlabelled, Sofar}
use Rattle.kinds.proofs.name_floating_groups.Given as goal

abbrev pub invariant-loop-i : goal.invariant-loop-i
invariant-loop-i l = (p : ℕ → Bool) → Unlabelled p l.initial.owners → Sofar (sized l.grid.height l.grid.width) p l.initial.owners l.i l.owners
