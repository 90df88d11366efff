-- What holds at each turn of the loop of `groups::spread`.
-- Assumes nothing.
use Prim.Native.Nat.{ℕ}
use mathlib.Core.Bool.{Bool}
use Rattle.grid.specs.Side.{sized}
use Rattle.groups.proofs.FloodLaws.{Offers}
use Rattle.groups.proofs.spread.Given as goal

abbrev pub invariant-loop-k : goal.invariant-loop-k
invariant-loop-k l =
    (p : ℕ → Bool) → Offers (sized l.grid.height l.grid.width) p l.s l.i l.k l.initial.labels l.initial.stack l.initial.waiting l.labels l.stack l.waiting
