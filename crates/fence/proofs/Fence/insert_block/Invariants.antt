-- What holds at each turn of the loop of `fence::Fence::insert_block`.
-- Assumes nothing.
use Prim.Native.Nat.{ℕ}
use mathlib.Core.Bool.{Bool, ◌||◌}
use mathlib.Core.List.{List}
use Rattle.std.specs.Borrow.{MutBor}
use Rattle.fence.specs.Part.{Filled}
use Rattle.fence.proofs.Fences.{up_to}
use Rattle.fence.proofs.Fence.insert_block.Given as goal

abbrev pub invariant-loop-i : goal.invariant-loop-i
invariant-loop-i l = (lent : MutBor (List ℕ)) (t : ℕ → Bool) → Filled l.info lent t l.initial.self → Filled l.info lent (λ x. t x || up_to l.info.kinds.now l.info.owners.now l.e l.i x) l.self
