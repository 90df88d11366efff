-- What holds at each turn of the loop of `unique::check_steps`, and what falls from turn to turn.
-- Assumes nothing.
use Prim.Native.Nat.{◌-◌}
use Rattle.sizes.specs.LeafOf.{leaf_of}
use Rattle.unique.specs.Unique.{steps_of}
use Rattle.unique.proofs.StepLaws.{Comes}
use Rattle.unique.proofs.check_steps.Given as goal

abbrev pub invariant-loop-at : goal.invariant-loop-at
invariant-loop-at l = Comes (leaf_of l.leaf) l.certificate l.at (steps_of (leaf_of l.leaf) l.certificate)

abbrev pub decreases-loop-at : goal.decreases-loop-at
decreases-loop-at l = l.count - l.at
