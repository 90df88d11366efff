-- `reach::BlockReach::mark_reach` meets its contract: the cells passed are marked and counted.
-- Assumes nothing.
use Prim.Native.Nat.{◌<◌}
use mathlib.Core.Path.{refl, sym, ◌∙◌}
use native.Mathlib.Omega.{arith}
use Rattle.reach.specs.Inside.{hit, miss}
use Rattle.reach.proofs.Counting.{Reached-none, Reached-more, Reached-few}
use Rattle.reach.proofs.BlockReach.mark_reach.Goals as goal
use Rattle.reach.proofs.BlockReach.mark_reach.Goals.{then-in_reach, else-in_reach}

pub loop-i-init : goal.loop-i-init
loop-i-init c = (rw (c.requires.fresh.0, c.requires.fresh.1) (Reached-none _ _ _ _), refl)

pub overflow_add-self : goal.overflow_add-self
overflow_add-self c = omega (arith, c.size-i-end.ensures.small, c.loop-i-test.true, Reached-few _ _ _ _ c.loop-i.invariant.0)

pub loop-i-preserved : goal.loop-i-preserved
loop-i-preserved c =
    let small : c.loop-i.i < 1024 = omega (arith, c.size-i-end.ensures.small, c.loop-i-test.true) in
    elim c.if-in_reach.branch [
      | then-in_reach v ↦ rw v.self-is (Reached-more _ _ _ _ small (hit (sym c.in_reach.ensures ∙ v.if-in_reach.true) refl refl) c.loop-i.invariant.0, c.loop-i.invariant.1)
      | else-in_reach v ↦ rw v.self-is (Reached-more _ _ _ _ small (miss (sym c.in_reach.ensures ∙ v.if-in_reach.false) refl refl) c.loop-i.invariant.0, c.loop-i.invariant.1)
    ]
