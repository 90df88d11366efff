-- `reach::BlockReach::mark_near_floats` meets its contract: the floating groups that touch a neighbour of f among the cells passed are marked.
-- Assumes nothing.
use mathlib.Core.Path.{refl, ap}
use Rattle.grid.proofs.MarkLaws.{Marks-none}
use Rattle.reach.specs.declared.BlockReach.{BlockReach}
use Rattle.reach.proofs.Counting.{among_near_none, among_near_more}
use Rattle.reach.proofs.BlockReach.mark_near_floats.Goals as goal

pub loop-i-init : goal.loop-i-init
loop-i-init c = (rw c.requires.fresh (among_near_none _ _ _ _ Marks-none), refl)

pub loop-i-preserved : goal.loop-i-preserved
loop-i-preserved c = (
  among_near_more _ _ _ _ _ (c.mark_floats_beside.ensures _ c.loop-i.invariant.0),
  ap (λ (r : BlockReach). record r { near = c.mark_floats_beside.new.near }) c.loop-i.invariant.1,
)
