-- `reach::mark_floats_beside` meets its contract: the floating groups of the neighbours in the directions passed are marked.
-- Assumes nothing.
use native.Mathlib.Omega.{arith}
use borrow.Author.Tests.{ne_eqb}
use Rattle.grid.specs.Side.{sized}
use Rattle.grid.proofs.SideLaws.{cell_of}
use Rattle.grid.proofs.AroundLaws.{side_at, side_off, sides_none, sides_all}
use Rattle.reach.proofs.Counting.{near_off, near_none, near_more, near_all}
use Rattle.reach.proofs.mark_floats_beside.Goals as goal
use Rattle.reach.proofs.mark_floats_beside.Invariants.{Near}
use Rattle.reach.proofs.mark_floats_beside.Goals.{in-Some, in_default}

pub returns-then-info-i-ne-ARROW_BLOCK_NEIGHBOR : goal.returns-then-info-i-ne-ARROW_BLOCK_NEIGHBOR
returns-then-info-i-ne-ARROW_BLOCK_NEIGHBOR c = λ t q. near_off c.args.info.now.kinds.now c.args.info.now.owners.now c.args.f t c.args.i _ (rw (ne_eqb _ 2 c.if-info-i-ne-ARROW_BLOCK_NEIGHBOR.true)) q

pub returns-then-info-i : goal.returns-then-info-i
returns-then-info-i c = λ t q. near_off c.args.info.now.kinds.now c.args.info.now.owners.now c.args.f t c.args.i _ (rw (c.if-info-i-ne-ARROW_BLOCK_NEIGHBOR.false, ne_eqb _ _ c.if-info-i.true)) q

pub loop-k-init : goal.loop-k-init
loop-k-init c = λ t. sides_none (Near c.args.info.now.kinds.now c.args.info.now.owners.now c.args.near.now c.args.near.now t) _ _ (λ q. near_none c.args.info.now.kinds.now c.args.info.now.owners.now c.args.f t q)

pub loop-k-preserved : goal.loop-k-preserved
loop-k-preserved c = λ t. elim c.match-toward.branch [
  | in-Some v ↦ side_at (cell_of c.args.info.now.grid c.args.i c.requires.cell) c.loop-k.k c.toward.result c.toward.ensures.neighbour (Near c.args.info.now.kinds.now c.args.info.now.owners.now c.args.near.now c.match-toward.near t) _ v.in-Some.is
      (λ q. rw v.near-is (near_more c.args.info.now.kinds.now c.args.info.now.owners.now c.args.f t _ _ (v.mark_owner.ensures _ (c.loop-k.invariant t q))))
  | in_default v ↦ side_off (cell_of c.args.info.now.grid c.args.i c.requires.cell) c.loop-k.k c.toward.result c.toward.ensures.neighbour (Near c.args.info.now.kinds.now c.args.info.now.owners.now c.args.near.now c.match-toward.near t) v.in_default.is
      (λ q. rw v.near-is (c.loop-k.invariant t q))
]

pub returns : goal.returns
returns c = λ t q. near_all c.args.info.now.kinds.now c.args.info.now.owners.now c.args.f t c.args.i _ c.if-info-i-ne-ARROW_BLOCK_NEIGHBOR.false c.if-info-i.false
    (sides_all (Near c.args.info.now.kinds.now c.args.info.now.owners.now c.args.near.now c.loop-k.near t) (sized c.args.info.now.grid.height c.args.info.now.grid.width) c.args.i c.loop-k.k (omega (arith, c.loop-k.auto.k-end)) c.loop-k-test.false (c.loop-k.invariant t) q)
