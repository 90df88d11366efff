-- `growth::reason_for_arrow_block` meets its contract: the cells of the block that were passed are written.
-- Assumes nothing.
use Rattle.std.proofs.Common.{rules}
use mathlib.Core.Path.{◌≡◌, refl, sym, ◌∙◌}
use native.Mathlib.Omega.{arith}
use Rattle.literals.proofs.HeldLaws.{holds_back}
use Rattle.literals.proofs.Pass.{cells_none, cells_count, cells_room, cells_on, cells_over}
use Rattle.kinds.proofs.BlockArrays.{block_by}
use Rattle.growth.proofs.reason_for_arrow_block.Goals as goal
use Rattle.growth.proofs.reason_for_arrow_block.Goals.{then-in_block, else-in_block}

pub loop-i-init : goal.loop-i-init
loop-i-init c = cells_none _ 1 refl refl

pub push-requires : goal.push-requires
push-requires c = cells_room _ 1 c.loop-i.i c.loop-i.invariant (omega arith)

pub loop-i-preserved : goal.loop-i-preserved
loop-i-preserved c = elim c.if-in_block.branch [
  | then-in_block w ↦ rw w.squares-is (cells_on _ 1 c.loop-i.i (w.push.ensures.written _ _ c.loop-i.invariant) (sym c.in_block.ensures ∙ w.if-in_block.true))
  | else-in_block w ↦ rw w.squares-is (cells_over _ 1 c.loop-i.i c.loop-i.invariant (sym c.in_block.ensures ∙ w.if-in_block.false))
]

pub returns-clause-wrote : goal.returns-clause-wrote
returns-clause-wrote c =
    let e : c.loop-i.i ≡ c.args.n = omega arith in
    λ v k z. holds_back (rw (block_by v c.args.f c.args.kinds.now c.args.owners.now c.loop-i.i k (e ∙ z)) at c.loop-i.invariant) (λ q. search rules)

pub returns-clause-few : goal.returns-clause-few
returns-clause-few c = omega (arith, cells_count _ 1 c.loop-i.i c.loop-i.invariant)
