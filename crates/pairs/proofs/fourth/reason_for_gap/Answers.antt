-- `pairs::fourth::reason_for_gap` meets its contract: the empty cells among those passed are written.
-- Assumes nothing.
use Rattle.std.proofs.Common.{rules, tests}
use mathlib.Core.Path.{refl}
use native.Mathlib.Omega.{arith}
use lib.ListN.{get_or, take, length-take}
use lib.Seq.{take_all}
use Rattle.std.proofs.lemmas.List.{take_more}
use Rattle.grid.specs.Cells.{empty}
use Rattle.literals.proofs.HeldLaws.{holds_back}
use Rattle.literals.proofs.Pass.{pass_none, pass_room, pass_on, pass_over}
use Rattle.pairs.proofs.fourth.reason_for_gap.Goals as goal
use Rattle.pairs.proofs.fourth.reason_for_gap.Goals.{then-cells-from-eq-EMPTY, else-cells-from-eq-EMPTY}

pub loop-index-init : goal.loop-index-init
loop-index-init c = pass_none (empty c.args.cells.now) 0 refl refl

pub loop-index-preserved : goal.loop-index-preserved
unfolding empty
loop-index-preserved c =
    let gap = c.args.gap.now in
    let k = c.loop-index.index-index in
    rw (take_more gap k 0 c.loop-index-test.true) (elim c.if-cells-from-eq-EMPTY.branch [
      | then-cells-from-eq-EMPTY w ↦ rw w.literals-is (pass_on _ 0 (take k gap) (get_or gap k 0) (w.push.ensures.written _ _ c.loop-index.invariant) (search (rules, tests)))
      | else-cells-from-eq-EMPTY w ↦ rw w.literals-is (pass_over _ 0 (take k gap) (get_or gap k 0) c.loop-index.invariant (search (rules, tests)))
    ])

pub push-requires : goal.push-requires
push-requires c =
    let gap = c.args.gap.now in
    pass_room _ 0 (take c.loop-index.index-index gap) c.loop-index.invariant (omega (arith, length-take c.loop-index.index-index gap))

pub returns : goal.returns
returns c = holds_back (rw (take_all c.loop-index.index-index c.args.gap.now (omega arith)) at c.loop-index.invariant) (λ q. search rules)
