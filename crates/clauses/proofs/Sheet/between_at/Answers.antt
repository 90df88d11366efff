-- `clauses::Sheet::between_at` meets its contract.
-- Assumes nothing.
use Prim.Native.Nat.{◌<◌}
use native.Mathlib.Omega.{arith}
use mathlib.Core.Path.{◌≡◌, ◌∙◌}
use lib.ListN.{length, get_or}
use Rattle.std.proofs.lemmas.List.{length-take, get_or-take}
use Rattle.grid.specs.Side.{sized}
use Rattle.clauses.specs.Clauses.{between}
use Rattle.clauses.proofs.PieceLaws.{between_bytes}
use Rattle.clauses.proofs.PushLaws.{push_as, push_same, push_no_clause, push_more, push_first_one, push_one_more}
use Rattle.clauses.proofs.NearLaws.{between_on, between_off}
use Rattle.clauses.proofs.Sheet.between_at.Goals as goal

pub returns-then-marks-i-eq-ON_ARROW : goal.returns-then-marks-i-eq-ON_ARROW
returns-then-marks-i-eq-ON_ARROW c =
    push_same (between_on c.args.marks.now (sized c.args.grid.height c.args.grid.width) c.args.i c.if-marks-i-eq-ON_ARROW.true) (push_no_clause c.args.self.now)

pub loop-before-init : goal.loop-before-init
loop-before-init c = push_first_one _ c.loop-a.self

pub loop-before-preserved : goal.loop-before-preserved
loop-before-preserved c =
    let l = c.as_slice-cells.result.now in
    let a = c.loop-a.a in
    let b = c.loop-before.before-index in
    let h : b < a = omega (arith, c.loop-before-test.true, length-take a l) in
    push_one_more (between c.args.i l a) b c.loop-before.invariant (push_as (between_bytes (get_or l a 0) c.args.i (get_or l b 0)) (rw (get_or-take a l b 0 h) at c.put.ensures))

pub loop-a-preserved : goal.loop-a-preserved
loop-a-preserved c =
    let e : c.loop-before.before-index ≡ c.loop-a.a = omega (arith, c.loop-before.auto.before-index-end, c.loop-before-test.false, length-take c.loop-a.a c.as_slice-cells.result.now, c.loop-a-test.true) in
    push_more _ c.loop-a.a c.loop-a.invariant (rw e at c.loop-before.invariant)

pub returns : goal.returns
returns c =
    let g = c.args.grid in
    let e : c.loop-a.a ≡ length c.as_slice-cells.result.now = omega (arith, c.loop-a.auto.a-end, c.loop-a-test.false) in
    push_same (between_off c.args.marks.now (sized g.height g.width) c.args.i c.if-marks-i-eq-ON_ARROW.false (c.as_slice-cells.ensures.value ∙ c.gather-near.ensures))
    (rw e at c.loop-a.invariant)
