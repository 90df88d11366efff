-- `record::Line::read_arrows` meets its contract: the first i arrows are read, and what is left makes of them what the whole makes.
-- Assumes nothing.
use Prim.Native.Nat.{◌≤◌}
use native.Mathlib.Omega.{arith}
use mathlib.Core.Path.{ap}
use lib.ListN.{length}
use Rattle.grid.specs.Side.{sized}
use Rattle.fields.proofs.OutcomeLaws.{agrees_fault}
use Rattle.record.proofs.ArrowsLaws.{arrows_start, arrows_fault, arrows_room, arrows_filled, arrows_unfilled}
use Rattle.record.proofs.Line.read_arrows.Goals as goal

pub loop-i-init : goal.loop-i-init
loop-i-init c =
    let e = c.requires.2 in (omega (arith, ap length e), arrows_start c.args.bits.now (sized c.args.grid.height c.args.grid.width) c.args.arrows c.args.self.now c.args.ends.now e c.requires.3)

pub returns-in_err-read_arrow : goal.returns-in_err-read_arrow
returns-in_err-read_arrow c = agrees_fault _ _ _ c.from_residual.ensures.1 (arrows_fault _ _ c.args.arrows c.loop-i.invariant.1 c.args.extent c.loop-i-test.true c.in_err-read_arrow.ensures)

pub bounds-ends-i : goal.bounds-ends-i
bounds-ends-i c =
    let a = c.in_ok-read_arrow.ensures in
    let n : length c.read_arrow.new.self ≤ 1024 = omega (arith, c.len.ensures.0, c.len.ensures.1) in
    arrows_room _ _ c.args.arrows c.loop-i.invariant.1 a.1 a.2.0 n

pub returns-then-may_end : goal.returns-then-may_end
returns-then-may_end c = arrows_filled _ _ c.args.arrows (omega (arith, c.loop-i.auto.i-end, c.loop-i-test.false)) c.loop-i.invariant.1 c.args.extent c.if-may_end.ensures

pub returns : goal.returns
returns c = arrows_unfilled _ _ c.args.arrows (omega (arith, c.loop-i.auto.i-end, c.loop-i-test.false)) c.loop-i.invariant.1 c.args.extent c.if-may_end.ensures
