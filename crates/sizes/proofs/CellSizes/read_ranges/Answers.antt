-- `sizes::CellSizes::read_ranges` meets its contract: what is left of the numbers makes of the ranges so far what the whole makes.
-- Assumes nothing.
use Prim.Native.Nat.{◌+◌, ◌*◌, ◌<◌}
use native.Mathlib.Omega.{arith}
use mathlib.Core.Path.{◌≡◌, sym, ◌∙◌}
use lib.ListN.{length}
use Rattle.groups.specs.Arrays.{marked}
use Rattle.record.specs.Leaf.{range_at, ranges_from}
use Rattle.fields.proofs.OutcomeLaws.{agrees_fault, unless-ok}
use Rattle.sizes.proofs.ReadLaws.{Amid-start, Amid-more, amid_refused, amid_end, test_low, next_passed, next_refused, cut_refused, none_left, ranges_are, ranges_refused}
use Rattle.sizes.proofs.CellSizes.read_ranges.Goals as goal

pub returns-in_err-count : goal.returns-in_err-count
returns-in_err-count g c = agrees_fault _ _ _ c.from_residual.ensures.1 (ranges_refused (marked c.args.marks.now) c.in_err-count.ensures)

pub loop-k-init : goal.loop-k-init
loop-k-init g c =
    let n = c.in_ok-count.ensures in
    (n.0, n.1, sym n.2, Amid-start (ranges_from (marked c.args.marks.now) 0 n.0) c.none-sizes.ensures)

pub returns-in_err-take_range : goal.returns-in_err-take_range
returns-in_err-take_range g c =
    let v = c.loop-k.invariant in
    let h : 3 * c.loop-k.k + 2 < length v.0 = omega (arith, v.2, c.loop-k-test.true) in
    let rest = next_refused v.0 (3 * c.loop-k.k) c.from.result c.number-in-loop-k.result c.number-in-loop-k-2.result h
    (c.from.ensures ∙ rw v.1 at c.number.ensures) (rw v.1 at c.number-in-loop-k.ensures) (rw v.1 at c.number-in-loop-k-2.ensures) (marked c.args.marks.now) c.loop-k.from c.in_err-take_range.ensures in
    agrees_fault _ _ _ c.from_residual-in_err-take_range.ensures.1 (ranges_are (marked c.args.marks.now) v.1 ∙ amid_refused v.3 rest)

pub loop-k-preserved : goal.loop-k-preserved
loop-k-preserved g c =
    let v = c.loop-k.invariant in
    let t = c.in_ok-take_range.ensures in
    let h : 3 * c.loop-k.k + 2 < length v.0 = omega (arith, v.2, c.loop-k-test.true) in
    let q : 3 * (c.loop-k.k + 1) ≡ 3 * c.loop-k.k + 3 = omega arith in
    let rest = next_passed v.0 (3 * c.loop-k.k) c.from.result c.number-in-loop-k.result c.number-in-loop-k-2.result h
    (c.from.ensures ∙ rw v.1 at c.number.ensures) (rw v.1 at c.number-in-loop-k.ensures) (rw v.1 at c.number-in-loop-k-2.ensures) (marked c.args.marks.now) c.loop-k.from t.1 in
    let low = test_low c.args.marks.now c.loop-k.from c.from.result c.number-in-loop-k.result c.number-in-loop-k-2.result (unless-ok _ 22 t.1) in
    (v.0, v.1, v.2, rw (q, t.2.0, t.2.1) (Amid-more v.3 (range_at c.from.result c.number-in-loop-k.result c.number-in-loop-k-2.result) _ rest (omega (arith, low.0, c.told-marks)) low.1))

pub returns-then-count-ne0 : goal.returns-then-count-ne0
returns-then-count-ne0 g c =
    let v = c.loop-k.invariant in
    let h : 3 * c.loop-k.k < length v.0 = omega (arith, v.2, c.loop-k.auto.k-end, c.loop-k-test.false, c.if-count-ne0.true) in
    ranges_are (marked c.args.marks.now) v.1 ∙ amid_refused v.3 (cut_refused (marked c.args.marks.now) c.loop-k.from v.0 (3 * c.loop-k.k) h (omega (arith, v.2, c.loop-k.auto.k-end, c.loop-k-test.false)))

pub returns : goal.returns
returns g c =
    let v = c.loop-k.invariant in
    let e = amid_end v.3 (none_left (marked c.args.marks.now) c.loop-k.from v.0 (3 * c.loop-k.k) (omega (arith, v.2, c.loop-k.auto.k-end, c.loop-k-test.false, c.if-count-ne0.false))) in
    (e.0, ranges_are (marked c.args.marks.now) v.1 ∙ e.1, (e.2, e.3))
