-- `writer::BitWriter::write_arrows` meets its contract.
-- Assumes nothing.
use Prim.Native.Nat.{ℕ, ◌<◌}
use native.Mathlib.Omega.{arith}
use mathlib.Core.Path.{◌≡◌, refl}
use lib.ListN.{length, get_or}
use Rattle.std.proofs.Common.{rules}
use Rattle.grid.specs.Side.{sized}
use Rattle.record.specs.declared.Problem.{Problem}
use Rattle.record.specs.Lines.{start_at, Lines}
use Rattle.record.proofs.LinesLaws.{start_first, start_next}
use Rattle.writer.proofs.LineLaws.{start_last, Cut, cut}
use Rattle.writer.proofs.AppendLaws.{Appends-is, arrows_none, arrows_more, arrows_all}
use Rattle.writer.proofs.BitWriter.write_arrows.Goals as goal

-- arrow k in the line
part : (q : Problem) → Lines q.height q.width q.arrows q.ends q.count → length q.arrows ≡ 1024 → (k : ℕ) → k < q.count
    → Cut q.height q.width q.arrows (start_at q.ends k) (get_or q.ends k 0) (start_at q.ends q.count)
part q lines long k h = cut lines k (start_at q.ends k) (get_or q.ends k 0) h refl refl (omega arith)

pub loop-k-init : goal.loop-k-init
loop-k-init c = let q = c.args.problem.now in rw (start_first q.ends) (arrows_none (sized q.height q.width) q.arrows q.ends c.args.self.now)

pub write_arrow-requires : goal.write_arrow-requires
write_arrow-requires c =
    let q = c.args.problem.now in
    let k = c.loop-k.k in
    let a = part q c.requires.0 (search rules) k c.loop-k-test.true in
    let e = start_last q.ends q.count (omega (arith, c.requires.0.few)) in
    rw (c.grid-grid.ensures.height, c.grid-grid.ensures.width, c.arrow.ensures)
    (a.arrow, (omega (arith, a.rise, a.below, a.long, e, c.loop-k.invariant.place, c.loop-k.invariant.long), omega (arith, a.rise, a.below, a.long, e, c.loop-k.invariant.place)))

pub loop-k-preserved : goal.loop-k-preserved
loop-k-preserved c =
    let q = c.args.problem.now in
    let k = c.loop-k.k in
    let a = part q c.requires.0 (search rules) k c.loop-k-test.true in
    let wrote = rw (c.grid-grid.ensures.height, c.grid-grid.ensures.width, c.arrow.ensures) at c.write_arrow.ensures in
    let next = start_next q.ends k in
    Appends-is (omega (arith, a.rise, a.long, next)) refl (arrows_more (sized q.height q.width) q.arrows q.ends k (start_at q.ends k) (get_or q.ends k 0) (omega (arith, c.requires.0.few)) refl refl c.loop-k.invariant wrote)

pub returns : goal.returns
returns c =
    let q = c.args.problem.now in
    arrows_all q c.loop-k.k (start_at q.ends c.loop-k.k) (omega (arith, c.loop-k.auto.k-end, c.loop-k-test.false)) (omega (arith, c.requires.0.few, c.loop-k.auto.k-end)) refl c.loop-k.invariant
