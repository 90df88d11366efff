-- `pairs::search_arrow` meets its contract: the pairs before `last` give no reason, so that the first from there on is the first of all.
-- Assumes nothing.
use native.Mathlib.Omega.{arith}
use mathlib.Core.Path.{refl, ◌∙◌}
use Prim.Native.Nat.{◌+◌}
use Rattle.grid.proofs.SliceLaws.{slice_taken}
use Rattle.literals.proofs.Findings.{found_same, found_none, nothing_found}
use Rattle.growth.proofs.PairNames.{Stretch-part, squares_part}
use Rattle.pairs.proofs.PairSearch.{search_start, search_done, search_more, search_found, search_end}
use Rattle.pairs.proofs.search_arrow.Goals as goal

pub returns-in_err-last : goal.returns-in_err-last
returns-in_err-last g c =
    let finds = g.R.PairReason.finds c.args.by.now in
    λ lines k. rw (c.from_residual.ensures, search_start finds k c.in_err-last.ensures ∙ search_done finds k _ (omega arith)) (found_none c.args.buffer.now)

pub loop-cur-init : goal.loop-cur-init
loop-cur-init g c =
    let finds = g.R.PairReason.finds c.args.by.now in
    let next = c.in_ok-last.ensures in
    record { within = next.0; first = next.1.some next.0; same = refl; passed = λ lines k. search_start finds k next.1 }

pub check-requires-clause-squares : goal.check-requires-clause-squares
check-requires-clause-squares g c =
    let i = c.loop-cur.invariant in
    let next = c.in-Some.ensures in
    rw (slice_taken c.args.arrow.now c.loop-cur.last (c.in-Some.cur + 1)) (squares_part c.requires.line c.loop-cur.last c.in-Some.cur next.1.low next.0 i.first (next.1.some next.0))

pub returns-in-Some-check : goal.returns-in-Some-check
returns-in-Some-check g c =
    let finds = g.R.PairReason.finds c.args.by.now in
    let i = c.loop-cur.invariant in
    let next = c.in-Some.ensures in
    let part = slice_taken c.args.arrow.now c.loop-cur.last (c.in-Some.cur + 1) in
    λ lines k. rw (i.passed lines k)
    (found_same i.same (search_found finds k c.loop-cur.last i.within i.first next.1 next.0 part (c.in-Some-check.ensures lines (rw part (Stretch-part k c.loop-cur.last (c.in-Some.cur + 1))))))

pub loop-cur-preserved : goal.loop-cur-preserved
loop-cur-preserved g c =
    let finds = g.R.PairReason.finds c.args.by.now in
    let i = c.loop-cur.invariant in
    let next = c.in-Some.ensures in
    let line = c.requires.line in
    let part = slice_taken c.args.arrow.now c.loop-cur.last (c.in-Some.cur + 1) in
    record {
      within = next.0;
      first = next.1.some next.0;
      same = (nothing_found _ (c.in_default-check.ensures line.lines (rw part (Stretch-part line.stretch c.loop-cur.last (c.in-Some.cur + 1))))).1 ∙ i.same;
      passed = λ lines k. i.passed lines k ∙ search_more finds k c.loop-cur.last i.within i.first next.1 next.0 part (c.in_default-check.ensures lines (rw part (Stretch-part k c.loop-cur.last (c.in-Some.cur + 1))));
    }

pub returns : goal.returns
returns g c =
    let finds = g.R.PairReason.finds c.args.by.now in
    let i = c.loop-cur.invariant in
    λ lines k. rw (i.passed lines k ∙ search_end finds k c.loop-cur.last i.within i.first c.in_default.ensures refl, i.same) (found_none c.args.buffer.now)
