-- `sized::check_sizes` meets its contract: the cells passed give no reason, so that the first from there on is the first of all.
-- Assumes nothing.
use mathlib.Core.Path.{◌∙◌}
use lib.ListN.{length}
use Rattle.growth.specs.Pairs.{view_on}
use Rattle.literals.proofs.Findings.{found_same, found_none, nothing_found}
use Rattle.sized.proofs.SizeLaws.{ahead_all, ahead_end, ahead_more, ahead_found}
use Rattle.sized.proofs.check_sizes.Goals as goal

pub loop-i-preserved : goal.loop-i-preserved
loop-i-preserved c =
    let board = c.requires.board in
    let i = c.loop-i.invariant in
    record {
      same = (nothing_found _ (c.in_default.ensures board.lines board.board)).1 ∙ i.same;
      passed = λ lines k. i.passed lines k ∙ ahead_more _ c.args.sizes.now.lowest.now c.args.sizes.now.highest.now (length c.args.sizes.now.lowest.now) c.loop-i.i c.loop-i-test.true (c.in_default.ensures lines k);
    }

pub returns-in-Some : goal.returns-in-Some
returns-in-Some c =
    let n = length c.args.sizes.now.lowest.now in
    λ lines k.
    rw (ahead_all _ c.args.sizes.now.lowest.now c.args.sizes.now.highest.now n ∙ c.loop-i.invariant.passed lines k)
    (found_same c.loop-i.invariant.same (ahead_found _ c.args.sizes.now.lowest.now c.args.sizes.now.highest.now n c.loop-i.i c.loop-i-test.true (c.in-Some.ensures lines k)))

pub returns : goal.returns
returns c =
    let info = c.args.scene.now.linked.info in
    let n = length c.args.sizes.now.lowest.now in
    λ lines k.
    rw (
      ahead_all _ c.args.sizes.now.lowest.now c.args.sizes.now.highest.now n ∙ c.loop-i.invariant.passed lines k
          ∙ ahead_end (view_on info.grid.height info.grid.width lines info.cells.now) c.args.sizes.now.lowest.now c.args.sizes.now.highest.now n c.loop-i.i c.loop-i-test.false,
      c.loop-i.invariant.same,
    )
    (found_none c.args.buffer.now)
