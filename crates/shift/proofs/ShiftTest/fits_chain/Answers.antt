-- `shift::ShiftTest::fits_chain` meets its contract: no shift to a cell of the chain that was passed fits.
-- Assumes nothing.
use mathlib.Core.Path.{refl, sym, ap, ◌∙◌}
use mathlib.Core.List.{[], ◌∷◌, ◌++◌}
use Rattle.grid.specs.Lists.{any}
use Rattle.grid.proofs.ListLaws.{mem-any}
use Rattle.grid.proofs.AppendLaws.{none_more}
use Rattle.reach.proofs.ChainWalks.{Walk-start, walk_in, walk_mem, Walk-more, walk_less, walk_end}
use Rattle.shift.specs.Test.{fits_at, group}
use Rattle.shift.proofs.ShiftTest.fits_chain.Goals as goal

pub loop-t-init : goal.loop-t-init
loop-t-init c = rw (c.from-t.ensures, c.from.ensures) (record { passed = []; walk = Walk-start c.args.self.now.block.linked.chains c.args.m c.requires.name; none = refl })

pub fits_at-requires : goal.fits_at-requires
fits_at-requires c = record { cell = walk_in c.args.self.now.block.linked.chains c.args.m c.requires.name c.loop-t.invariant.walk (rw c.from-in-loop-t.ensures at c.loop-t-test.true) }

pub returns-then-fits_at : goal.returns-then-fits_at
returns-then-fits_at c =
    let s = c.args.self.now in
    sym (mem-any (fits_at s) (group s c.args.m) (walk_mem s.block.linked.chains c.args.m c.requires.name c.loop-t.invariant.walk (rw c.from-in-loop-t.ensures at c.loop-t-test.true))
    (sym c.fits_at.ensures ∙ c.if-fits_at.true))

pub loop-t-smaller : goal.loop-t-smaller
loop-t-smaller c = rw c.from-t-in-loop-t.ensures (walk_less c.args.self.now.block.linked.chains c.args.m c.requires.name c.loop-t.invariant.walk (rw c.from-in-loop-t.ensures at c.loop-t-test.true))

pub loop-t-preserved : goal.loop-t-preserved
loop-t-preserved c =
    let s = c.args.self.now in
    let W = c.loop-t.invariant in
    record {
      passed = W.passed ++ (c.loop-t.t ∷ []);
      walk = rw c.from-t-in-loop-t.ensures (Walk-more s.block.linked.chains c.args.m c.requires.name W.walk (rw c.from-in-loop-t.ensures at c.loop-t-test.true));
      none = none_more (fits_at s) W.passed c.loop-t.t W.none (sym c.fits_at.ensures ∙ c.if-fits_at.false);
    }

pub returns : goal.returns
returns c =
    let s = c.args.self.now in
    sym (ap (any (fits_at s)) (sym (walk_end s.block.linked.chains c.args.m c.requires.name c.loop-t.invariant.walk (rw c.from-in-loop-t.ensures at c.loop-t-test.false))) ∙ c.loop-t.invariant.none)
