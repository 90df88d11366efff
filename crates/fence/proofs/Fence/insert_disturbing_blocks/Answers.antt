-- `fence::Fence::insert_disturbing_blocks` meets its contract: the other arrow blocks of the neighbours in the directions passed are inserted.
-- Assumes nothing.
use native.Mathlib.Omega.{arith}
use Rattle.grid.specs.Side.{sized}
use Rattle.grid.proofs.SideLaws.{cell_of}
use Rattle.grid.proofs.AroundLaws.{side_at, side_off, sides_none, sides_all}
use Rattle.fence.proofs.Fences.{none_added, Whole-disturbing, disturbing_among_none, disturbing_among_more}
use Rattle.fence.proofs.Fence.insert_disturbing_blocks.Goals as goal
use Rattle.fence.proofs.Fence.insert_disturbing_blocks.Invariants.{Added}
use Rattle.fence.proofs.Fence.insert_disturbing_blocks.Goals.{in-Some, in_default}

pub loop-k-init : goal.loop-k-init
loop-k-init c =
    let a = c.args in
    let info = a.info.now in
    λ lent t whole. sides_none (Added info lent a.self.now a.f t a.self.now) _ _ (λ o. record { same = o.same; ordered = none_added t _ (disturbing_among_none info.kinds.now info.owners.now a.f) o.ordered })

pub insert_disturbing_block-requires-clause-room : goal.insert_disturbing_block-requires-clause-room
insert_disturbing_block-requires-clause-room c =
    let p = c.requires.room in
    let info = c.args.info.now in
    record {
      lent = p.lent;
      test = _;
      filled = c.loop-k.invariant p.lent p.test p.whole p.filled;
      whole = Whole-disturbing info.kinds.now info.owners.now c.args.f p.test _ p.whole;
    }

pub loop-k-preserved : goal.loop-k-preserved
loop-k-preserved c =
    let a = c.args in
    let info = a.info.now in
    λ lent t whole. elim c.match-toward.branch [
      | in-Some v ↦ side_at (cell_of info.grid a.i c.requires.cell) c.loop-k.k c.toward.result c.toward.ensures.neighbour (Added info lent a.self.now a.f t c.match-toward.self) _ v.in-Some.is
          (λ o.
          let f = v.insert_disturbing_block.ensures lent _ (Whole-disturbing info.kinds.now info.owners.now a.f t _ whole) (c.loop-k.invariant lent t whole o) in
          rw v.self-is (record { same = f.same; ordered = disturbing_among_more info.kinds.now info.owners.now a.f t _ _ f.ordered }))
      | in_default v ↦ side_off (cell_of info.grid a.i c.requires.cell) c.loop-k.k c.toward.result c.toward.ensures.neighbour (Added info lent a.self.now a.f t c.match-toward.self) v.in_default.is
          (λ o. rw v.self-is (c.loop-k.invariant lent t whole o))
    ]

pub returns : goal.returns
returns c =
    let a = c.args in
    let info = a.info.now in
    λ lent t whole. sides_all (Added info lent a.self.now a.f t c.loop-k.self) (sized info.grid.height info.grid.width) a.i c.loop-k.k (omega (arith, c.loop-k.auto.k-end)) c.loop-k-test.false (c.loop-k.invariant lent t whole)
