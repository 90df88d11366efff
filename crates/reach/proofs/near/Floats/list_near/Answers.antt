-- `reach::near::Floats::list_near` meets its contract: the floating groups that touch the cells of f passed are listed.
-- Assumes nothing.
use Rattle.grid.specs.Side.{sized}
use Rattle.grid.proofs.SideLaws.{area}
use Rattle.reach.proofs.ChainWalks.{walk_in, walk_less}
use Rattle.reach.proofs.NearLaws.{Nearby-none, Nearby-more, nearby_end, listed_small}
use Rattle.reach.proofs.NearReach.{near_computed}
use Rattle.reach.proofs.near.Floats.list_near.Goals as goal

pub loop-i-init : goal.loop-i-init
loop-i-init c =
    let a = c.args.linked.now in
    rw (c.from-i.ensures, c.from.ensures, c.unmark.ensures.none) (Nearby-none a.info.kinds.now (sized a.info.grid.height a.info.grid.width) a.chains c.args.f c.requires.name c.unmark.ensures.room)

pub list_floats_beside-total-requires : goal.list_floats_beside-total-requires
list_floats_beside-total-requires c =
    let W = c.loop-i.invariant in
    record {
      cell = walk_in c.args.linked.now.chains c.args.f c.requires.name W.walk (rw c.from-in-loop-i.ensures at c.loop-i-test.true);
      listing = record { test = _; so_far = W.so_far };
    }

pub loop-i-smaller : goal.loop-i-smaller
loop-i-smaller c = rw c.from-i-in-loop-i.ensures (walk_less c.args.linked.now.chains c.args.f c.requires.name c.loop-i.invariant.walk (rw c.from-in-loop-i.ensures at c.loop-i-test.true))

pub loop-i-preserved : goal.loop-i-preserved
loop-i-preserved c =
    let W = c.loop-i.invariant in
    rw c.from-i-in-loop-i.ensures (Nearby-more c.args.linked.now.info.kinds.now _ c.args.linked.now.chains c.args.f c.requires.name W (rw c.from-in-loop-i.ensures at c.loop-i-test.true) (c.list_floats_beside-total.ensures _ W.so_far))

pub returns-clause-near : goal.returns-clause-near
returns-clause-near c =
    let a = c.args.linked.now.info in
    let small = area a.grid.height a.grid.width a.grid.tall a.grid.wide in
    let L = nearby_end a.kinds.now _ c.args.linked.now.chains c.args.f c.requires.name c.loop-i.invariant (rw c.from-in-loop-i.ensures at c.loop-i-test.false) in
    λ arrows cells held. near_computed a.grid.height a.grid.width small a.kinds.now a.owners.now c.args.f _ _ _ L arrows cells held

pub returns-clause-names : goal.returns-clause-names
returns-clause-names c =
    listed_small (nearby_end c.args.linked.now.info.kinds.now _ c.args.linked.now.chains c.args.f c.requires.name c.loop-i.invariant (rw c.from-in-loop-i.ensures at c.loop-i-test.false))
