-- `reach::near::Floats::list_floats_beside` meets its contract: the floating groups in the directions before k are listed.
-- Assumes nothing.
use native.Mathlib.Omega.{arith}
use Rattle.grid.specs.Side.{sized}
use Rattle.grid.proofs.SideLaws.{cell_of}
use Rattle.grid.proofs.AroundLaws.{side_at, side_off, sides_none, sides_all}
use Rattle.reach.proofs.NearLaws.{float_none, float_more, float_beside}
use Rattle.reach.proofs.near.Floats.list_floats_beside.Goals as goal
use Rattle.reach.proofs.near.Floats.list_floats_beside.Goals.{in-Some, in_default}
use Rattle.reach.proofs.near.Floats.list_floats_beside.Invariants.{Passed}

pub loop-k-init : goal.loop-k-init
loop-k-init c =
    let a = c.args.info.now in
    λ t. sides_none (Passed a.kinds.now a.owners.now c.args.self.now c.args.count c.args.self.now c.args.count t) _ _ (λ L. float_none a.kinds.now a.owners.now L)

pub list_float-total-requires : goal.list_float-total-requires
list_float-total-requires c = record {
  cell = c.in-Some.ensures.small;
  listing = record { test = _; so_far = c.loop-k.invariant c.requires.listing.test c.requires.listing.so_far };
}

pub loop-k-preserved : goal.loop-k-preserved
loop-k-preserved c =
    let a = c.args.info.now in
    let i = cell_of a.grid c.args.i c.requires.cell in
    let P = Passed a.kinds.now a.owners.now c.args.self.now c.args.count c.match-toward.self c.match-toward.total in
    λ t. elim c.match-toward.branch [
      | in-Some v ↦ side_at i c.loop-k.k c.toward.result c.toward.ensures.neighbour (P t) _ v.in-Some.is
          (λ L. rw (v.self-is, v.total-is) (float_more a.kinds.now a.owners.now t _ _ (v.list_float-total.ensures _ (c.loop-k.invariant t L))))
      | in_default v ↦ side_off i c.loop-k.k c.toward.result c.toward.ensures.neighbour (P t) v.in_default.is
          (λ L. rw (v.self-is, v.total-is) (c.loop-k.invariant t L))
    ]

pub returns : goal.returns
returns c =
    let a = c.args.info.now in
    λ t L. float_beside a.kinds.now a.owners.now t _ c.args.i c.if-info-i-ne-ARROW_BLOCK_NEIGHBOR.false
    (sides_all (Passed a.kinds.now a.owners.now c.args.self.now c.args.count c.loop-k.self c.loop-k.total t) (sized a.grid.height a.grid.width) c.args.i c.loop-k.k
    (omega (arith, c.loop-k.auto.k-end)) c.loop-k-test.false (c.loop-k.invariant t) L)
