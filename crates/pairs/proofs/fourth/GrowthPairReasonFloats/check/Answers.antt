-- `pairs::fourth::Growth::check` meets its contract: the sizes are compared, and the reason is the three parts.
-- Assumes nothing.
use native.Mathlib.Omega.{arith}
use mathlib.Core.Path.{refl}
use Rattle.grid.proofs.SideLaws.{area}
use Rattle.growth.proofs.PairFinds.{no_growth, growth_found}
use Rattle.growth.proofs.PairNames.{last_name, cur_name, last_kind, cur_kind}
use Rattle.pairs.proofs.fourth.GrowthPairReasonFloats.check.Goals as goal

pub count_reach-reach-requires : goal.count_reach-reach-requires
count_reach-reach-requires c =
    let g = c.args.scene.now.linked.info.grid in
    record { name = rw c.cur_cell-cell.ensures (omega (arith, cur_name c.requires.squares, area g.height g.width g.tall g.wide)) }

pub block_size-requires : goal.block_size-requires
block_size-requires c =
    let g = c.args.scene.now.linked.info.grid in
    record { name = rw c.last_cell.ensures (omega (arith, last_name c.requires.squares, area g.height g.width g.tall g.wide)) }

pub returns-then-block_size-reach : goal.returns-then-block_size-reach
returns-then-block_size-reach c =
    let p = c.requires.squares in
    let size = rw c.last_cell.ensures at c.block_size.ensures in
    let reach = rw c.cur_cell-cell.ensures at c.count_reach-reach.ensures in
    λ lines k.
    no_growth k (omega (arith, p.two)) (omega (arith, p.two)) p.first p.second _ _ refl refl (omega (arith, c.if-block_size-reach.true, size lines k.held (last_kind p), reach lines k.held (cur_kind p)))

pub returns : goal.returns
returns c =
    let p = c.requires.squares in
    let size = rw c.last_cell.ensures at c.block_size.ensures in
    let reach = rw c.cur_cell-cell.ensures at c.count_reach-reach.ensures in
    let wrote = rw (c.last_cell.ensures, c.cur_cell-cell.ensures) at c.reason_for_pair.ensures.wrote in
    λ lines k.
    growth_found k (omega (arith, p.two)) (omega (arith, p.two)) p.first p.second _ _ refl refl (omega (arith, c.if-block_size-reach.false, size lines k.held (last_kind p), reach lines k.held (cur_kind p))) (wrote lines k.held)
