-- `pairs::fourth::Gap::check` meets its contract: the sizes are compared, and the reason is the three parts with the empty cells of the gap behind them.
-- Assumes nothing.
use native.Mathlib.Omega.{arith}
use mathlib.Core.Path.{refl}
use Prim.Native.Nat.{◌≤◌}
use lib.ListN.{length, get_or, length-take, length-drop}
use Rattle.grid.proofs.SideLaws.{area}
use Rattle.literals.proofs.Findings.{lent, Wrote-part}
use Rattle.growth.proofs.PairFinds.{no_gap, gap_found, gap_cells, gap_few}
use Rattle.growth.proofs.PairNames.{last_name, cur_name, last_kind, cur_kind}
use Rattle.growth.proofs.PairSizes.{reach_few}
use Rattle.pairs.proofs.fourth.GapPairReasonFloats.check.Goals as goal

pub count_reach-reach-requires : goal.count_reach-reach-requires
count_reach-reach-requires c =
    let g = c.args.scene.now.linked.info.grid in
    record { name = rw c.last_cell-cell.ensures (omega (arith, last_name c.requires.squares, area g.height g.width g.tall g.wide)) }

pub gap_count-most-requires : goal.gap_count-most-requires
gap_count-most-requires c = record { places = rw c.gap_of-gap.ensures (gap_cells c.requires.squares) }

pub block_size-requires : goal.block_size-requires
block_size-requires c =
    let g = c.args.scene.now.linked.info.grid in
    record { name = rw c.cur_cell.ensures (omega (arith, cur_name c.requires.squares, area g.height g.width g.tall g.wide)) }

pub overflow_add-reach : goal.overflow_add-reach
overflow_add-reach c =
    let i = c.args.scene.now.linked.info in
    let p = c.requires.squares in
    let reach = rw c.last_cell-cell.ensures at c.count_reach-reach.ensures in
    omega (
      arith,
      reach p.line.lines p.line.stretch.held (last_kind p),
      reach_few i.grid.height i.grid.width p.line.lines i.cells.now (get_or i.owners.now (get_or c.args.pair.now.cells.now 0 0) 0),
      area i.grid.height i.grid.width i.grid.tall i.grid.wide,
    )

pub overflow_add-reach-2 : goal.overflow_add-reach-2
overflow_add-reach-2 c =
    let i = c.args.scene.now.linked.info in
    let p = c.requires.squares in
    let reach = rw c.last_cell-cell.ensures at c.count_reach-reach.ensures in
    let most = rw c.gap_of-gap.ensures at c.gap_count-most.ensures.few in
    omega (
      arith,
      reach p.line.lines p.line.stretch.held (last_kind p),
      reach_few i.grid.height i.grid.width p.line.lines i.cells.now (get_or i.owners.now (get_or c.args.pair.now.cells.now 0 0) 0),
      most,
      gap_few p,
      area i.grid.height i.grid.width i.grid.tall i.grid.wide,
    )

pub returns-then-block_size-reach : goal.returns-then-block_size-reach
returns-then-block_size-reach c =
    let p = c.requires.squares in
    let size = rw c.cur_cell.ensures at c.block_size.ensures in
    let reach = rw c.last_cell-cell.ensures at c.count_reach-reach.ensures in
    let most = rw c.gap_of-gap.ensures at c.gap_count-most.ensures.most in
    λ lines k.
    no_gap k (omega (arith, p.two)) (omega (arith, p.two)) p.first p.second _ _ refl refl
    (omega (arith, c.if-block_size-reach.true, size lines k.held (cur_kind p), reach lines k.held (last_kind p), most))

pub reason_for_gap-more-requires-clause-places : goal.reason_for_gap-more-requires-clause-places
reason_for_gap-more-requires-clause-places c = rw c.gap_of-gap.ensures (gap_cells c.requires.squares)

pub reason_for_gap-more-requires-clause-room : goal.reason_for_gap-more-requires-clause-room
reason_for_gap-more-requires-clause-room c =
    let few = rw (← c.gap_of-gap.ensures) at (gap_few c.requires.squares) in
    simp (length-take, length-drop) (omega (arith, few))

pub returns : goal.returns
returns c =
    let p = c.requires.squares in
    let size = rw c.cur_cell.ensures at c.block_size.ensures in
    let reach = rw c.last_cell-cell.ensures at c.count_reach-reach.ensures in
    let most = rw c.gap_of-gap.ensures at c.gap_count-most.ensures.most in
    let wrote = rw (c.last_cell-cell.ensures, c.cur_cell.ensures) at c.reason_for_pair-literals.ensures.wrote in
    let more = rw c.gap_of-gap.ensures at c.reason_for_gap-more.ensures in
    let fits : c.reason_for_pair-literals.result ≤ length c.args.buffer.now = omega arith in
    λ lines k.
    gap_found k (omega (arith, p.two)) (omega (arith, p.two)) p.first p.second _ _ refl refl
    (omega (arith, c.if-block_size-reach.false, size lines k.held (cur_kind p), reach lines k.held (last_kind p), most))
    (Wrote-part (wrote lines k.held) fits (rw (lent (wrote lines k.held) fits) at more))
