-- `reasons::inconsistency::find_inconsistency` meets its contract: one search after the other, and the first reason that applies.
-- Assumes nothing.
use native.Mathlib.Omega.{arith}
use Rattle.grid.specs.Side.{sized}
use Rattle.grid.proofs.GridLaws.{size_most}
use Rattle.groups.proofs.MarkLaws.{line_cells}
use Rattle.groups.proofs.TableLaws.{table_few}
use Rattle.literals.proofs.Findings.{found_first, found_next}
use Rattle.reasons.specs.Inconsistency.{find_reason}
use Rattle.reasons.proofs.Checks.{lines, potentials_held, blocks_held, first_of, second_of, view_of}
use Rattle.reasons.proofs.inconsistency.find_inconsistency.Goals as goal

pub shared_ref_as_front-mark_arrow_cells : goal.shared_ref_as_front-mark_arrow_cells
shared_ref_as_front-mark_arrow_cells c = rw c.arrow_total.ensures c.args.leaf.now.arrows.within

pub mark_arrow_cells-onarrow-requires : goal.mark_arrow_cells-onarrow-requires
mark_arrow_cells-onarrow-requires c =
    let lent = c.args.leaf.now in
    record { cells = rw c.arrow_total.ensures (line_cells lent.problem.now.arrows _ (λ k _. lent.arrows.drawn.places.cells k)) }

pub check_potential_groups-first-requires-clause-names : goal.check_potential_groups-first-requires-clause-names
check_potential_groups-first-requires-clause-names c =
    let g = c.grid-grid.result in
    table_few (sized g.height g.width) _ c.compute_connected_components.ensures (size_most (sized g.height g.width) g.tall g.wide)

pub returns-in-Some : goal.returns-in-Some
unfolding find_reason
returns-in-Some c =
    let lent = c.args.leaf.now in
    let g = c.grid-grid.result in
    let same = c.grid-grid.ensures in
    let marks = rw c.arrow_total.ensures at c.mark_arrow_cells-onarrow.ensures in
    found_first _ _ (first_of lent g same c.args.cells.now (c.in-Some.ensures (lines lent g same) (potentials_held lent g same c.args.cells.now marks c.compute_connected_components.ensures)))

pub check_blocks-second-requires-clause-blocked : goal.check_blocks-second-requires-clause-blocked
check_blocks-second-requires-clause-blocked c =
    let lent = c.args.leaf.now in
    let g = c.grid-grid.result in
    let same = c.grid-grid.ensures in
    let marks = rw c.arrow_total.ensures at c.mark_arrow_cells-onarrow.ensures in
    record { arrows = lines lent g same; squares = c.compute_connected_components-2.new.self.squares; held = blocks_held lent g same c.args.cells.now marks c.compute_connected_components-2.ensures }

pub returns-in-Some-second : goal.returns-in-Some-second
unfolding find_reason
returns-in-Some-second c =
    let lent = c.args.leaf.now in
    let g = c.grid-grid.result in
    let same = c.grid-grid.ensures in
    let marks = rw c.arrow_total.ensures at c.mark_arrow_cells-onarrow.ensures in
    let first = c.in_default.ensures (lines lent g same) (potentials_held lent g same c.args.cells.now marks c.compute_connected_components.ensures) in
    let second = c.in-Some-second.ensures (lines lent g same) c.compute_connected_components-2.new.self.squares (blocks_held lent g same c.args.cells.now marks c.compute_connected_components-2.ensures) in
    found_next _ _ (first_of lent g same c.args.cells.now first) (found_first _ _ (second_of lent g same c.args.cells.now second))

pub check_arrows-requires-clause-blocks : goal.check_arrows-requires-clause-blocks
check_arrows-requires-clause-blocks c =
    let lent = c.args.leaf.now in
    let g = c.grid-grid.result in
    let same = c.grid-grid.ensures in
    let marks = rw c.arrow_total.ensures at c.mark_arrow_cells-onarrow.ensures in
    rw (same.0, same.1) at (blocks_held lent g same c.args.cells.now marks c.compute_connected_components-2.ensures).table

pub returns : goal.returns
unfolding find_reason
returns c =
    let lent = c.args.leaf.now in
    let g = c.grid-grid.result in
    let same = c.grid-grid.ensures in
    let marks = rw c.arrow_total.ensures at c.mark_arrow_cells-onarrow.ensures in
    let first = c.in_default.ensures (lines lent g same) (potentials_held lent g same c.args.cells.now marks c.compute_connected_components.ensures) in
    let second = c.in_default-second.ensures (lines lent g same) c.compute_connected_components-2.new.self.squares (blocks_held lent g same c.args.cells.now marks c.compute_connected_components-2.ensures) in
    found_next _ _ (first_of lent g same c.args.cells.now first)
    (found_next _ _ (second_of lent g same c.args.cells.now second) (rw (← (view_of lent.problem.now c.args.cells.now)) c.check_arrows.ensures))
