-- `sizes::CellSizes::read` meets its contract.
-- Assumes nothing.
use native.Mathlib.Omega.{arith}
use mathlib.Core.List.{[]}
use Rattle.fields.proofs.OutcomeLaws.{agrees_fault}
use Rattle.sizes.proofs.DrawnLaws.{drawn_few, drawn_fits, drawn_cells, drawn_Marks}
use Rattle.sizes.proofs.ReadLaws.{sizes_refused, sizes_none, sizes_marked}
use Rattle.sizes.proofs.CellSizes.read.Goals as goal

pub returns-in_err-count : goal.returns-in_err-count
returns-in_err-count g c = λ p k. agrees_fault _ _ _ c.from_residual.ensures.1 (sizes_refused p c.in_err-count.ensures)

pub returns-then-branch-eq0 : goal.returns-then-branch-eq0
returns-then-branch-eq0 g c = λ p k.
    let n = c.in_ok-count.ensures in
    ([], sizes_none p n.1 (omega (arith, n.2, c.if-branch-eq0.true)), c.none.ensures)

pub arrow_total-requires : goal.arrow_total-requires
arrow_total-requires g c = (drawn_few c.requires.drawn.0 c.requires.drawn.1).0

pub shared_ref_as_front-mark_arrow_cells : goal.shared_ref_as_front-mark_arrow_cells
shared_ref_as_front-mark_arrow_cells g c = drawn_fits c.requires.drawn.0 c.requires.drawn.1 c.arrow_total.result c.arrow_total.ensures

pub mark_arrow_cells-marks-requires : goal.mark_arrow_cells-marks-requires
mark_arrow_cells-marks-requires g c = record { cells = drawn_cells c.requires.drawn.0 c.requires.drawn.1 c.arrow_total.result c.arrow_total.ensures }

pub returns : goal.returns
returns g c = λ p k. rw (← sizes_marked p (drawn_Marks p k c.arrow_total.result c.arrow_total.ensures c.mark_arrow_cells-marks.ensures) (g.N.Numbers.numbers c.args.numbers.now)) c.read_ranges.ensures
