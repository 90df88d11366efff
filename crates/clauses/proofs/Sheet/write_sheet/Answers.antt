-- `clauses::Sheet::write_sheet` meets its contract: one part behind the other.
-- Assumes nothing.
use native.Mathlib.Omega.{arith}
use Rattle.form.proofs.AcceptedLaws.{kept}
use Rattle.clauses.specs.Clauses.{sheet_bytes}
use Rattle.clauses.proofs.AnswerLaws.{high, drawn, line_fits, all_small}
use Rattle.clauses.proofs.BytesLaws.{sheeted}
use Rattle.clauses.proofs.LengthLaws.{Valid_most}
use Rattle.clauses.proofs.PushLaws.{push_same, push_clauses}
use Rattle.clauses.proofs.Sheet.write_sheet.Goals as goal

pub arrow_total-requires : goal.arrow_total-requires
arrow_total-requires c = (drawn c.puzzle.inside.problem c.puzzle.invariant).many

pub shared_ref_as_front-mark_arrow_cells : goal.shared_ref_as_front-mark_arrow_cells
shared_ref_as_front-mark_arrow_cells c = rw c.arrow_total.ensures (line_fits c.puzzle.inside.problem c.puzzle.invariant)

pub mark_arrow_cells-marks-requires : goal.mark_arrow_cells-marks-requires
mark_arrow_cells-marks-requires c = record { cells = rw c.arrow_total.ensures (all_small c.puzzle.inside.problem c.puzzle.invariant) }

pub grid-grid-requires : goal.grid-grid-requires
grid-grid-requires c = high c.puzzle.inside.problem c.puzzle.invariant

pub write_arrows-requires : goal.write_arrows-requires
write_arrows-requires c = drawn c.puzzle.inside.problem c.puzzle.invariant

pub returns-clause-sheet : goal.returns-clause-sheet
unfolding sheet_bytes
returns-clause-sheet c =
    let h = c.grid-grid.ensures.height in
    let w = c.grid-grid.ensures.width in
    let k = kept c.puzzle.inside.problem c.puzzle.invariant c.puzzle.view_is in
    push_same ((sheeted c.args.puzzle.now k.valid c.puzzle.inside.problem k.arrays).clauses c.mark_arrow_cells-marks.result (rw c.arrow_total.ensures at c.mark_arrow_cells-marks.ensures))
    (push_clauses _ _ (rw (c.size.ensures.value, h, w) at c.write_given.ensures) (push_clauses _ _ (rw (h, w) at c.write_touching.ensures) (push_clauses _ _ (rw (h, w) at c.write_between.ensures) c.write_arrows.ensures)))

pub returns-clause-few : goal.returns-clause-few
returns-clause-few c =
    let k = kept c.puzzle.inside.problem c.puzzle.invariant c.puzzle.view_is in
    omega (arith, Valid_most c.args.puzzle.now k.valid)
