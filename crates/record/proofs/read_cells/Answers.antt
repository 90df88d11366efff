-- `record::read_cells` meets its contract: the first codes are written, and what is left makes of them what the whole makes.
-- Assumes nothing.
use native.Mathlib.Omega.{arith}
use mathlib.Core.Path.{refl}
use Rattle.fields.proofs.OutcomeLaws.{agrees_fault}
use Rattle.record.proofs.CellLaws.{cells_start, cells_fault, cells_more, cells_end}
use Rattle.record.proofs.read_cells.Goals as goal

pub loop-cell-init : goal.loop-cell-init
loop-cell-init c = cells_start c.args.bits.now _ refl

pub returns-in_err-cell-clause-codes : goal.returns-in_err-cell-clause-codes
returns-in_err-cell-clause-codes c = agrees_fault _ _ _ c.from_residual.ensures.1 (cells_fault _ _ (omega (arith, c.loop-cell-test.true, c.loop-cell.invariant.long)) c.loop-cell.invariant c.in_err-cell.ensures.value)

pub loop-cell-preserved : goal.loop-cell-preserved
loop-cell-preserved c = cells_more _ _ (omega (arith, c.loop-cell-test.true, c.loop-cell.invariant.long)) c.loop-cell.invariant _ c.in_ok-cell.ensures.value c.in_ok-cell.ensures.past

pub returns-clause-codes : goal.returns-clause-codes
returns-clause-codes c = cells_end _ _ (omega (arith, c.loop-cell-test.false, c.loop-cell.invariant.long)) c.loop-cell.invariant
