-- What holds at each turn of the loop of `record::read_cells`.
-- Assumes nothing.
use lib.ListN.{length}
use Rattle.record.proofs.CellLaws.{CellsSoFar}
use Rattle.record.proofs.read_cells.Given as goal

abbrev pub invariant-loop-cell : goal.invariant-loop-cell
invariant-loop-cell l = CellsSoFar l.initial.bits (length l.fn.cells) l.cell-index l.cell-items l.bits
