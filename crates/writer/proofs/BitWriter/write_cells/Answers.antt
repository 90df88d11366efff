-- `writer::BitWriter::write_cells` meets its contract.
-- Assumes nothing.
use Rattle.writer.proofs.AppendLaws.{cells_none, cells_more}
use Rattle.writer.proofs.BitWriter.write_cells.Goals as goal

pub loop-code-init : goal.loop-code-init
loop-code-init c = cells_none c.args.codes.now c.args.self.now

pub loop-code-preserved : goal.loop-code-preserved
loop-code-preserved c = cells_more c.args.codes.now c.loop-code.code-index c.loop-code-test.true c.loop-code.invariant (rw c.from.ensures at c.put.ensures)
