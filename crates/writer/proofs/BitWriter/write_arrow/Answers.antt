-- `writer::BitWriter::write_arrow` meets its contract.
-- Assumes nothing.
use Rattle.grid.specs.Side.{sized}
use Rattle.writer.proofs.AppendLaws.{arrow_Appends}
use Rattle.writer.proofs.BitWriter.write_arrow.Goals as goal

pub returns : goal.returns
returns c =
    arrow_Appends (sized c.args.grid.height c.args.grid.width) c.args.arrow.now c.requires.0.some (rw (c.row.ensures.value, c.from-start.ensures) at c.put.ensures) (rw (c.column.ensures.value, c.from-start.ensures) at c.put-2.ensures) c.put-3.ensures
    c.write_steps.ensures
