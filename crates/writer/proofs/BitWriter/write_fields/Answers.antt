-- `writer::BitWriter::write_fields` meets its contract.
-- Assumes nothing.
use native.Mathlib.Omega.{arith}
use Rattle.grid.proofs.SideLaws.{area}
use Rattle.writer.proofs.AppendLaws.{fields_Appends}
use Rattle.writer.proofs.BitWriter.write_fields.Goals as goal

pub returns : goal.returns
returns c =
    let q = c.args.problem.now in
    let lines = c.requires.lines in
    fields_Appends q (omega (arith, area q.height q.width lines.tall lines.wide)) (omega (arith, lines.few)) c.put.ensures c.put-2.ensures c.put-3.ensures (rw c.size.ensures.value at c.write_cells.ensures) c.write_arrows.ensures
