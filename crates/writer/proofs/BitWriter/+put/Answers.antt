-- `writer::BitWriter::put` meets its contract.
-- Assumes nothing.
use Rattle.writer.proofs.AppendLaws.{put_none, put_more}
use Rattle.writer.proofs.BitWriter.+put.Goals as goal

pub returns-then-k-eq0 : goal.returns-then-k-eq0
returns-then-k-eq0 t c = put_none c.args.x c.args.k c.args.self.now c.if-k-eq0.true

pub returns : goal.returns
returns t c = put_more c.args.x c.args.k c.if-k-eq0.false c.put.ensures c.put_bit.ensures
