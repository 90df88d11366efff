-- What falls from call to call of `writer::BitWriter::put`.
-- Assumes nothing.
use Rattle.writer.proofs.BitWriter.+put.Given as goal

abbrev pub decreases-put : goal.decreases-put
decreases-put l = l.k
