-- `writer::BitWriter::put_bit` meets its contract.
-- Assumes nothing.
use native.Mathlib.Omega.{arith}
use mathlib.Core.Path.{refl}
use borrow.Author.Rules.{rules}
use Rattle.writer.proofs.PutLaws.{put_bit_Appends}
use Rattle.writer.proofs.BitWriter.put_bit.Goals as goal

pub returns : goal.returns
returns c = put_bit_Appends c.args.self.now _ c.args.bit c.with_bit.result c.with_bit.ensures (search rules) (omega arith) refl refl refl
