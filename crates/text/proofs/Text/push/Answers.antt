-- `text::Text::push` meets its contract.
-- Assumes nothing.
use native.Mathlib.Omega.{arith}
use mathlib.Core.Path.{refl}
use Rattle.text.proofs.Writing.{write_length}
use Rattle.text.proofs.PushLaws.{part_Written}
use Rattle.text.proofs.Text.push.Goals as goal

pub returns : goal.returns
returns c =
    let w = part_Written c.args.self.now.out.now c.args.self.now.len _ c.args.bytes.now _ c.copy_from_slice.ensures.after (omega arith) in
    record { same = refl; long = write_length w c.requires; written = w }
