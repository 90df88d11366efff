-- `writer::write` meets its contract: what the writer that was made here holds is what was lent.
-- Assumes nothing.
use mathlib.Core.Path.{refl}
use borrow.Author.Rules.{rules}
use Rattle.form.proofs.AcceptedLaws.{kept}
use Rattle.writer.proofs.BridgeLaws.{ready, fields_Recorded}
use Rattle.writer.proofs.write.Goals as goal

pub write_fields-requires : goal.write_fields-requires
write_fields-requires c =
    let k = kept c.puzzle.inside.problem c.puzzle.invariant c.puzzle.view_is in
    ready c.args.puzzle.now k.valid c.puzzle.inside.problem k.arrays refl c.requires

pub returns : goal.returns
returns c =
    let k = kept c.puzzle.inside.problem c.puzzle.invariant c.puzzle.view_is in
    fields_Recorded c.args.puzzle.now k.valid c.puzzle.inside.problem k.arrays refl (ready c.args.puzzle.now k.valid c.puzzle.inside.problem k.arrays refl c.requires)
    c.write_fields.ensures (search rules) c.div_ceil.ensures
