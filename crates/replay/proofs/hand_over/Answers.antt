-- What a report is handed over as: the bytes of the string that its text was written into.
-- Assumes nothing.
use Rattle.std.proofs.Common.{◌∙◌}
use mathlib.Core.Path.{subst, sym}
use Rattle.std.specs.Prelude.{OnOk}
use Rattle.std.specs.Io.KnownBytes.{Appends}
use Rattle.replay.proofs.WrittenLaws.{written, not_failed}
use Rattle.replay.proofs.hand_over.Goals as goal

pub returns : goal.returns
returns g c = subst (λ l. OnOk c.write_all.result (Appends (g.W.Write.contents c.args.output.now) (g.W.Write.contents c.write_all.new.self) l))
    (c.as_bytes.ensures.value ∙ c.deref.ensures.0 ∙ written _ _ _ c.new-text.ensures (not_failed c.write_fmt.result (sym c.is_err.ensures.value ∙ c.if-is_err.false) c.write_fmt.ensures.writes))
    c.write_all.ensures.bytes
