-- `calls::is_finished::finished` meets its contract: the call is that in edition 1 without sizes.
-- Assumes nothing.
use mathlib.Core.Path.{sym, ap, ◌∙◌}
use mir.Syntax.{w32}
use mir.ValLaws.{to_z-of_z}
use Rattle.calls.specs.Judged.{judged}
use Rattle.calls.proofs.JudgedLaws.{finished_plain}
use Rattle.calls.proofs.is_finished.finished.Goals as goal

pub returns : goal.returns
returns c =
    to_z-of_z w32 c.finished_with.result (record { sfits = c.finished_with.type_inv }) ∙ c.finished_with.ensures
    ∙ ap judged (sym (finished_plain c.args.«record».now c.args.decisions.now))
