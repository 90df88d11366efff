-- `calls::is_finished::finished_with` meets its contract: what is told of the leaf that is opened is what the call returns.
-- Assumes nothing.
use mathlib.Core.Path.{◌∙◌}
use mir.Syntax.{w32}
use mir.ValLaws.{to_z-of_z}
use Rattle.calls.specs.Call.{leaf_from}
use Rattle.calls.specs.Judged.{host_finished_with}
use Rattle.calls.proofs.JudgedLaws.{told_judged}
use Rattle.calls.proofs.is_finished.finished_with.Goals as goal

pub returns : goal.returns
unfolding host_finished_with
returns c =
    let a = c.args in
    to_z-of_z w32 c.returned.result (record { sfits = c.returned.type_inv }) ∙ c.returned.ensures
    ∙ told_judged (leaf_from a.«record».now a.edition a.sizes.now) a.decisions.now _ _ c.ask.result c.ask.ensures.told
