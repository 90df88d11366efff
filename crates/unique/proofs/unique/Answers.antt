-- `unique::unique` meets its contract: what is told of the leaf that is opened is what the call returns.
-- Assumes nothing.
use mathlib.Core.Path.{◌∙◌}
use mir.Syntax.{w32}
use mir.ValLaws.{to_z-of_z}
use Rattle.calls.specs.Call.{leaf_from}
use Rattle.unique.specs.Unique.{host_unique}
use Rattle.unique.proofs.LentLaws.{told_unique}
use Rattle.unique.proofs.unique.Goals as goal

pub returns : goal.returns
unfolding host_unique
returns c =
    let a = c.args in
    to_z-of_z w32 c.returned.result (record { sfits = c.returned.type_inv }) ∙ c.returned.ensures
    ∙ told_unique (leaf_from a.«record».now a.edition a.sizes.now) a.certificate.now _ _ c.ask.result c.ask.ensures.told
