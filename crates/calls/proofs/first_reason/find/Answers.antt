-- `calls::first_reason::find` meets its contract: the call is that in edition 1 without sizes.
-- Assumes nothing.
use mathlib.Core.Path.{◌∙◌}
use lib.ListN.{length}
use mir.Syntax.{w32}
use mir.ValLaws.{to_z-of_z}
use Rattle.calls.proofs.FoundLaws.{told_as}
use Rattle.calls.proofs.FindLaws.{finds_plain}
use Rattle.calls.proofs.first_reason.find.Goals as goal

pub returns : goal.returns
returns c =
    let a = c.args in
    told_as a.output.now (finds_plain a.«record».now a.decisions.now (length a.output.now))
    (to_z-of_z w32 c.find_with.result (record { sfits = c.find_with.type_inv }) ∙ c.find_with.ensures.0, c.find_with.ensures.1)
