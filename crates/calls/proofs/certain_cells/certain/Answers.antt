-- `calls::certain_cells::certain` meets its contract: the call is that in edition 1 without sizes.
-- Assumes nothing.
use mathlib.Core.Path.{◌∙◌}
use lib.ListN.{length}
use mir.Syntax.{w32}
use mir.ValLaws.{to_z-of_z}
use Rattle.calls.proofs.ToldLaws.{Tells-as, certain_plain}
use Rattle.calls.proofs.certain_cells.certain.Goals as goal

pub returns : goal.returns
returns c =
    let a = c.args in
    Tells-as a.output.now (certain_plain a.«record».now a.decisions.now a.budget (length a.output.now))
    (to_z-of_z w32 c.certain_with.result (record { sfits = c.certain_with.type_inv }) ∙ c.certain_with.ensures.0, c.certain_with.ensures.1)
