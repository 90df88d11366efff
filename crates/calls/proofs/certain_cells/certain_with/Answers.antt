-- `calls::certain_cells::certain_with` meets its contract: what is told of the leaf that is opened is what the call returns and writes.
-- Assumes nothing.
use mathlib.Core.Path.{◌∙◌}
use mir.Syntax.{w32}
use mir.ValLaws.{to_z-of_z}
use Rattle.calls.specs.Call.{leaf_from}
use Rattle.calls.specs.Told.{host_certain_with}
use Rattle.calls.proofs.ToldLaws.{Tells-opened}
use Rattle.calls.proofs.certain_cells.certain_with.Goals as goal

pub returns : goal.returns
unfolding host_certain_with
returns c =
    let a = c.args in
    let t = Tells-opened (leaf_from a.«record».now a.edition a.sizes.now) a.decisions.now a.budget a.output.now c.ask.new.output c.ask.result c.ask.ensures.told in
    (to_z-of_z w32 c.returned.result (record { sfits = c.returned.type_inv }) ∙ c.returned.ensures ∙ t.0, t.1)
