-- `host_board::hints_number` meets its contract.
-- Assumes nothing.
use mathlib.Core.Path.{◌∙◌}
use mir.Syntax.{w32}
use mir.ValLaws.{to_z-of_z}
use Rattle.host_board.proofs.LentLaws.{count_returned}
use Rattle.host_board.proofs.hints_number.Goals as goal

pub returns : goal.returns
returns c =
    to_z-of_z w32 c.returned.result (record { sfits = c.returned.type_inv }) ∙ c.returned.ensures ∙ count_returned c.hints_taken.result _ c.hints_taken.ensures.told
