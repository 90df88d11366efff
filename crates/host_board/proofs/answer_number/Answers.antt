-- `host_board::answer_number` meets its contract.
-- Assumes nothing.
use mathlib.Core.Path.{◌∙◌}
use mir.Syntax.{w32}
use mir.ValLaws.{to_z-of_z}
use Rattle.host_board.proofs.LentLaws.{answer_returned}
use Rattle.host_board.proofs.answer_number.Goals as goal

pub returns : goal.returns
returns c a e =
    to_z-of_z w32 c.returned.result (record { sfits = c.returned.type_inv }) ∙ c.returned.ensures ∙ answer_returned c.args.answer c.and.result a c.and.ensures e
