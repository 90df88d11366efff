-- `host_board::finished_number` meets its contract.
-- Assumes nothing.
use mathlib.Core.Path.{◌∙◌}
use mir.Syntax.{w32}
use mir.ValLaws.{to_z-of_z}
use Rattle.finished.specs.Verdicts.{finished_of}
use Rattle.host_board.proofs.LentLaws.{verdict_returned}
use Rattle.host_board.proofs.finished_number.Goals as goal

pub returns : goal.returns
returns c =
    to_z-of_z w32 c.returned.result (record { sfits = c.returned.type_inv }) ∙ c.returned.ensures
    ∙ verdict_returned c.finished.result c.map.result (finished_of c.args.board.now) c.map.ensures.cases c.finished.ensures
