-- `host_board::finding_number` meets its contract: a count of literals is small enough for the number.
-- Assumes nothing.
use Rattle.std.proofs.Common.{rules}
use mathlib.Core.Path.{◌∙◌}
use mir.Syntax.{w32}
use mir.ValLaws.{to_z-of_z}
use Rattle.host_board.proofs.LentLaws.{finding_returned, finding_few}
use Rattle.host_board.proofs.finding_number.Goals as goal

-- what is returned stands first: a wrong number is to be told there
pub returns : goal.returns
returns c f e =
    to_z-of_z w32 c.returned.result (record { sfits = c.returned.type_inv }) ∙ c.returned.ensures
    ∙ finding_returned c.args.finding c.map.result (search (rules, c.map.ensures)) f e

pub returned-requires : goal.returned-requires
returned-requires c = finding_few c.args.finding c.map.result (search (rules, c.map.ensures)) c.requires
