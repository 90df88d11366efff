-- `file::read_player` meets its contract: there is room for the grade.
-- Assumes nothing.
use mathlib.Core.Path.{ap, ◌∙◌}
use Rattle.file.specs.Answers.{player_of}
use Rattle.file.proofs.AnswerLaws.{player_room}
use Rattle.file.proofs.read_player.Goals as goal

pub returns : goal.returns
returns c = c.player_within.ensures ∙ ap player_of (player_room c.args.file.now)
