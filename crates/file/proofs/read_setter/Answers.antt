-- `file::read_setter` meets its contract: there is room for the grade and 1,024 cells.
-- Assumes nothing.
use mathlib.Core.Path.{ap, ◌∙◌}
use Rattle.file.specs.Answers.{setter_of}
use Rattle.file.proofs.AnswerLaws.{setter_room}
use Rattle.file.proofs.read_setter.Goals as goal

pub returns : goal.returns
returns c = c.setter_within.ensures ∙ ap setter_of (setter_room c.args.edition c.args.file.now)
