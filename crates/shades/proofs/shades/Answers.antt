-- `shades::shades` meets its contract: the board is tested, and then the states of its cells tell.
-- Assumes nothing.
use mathlib.Core.Path.{sym, ◌∙◌}
use Rattle.record.specs.Problem.{grid_of}
use Rattle.board.proofs.BoardForm.{Whole-is}
use Rattle.shades.proofs.AnswerLaws.{shades_ill, shades_well}
use Rattle.shades.proofs.shades.Goals as goal

pub returns-then-not-is_formed : goal.returns-then-not-is_formed
returns-then-not-is_formed c = shades_ill c.args.board (sym c.is_formed.ensures ∙ c.if-not-is_formed.true)

pub grid-requires : goal.grid-requires
unfolding grid_of
grid-requires c = (Whole-is c.args.board (sym c.is_formed.ensures ∙ c.if-not-is_formed.false)).problem.sizes.high

pub returns : goal.returns
returns c =
    shades_well c.args.board (sym c.is_formed.ensures ∙ c.if-not-is_formed.false) (rw (c.grid.ensures.height, c.grid.ensures.width) at c.shade_cells.ensures)
