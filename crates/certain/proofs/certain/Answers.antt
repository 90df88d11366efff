-- `certain::certain` meets its contract: the board lends its leaf, and that tells.
-- Assumes nothing.
use mathlib.Core.Path.{sym, ◌∙◌}
use Rattle.grid.specs.Grid.{size}
use Rattle.record.specs.Problem.{grid_of}
use Rattle.form.proofs.ProblemForm.{is_Formed}
use Rattle.board.proofs.BoardForm.{Whole-is}
use Rattle.reasons.specs.Find.{cells_on}
use Rattle.certain.proofs.AnswerLaws.{board_States, certain_refused, certain_well}
use Rattle.certain.proofs.certain.Goals as goal

pub returns-in_err-leaf : goal.returns-in_err-leaf
returns-in_err-leaf c = certain_refused c.args.board c.args.budget _ c.in_err-leaf.ensures.refused.0 c.from_residual.ensures.1 c.in_err-leaf.ensures.refused.1

pub certain_cells-requires-clause-formed : goal.certain_cells-requires-clause-formed
certain_cells-requires-clause-formed c =
    let b = c.args.board in
    let lent = c.in_ok-leaf.ensures.lent in
    rw lent.2 (is_Formed b.problem (Whole-is b lent.0).problem)

pub certain_cells-requires-clause-states : goal.certain_cells-requires-clause-states
certain_cells-requires-clause-states c = board_States c.args.board c.in_ok-leaf.ensures.lent.0

pub returns : goal.returns
unfolding cells_on grid_of size
returns c =
    let lent = c.in_ok-leaf.ensures.lent in
    rw (lent.1, lent.2) at c.certain_cells.ensures.facts ∙ sym (certain_well c.args.board c.args.budget lent.0)
