-- `board::Board::is_formed` meets its contract: each part of the board is tested in turn.
-- Assumes nothing.
use native.Mathlib.Omega.{arith}
use borrow.Author.Rules.{rules}
use lib.ListN.{get_or}
use mathlib.Core.Path.{◌≡◌, sym, ◌∙◌}
use mathlib.Core.Bool.{true}
use mir.Syntax.{w16}
use mir.Val.{Fits}
use Rattle.grid.specs.Grid.{size}
use Rattle.record.specs.Problem.{grid_of, puzzle_of}
use Rattle.form.specs.Form.{problem_formed}
use Rattle.board.specs.Form.{Counts, sizes_good}
use Rattle.board.proofs.Verdicts.{edition_none, edition_one, board_edition, board_Drawn, board_sizes, board_area, sizes_cells, board_decisions}
use Rattle.board.proofs.Board.is_formed.Goals as goal

pub returns-then-is_err : goal.returns-then-is_err
returns-then-is_err c = board_edition c.args.self.now (edition_none _ c.try_from.result c.try_from.ensures (sym c.is_err.ensures.value ∙ c.if-is_err.true))

pub may_stand-requires : goal.may_stand-requires
may_stand-requires c =
    let b = c.args.self.now in
    let formed : problem_formed b.problem ≡ true = sym c.is_formed.ensures ∙ c.if-not-is_formed.false in
    record { drawn = (puzzle_of b.problem, board_Drawn b formed) }

pub returns-then-not-may_stand : goal.returns-then-not-may_stand
returns-then-not-may_stand c =
    let b = c.args.self.now in
    let formed : problem_formed b.problem ≡ true = sym c.is_formed.ensures ∙ c.if-not-is_formed.false in
    let sized : c.may_stand.result ≡ sizes_good b = c.may_stand.ensures (puzzle_of b.problem) (board_Drawn b formed) ∙ sizes_cells b (search rules) (search rules) in
    board_sizes b (sym sized ∙ c.if-not-may_stand.true)

pub overflow_mul-n : goal.overflow_mul-n
overflow_mul-n c =
    let formed : problem_formed c.args.self.now.problem ≡ true = sym c.is_formed.ensures ∙ c.if-not-is_formed.false in
    omega (arith, board_area c.args.self.now formed)

pub good_decisions-requires : goal.good_decisions-requires
good_decisions-requires c =
    let formed : problem_formed c.args.self.now.problem ≡ true = sym c.is_formed.ensures ∙ c.if-not-is_formed.false in
    board_area c.args.self.now formed

pub returns : goal.returns
unfolding grid_of size
returns c =
    let b = c.args.self.now in
    let formed : problem_formed b.problem ≡ true = sym c.is_formed.ensures ∙ c.if-not-is_formed.false in
    let sized : c.may_stand.result ≡ sizes_good b = c.may_stand.ensures (puzzle_of b.problem) (board_Drawn b formed) ∙ sizes_cells b (search rules) (search rules) in
    let counts : Counts b.hints = record { four = search rules; low = λ q. let f : Fits w16 (get_or b.hints q 0) = search rules in omega (arith, f.fits) } in
    c.good_decisions.ensures
    ∙ board_decisions b formed (edition_one _ c.try_from.result c.try_from.ensures (sym c.is_err.ensures.value ∙ c.if-is_err.false)) (sym sized ∙ c.if-not-may_stand.false) (search rules) (search rules) counts
