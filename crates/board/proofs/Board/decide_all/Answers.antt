-- `board::Board::decide_all` meets its contract.
-- Assumes nothing.
use mathlib.Core.Path.{◌≡◌, sym, ap, ◌∙◌}
use mathlib.Core.Bool.{true}
use Rattle.std.proofs.lemmas.Result.{err_from_is_err_and}
use Rattle.grid.specs.Grid.{size}
use Rattle.record.specs.Problem.{grid_of}
use Rattle.board.specs.Answers.{decided_as}
use Rattle.board.specs.Form.{well_formed}
use Rattle.board.proofs.Fold.{all_done, all_refused}
use Rattle.board.proofs.Board.decide_all.Goals as goal

pub returns-in_err-place_all : goal.returns-in_err-place_all
unfolding grid_of size
returns-in_err-place_all c =
    let b = c.args.self in
    let well : well_formed b ≡ true = sym c.is_formed.ensures ∙ c.if-not-is_formed.false in
    let p = err_from_is_err_and c.from_residual.result c.from_residual.ensures.1 in
    rw (p.1, p.2) (ap decided_as (all_refused b c.args.decisions.now c.place_all.new.cells c.place_all.new.order well (c.in_err-place_all.ensures b (sym c.size-n.ensures.value) well)))

pub returns : goal.returns
unfolding grid_of size
returns c =
    let b = c.args.self in
    let well : well_formed b ≡ true = sym c.is_formed.ensures ∙ c.if-not-is_formed.false in
    ap decided_as (all_done b c.args.decisions.now c.place_all.new.cells c.place_all.new.order well (c.in_ok-place_all.ensures b (sym c.size-n.ensures.value) well))
