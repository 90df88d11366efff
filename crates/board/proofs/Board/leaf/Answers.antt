-- `board::Board::leaf` meets its contract: a board that is formed is lent with its sizes.
-- Assumes nothing.
use mathlib.Core.Path.{◌≡◌, refl, sym, ap, ◌∙◌}
use mathlib.Core.Bool.{true}
use Rattle.board.specs.Form.{well_formed}
use Rattle.board.specs.Inside.{lent_sizes}
use Rattle.board.proofs.BoardArrays.{board_sizes, board_arrays, board_edition, Lent-by, board_lent, lent_leaf}
use Rattle.board.proofs.Board.leaf.Goals as goal

pub invariant_of-result : goal.invariant_of-result
invariant_of-result c =
    let b = c.args.self.now in
    let formed : well_formed b ≡ true = sym c.is_formed.ensures ∙ c.if-not-is_formed.false in
    let z = board_sizes b formed in
    record { tall = z.0; wide = z.1; arrows = board_arrays b formed; played = board_edition b formed; sized = board_lent b formed (Lent-by b (c.lent_sizes-n.ensures.0 ∙ ap (lent_sizes b.lowest) c.size.ensures.value) refl refl) }

pub returns-clause-lent : goal.returns-clause-lent
returns-clause-lent c =
    let b = c.args.self.now in
    let formed : well_formed b ≡ true = sym c.is_formed.ensures ∙ c.if-not-is_formed.false in
    (formed, lent_leaf b formed (Lent-by b (c.lent_sizes-n.ensures.0 ∙ ap (lent_sizes b.lowest) c.size.ensures.value) refl refl), refl)
