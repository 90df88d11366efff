-- `board::Board::open` meets its contract: what is opened over a board, by value.
-- Assumes nothing.
use Rattle.board.proofs.OpenLaws.{done_opened}
use Rattle.board.proofs.Board.open.Goals as goal

pub returns : goal.returns
returns c =
    let a = c.args in
    done_opened c.blank-board.result a.bytes.now a.edition a.sizes.now c.in_ok-open_in.ensures.0 c.in_ok-open_in.ensures.1
