-- `find_replay::entry_differs` meets its contract: where no record and no decision is refused, the board decides.
-- Assumes nothing.
use Rattle.find_replay.proofs.EntryLaws.{board_decides}
use Rattle.find_replay.proofs.entry_differs.Goals as goal

pub returns : goal.returns
returns c =
    let a = c.args in
    board_decides a.«record».now a.edition a.decisions.now a.literals.from.list.now a.literals.from.at a.literals.count (rw c.in-Ok.is at c.open.ensures) (rw c.in-Ok-decide_all.is at c.decide_all.ensures) c.board_differs.result c.board_differs.ensures
