-- `host_board::open_in` meets its contract: the edition is narrowed.
-- Assumes nothing.
use Rattle.host_board.proofs.LentLaws.{narrowed}
use Rattle.host_board.proofs.open_in.Goals as goal

pub returns : goal.returns
returns c =
    let a = c.args in
    let same = narrowed c.try_from.result a.«record».now a.edition a.sizes.now c.try_from.ensures in
    rw (c.unwrap_or-edition.ensures, same) at c.open_in.ensures
