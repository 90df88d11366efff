-- `finds::find_differs` holds the answer and then the whole buffer against what the list says.
-- Assumes nothing.
use native.Mathlib.Omega.{arith}
use lib.ListN.{replicate}
use Rattle.finds.proofs.FindLaws.{left_board}
use Rattle.finds.proofs.find_differs.Goals as goal

pub returns-clause-left : goal.returns-clause-left
returns-clause-left c =
    let a = c.args in
    left_board a.board a.find.player a.find.size (replicate 4096 65535) (omega (arith, a.find.room)) c.make-asked.ensures.1

pub returns-clause-told : goal.returns-clause-told
returns-clause-told c = rw (c.make-asked.ensures.0, c.make-asked.ensures.2) at c.finding_differs.ensures
