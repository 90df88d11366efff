-- `finds::finding_differs` meets its contract: the answer decides, and where it is the one that is said the buffer.
-- Assumes nothing.
use Rattle.replay.proofs.ComparisonLaws.{then_differs}
use Rattle.finds.proofs.FindLaws.{counts_decide, buffers_differ}
use Rattle.finds.proofs.finding_differs.Goals as goal

pub returns-else-answer_differs-2 : goal.returns-else-answer_differs-2
returns-else-answer_differs-2 c =
    rw c.in-Err.is (then_differs ((c.answer_differs-in-Err.ensures counts_decide).0 c.if-answer_differs-2.false) c.ne.result (buffers_differ _ _ c.ne.result c.ne.ensures))
