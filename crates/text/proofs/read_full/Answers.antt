-- `text::read_full` meets its contract: each turn reads on behind what was read before it.
-- Assumes nothing.
use borrow.Author.Rules.{rules}
use Rattle.text.proofs.ReadLaws.{taken_on}
use Rattle.text.proofs.read_full.Goals as goal

pub loop-n-preserved : goal.loop-n-preserved
loop-n-preserved g c =
    let before = c.loop-n.invariant in
    let piece = c.in_ok-count.ensures in
    (search rules, search rules, taken_on c.loop-n.n _ c.in_ok-count.count c.loop-n.room c.read_once.new.room before.0 piece.within _ _ _ before.2 piece.taken)
