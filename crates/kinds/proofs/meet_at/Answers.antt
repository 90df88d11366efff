-- `kinds::meet_at` meets its contract: one more neighbour, in an arrow block or in none.
-- Assumes nothing.
use Rattle.kinds.proofs.Owners.{Owned-hit, Owned-miss}
use Rattle.kinds.proofs.meet_at.Goals as goal

pub returns-in-Some : goal.returns-in-Some
returns-in-Some c = λ js q. rw c.meet.ensures (Owned-hit _ _ js _ _ c.in-Some.ensures q)

pub returns-in-None : goal.returns-in-None
returns-in-None c = λ js q. Owned-miss _ _ js _ c.in-None.ensures q
