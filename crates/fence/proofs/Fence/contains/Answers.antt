-- `fence::Fence::contains` meets its contract: the index stands at its place or nowhere.
-- Assumes nothing.
use mathlib.Core.Path.{sym}
use native.Mathlib.Omega.{arith}
use Rattle.fence.proofs.Insertion.{key_index}
use Rattle.fence.proofs.Fences.{there_not, there_by}
use Rattle.fence.proofs.Fence.contains.Goals as goal

pub returns-then-self-p : goal.returns-then-self-p
returns-then-self-p c = λ kinds base n t o l. sym (there_not o _ l _ c.place-p.ensures (λ h. absurd (omega (arith, h, c.if-self-p.true))))

pub returns : goal.returns
returns c = λ kinds base n t o l. rw (key_index _ _ c.from.ensures c.from.result.few) at (there_by o _ l _ c.place-p.ensures c.if-self-p.false)
