-- `pairs::fourth::Fourth::check` meets its contract: reason 4 (a) and, in edition 1, then (b).
-- Assumes nothing.
use Rattle.pairs.proofs.FourthLaws.{is_growth, growth_first, gap_next}
use Rattle.pairs.proofs.fourth.FourthPairReasonFloats.check.Goals as goal

pub returns-then-self-ne1 : goal.returns-then-self-ne1
returns-then-self-ne1 c = λ lines k. is_growth _ _ _ c.if-self-ne1.true (c.check-finding.ensures lines k)

pub returns-in-Some : goal.returns-in-Some
returns-in-Some c = λ lines k. growth_first _ _ _ (c.in-Some.ensures lines k)

pub returns : goal.returns
returns c = λ lines k. gap_next _ _ _ c.if-self-ne1.false (c.in_default.ensures lines k) (c.check.ensures lines k)
