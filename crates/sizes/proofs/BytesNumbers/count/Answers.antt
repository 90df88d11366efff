-- `count` of bytes meets its contract.
-- Assumes nothing.
use Rattle.sizes.proofs.NumbersLaws.{numbers_odd, numbers_even}
use Rattle.sizes.proofs.BytesNumbers.count.Goals as goal

pub returns-then-self-ne0 : goal.returns-then-self-ne0
returns-then-self-ne0 c = numbers_odd c.args.self.now.0.now c.if-self-ne0.true

pub returns : goal.returns
returns c = numbers_even c.args.self.now.0.now c.if-self-ne0.false
