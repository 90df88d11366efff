-- `literals::Literals::push` meets its contract: the literal's number stands behind those that are there.
-- Assumes nothing.
use mathlib.Core.Path.{refl}
use Rattle.literals.proofs.HeldLaws.{holds_more}
use Rattle.literals.proofs.Literals.push.Goals as goal

pub returns-clause-written : goal.returns-clause-written
returns-clause-written c = λ lent before h. holds_more h (c.args.literal.index, c.args.literal.value) c.requires refl (rw c.from.ensures refl) refl
