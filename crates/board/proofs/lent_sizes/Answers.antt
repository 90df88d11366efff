-- `board::lent_sizes` meets its contract: where the array of the lowest sizes is empty, no cell is lent.
-- Assumes nothing.
use native.Mathlib.Omega.{arith}
use mathlib.Core.Path.{refl, sym, ◌∙◌}
use Rattle.board.specs.Inside.{lent_sizes}
use Rattle.board.proofs.lent_sizes.Goals as goal

pub returns-then-zeros : goal.returns-then-zeros
unfolding lent_sizes
returns-then-zeros c = rw (sym c.zeros.ensures ∙ c.if-zeros.true) (refl, omega arith)

pub returns : goal.returns
unfolding lent_sizes
returns c = rw (sym c.zeros.ensures ∙ c.if-zeros.false) (refl, omega arith)
