-- `finished::all_but_rules` meets its contract: the cells are tested, and their squares counted.
-- Assumes nothing.
use borrow.Author.Rules.{rules}
use mathlib.Core.Path.{sym, ◌∙◌}
use Rattle.grid.specs.Cells.{square}
use Rattle.finished.specs.Finished.{two_squares}
use Rattle.finished.proofs.all_but_rules.Goals as goal

pub returns-then-all_keep_given : goal.returns-then-all_keep_given
unfolding square two_squares
returns-then-all_keep_given c = rw (sym c.all_keep_given.ensures ∙ c.if-all_keep_given.true) (c.two_on_each.ensures (square c.args.cells.now) (λ i h told p. search rules))
