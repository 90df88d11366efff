-- `certain::beyond` meets its contract: an undecided cell is met, or the full board, which is noted where the test passes.
-- Assumes nothing.
use Rattle.std.proofs.Common.{rules, arith, ◌<◌}
use Rattle.std.specs.Prelude.{Some, None}
use mathlib.Core.Path.{refl, sym, subst, ◌∙◌}
use Rattle.finished.specs.Lent.{passes}
use Rattle.certain.specs.Inside.{Beyond, undecided, noted, passed}
use Rattle.certain.proofs.beyond.Goals as goal

pub returns-in-Some-clause-met : goal.returns-in-Some-clause-met
returns-in-Some-clause-met c =
    let a = c.args in
    let below : c.in-Some.i < c.size-n.result = search rules in
    subst (λ n. Beyond n a.cells.now (passes a.leaf.now.problem.now a.cells.now) a.facts.now a.facts.now (Some c.in-Some.i)) (rw (c.grid.ensures.0, c.grid.ensures.1) at c.size-n.ensures.value)
    (undecided c.in-Some.ensures.lowest (λ e. omega (arith, e, below)) refl)

pub returns-then-counts-clause-met : goal.returns-then-counts-clause-met
returns-then-counts-clause-met c =
    let a = c.args in
    subst (λ n. Beyond n a.cells.now (passes a.leaf.now.problem.now a.cells.now) a.facts.now c.note_board.new.facts None) (rw (c.grid.ensures.0, c.grid.ensures.1) at c.size-n.ensures.value)
    (noted (sym c.in_default.ensures.lowest) (sym c.all_but_rules-counts.ensures ∙ c.if-counts.true) c.note_board.ensures)

pub returns-else-counts-clause-met : goal.returns-else-counts-clause-met
returns-else-counts-clause-met c =
    let a = c.args in
    subst (λ n. Beyond n a.cells.now (passes a.leaf.now.problem.now a.cells.now) a.facts.now a.facts.now None) (rw (c.grid.ensures.0, c.grid.ensures.1) at c.size-n.ensures.value)
    (passed (sym c.in_default.ensures.lowest) (sym c.all_but_rules-counts.ensures ∙ c.if-counts.false) refl)
