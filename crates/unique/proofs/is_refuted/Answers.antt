-- `unique::is_refuted` meets its contract: the arrows are looked at first, and then the reason tells.
-- Assumes nothing.
use Rattle.std.proofs.Common.{rules, sym, ◌∙◌}
use Rattle.grid.specs.Cells.{potential, empty}
use Rattle.unique.specs.Unique.{two_open}
use Rattle.unique.proofs.LentLaws.{refuted_lonely, refuted_by}
use Rattle.unique.proofs.is_refuted.Goals as goal

pub returns-then-not-two_on_each : goal.returns-then-not-two_on_each
unfolding potential empty two_open
returns-then-not-two_on_each c = refuted_lonely c.args.leaf.now c.args.cells.now (sym (c.two_on_each.ensures (potential c.args.cells.now) (λ i h told p. search rules)) ∙ c.if-not-two_on_each.true)

pub returns : goal.returns
unfolding potential empty two_open
returns c =
    c.is_some.ensures
    ∙ refuted_by c.args.leaf.now c.args.cells.now (sym (c.two_on_each.ensures (potential c.args.cells.now) (λ i h told p. search rules)) ∙ c.if-not-two_on_each.false) c.find_inconsistency.ensures
