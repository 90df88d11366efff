-- `unique::check_step` meets its contract: the clause is assumed and the hints followed on the cells that the leaf decides, and where they come to no end the cells tell.
-- Assumes nothing.
use Rattle.std.proofs.Common.{rules, ◌≤◌, ◌≡◌, ◌∙◌, sym, refl}
use Rattle.refusal.specs.Refusals.{number_of}
use Rattle.certificate.specs.Inside.{refusal_number}
use Rattle.sizes.specs.LeafOf.{leaf_of}
use Rattle.calls.proofs.Opening.{lent_size}
use Rattle.unique.proofs.LentLaws.{step_clash, step_refused, step_told, step_open}
use Rattle.unique.proofs.check_step.Goals as goal

pub returns-in_err-take_step : goal.returns-in_err-take_step
returns-in_err-take_step c =
    let e : refusal_number c.from_residual.result ≡ number_of c.in_err-take_step.field-0.0 = search rules in
    let late : 26 ≤ number_of c.in_err-take_step.field-0.0 = search rules in
    e ∙ step_refused (leaf_of c.args.leaf.now) c.base_cells-cells.ensures c.args.certificate.now c.args.at (lent_size c.args.leaf.now c.size.ensures.value c.grid.ensures) c.in_err-take_step.ensures.closing late

pub returns-in-Contradiction : goal.returns-in-Contradiction
returns-in-Contradiction c =
    step_clash (leaf_of c.args.leaf.now) c.base_cells-cells.ensures c.args.certificate.now c.args.at (lent_size c.args.leaf.now c.size.ensures.value c.grid.ensures) (rw c.in-Contradiction.is at c.in_ok-take_step.ensures.closing) refl

pub returns-then-is_refuted : goal.returns-then-is_refuted
returns-then-is_refuted c =
    step_told (leaf_of c.args.leaf.now) c.base_cells-cells.ensures c.args.certificate.now c.args.at (lent_size c.args.leaf.now c.size.ensures.value c.grid.ensures) (rw c.in-Undecided.is at c.in_ok-take_step.ensures.closing) refl
    (sym c.if-is_refuted.true ∙ c.is_refuted.ensures)

pub returns-else-is_refuted : goal.returns-else-is_refuted
returns-else-is_refuted c =
    step_open (leaf_of c.args.leaf.now) c.base_cells-cells.ensures c.args.certificate.now c.args.at (lent_size c.args.leaf.now c.size.ensures.value c.grid.ensures) (rw c.in-Undecided.is at c.in_ok-take_step.ensures.closing) refl
    (sym c.if-is_refuted.false ∙ c.is_refuted.ensures)
