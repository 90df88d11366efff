-- `unique::check_steps` meets its contract: what the steps from here on come to is what they all come to.
-- Assumes nothing.
use Rattle.std.proofs.Common.{rules, arith, ℕ, ◌<◌, ◌≡◌, ◌∙◌, refl, sym, length}
use mathlib.Core.Path.{subst}
use Rattle.refusal.specs.Refusals.{number_of}
use Rattle.certificate.specs.Inside.{refusal_number}
use Rattle.sizes.specs.LeafOf.{leaf_of}
use Rattle.calls.proofs.Opening.{lent_size}
use Rattle.unique.specs.Unique.{steps_of}
use Rattle.unique.proofs.StepLaws.{closed_whole, closed_ends, closed_tagged, refused_counts, Comes, come_past, come_refused, come_done, come_more, come_next}
use Rattle.unique.proofs.check_steps.Goals as goal

pub loop-at-init : goal.loop-at-init
loop-at-init c = record { fuel = length c.args.certificate.now; enough = omega arith; come = rw (lent_size c.args.leaf.now c.size-at.ensures.value c.grid.ensures) refl }

pub returns-in_err-check_step : goal.returns-in_err-check_step
returns-in_err-check_step c =
    let r = c.in_err-check_step.field-0.0 in
    let e : refusal_number c.from_residual.result ≡ number_of r = search rules in
    let here : c.loop-at.at < length c.args.certificate.now = omega (arith, c.len-count.ensures, c.loop-at-test.true) in
    let q = c.in_err-check_step.ensures in
    e ∙ q ∙ come_refused c.loop-at.invariant here (λ z. omega (arith, q, z, refused_counts r))

pub unwrap-next-requires : goal.unwrap-next-requires
unwrap-next-requires c = rw (c.step_end.ensures ∙ closed_whole (leaf_of c.args.leaf.now) c.args.certificate.now c.loop-at.at c.in_ok-check_step.ensures) refl

pub returns-then-next-count : goal.returns-then-next-count
returns-then-next-count c =
    let ws = c.args.certificate.now in
    let here : c.loop-at.at < length ws = omega (arith, c.len-count.ensures, c.loop-at-test.true) in
    let e = c.in_ok-check_step.ensures in
    come_done c.loop-at.invariant here (sym e) (omega (arith, c.word.ensures.word, c.if-word-eq-TAG.true))
    (closed_ends (leaf_of c.args.leaf.now) ws c.loop-at.at e c.unwrap-next.result (sym c.step_end.ensures ∙ c.unwrap-next.ensures) ∙ c.if-next-count.true ∙ c.len-count.ensures)

pub returns-then-word-eq-TAG : goal.returns-then-word-eq-TAG
returns-then-word-eq-TAG c =
    let ws = c.args.certificate.now in
    let here : c.loop-at.at < length ws = omega (arith, c.len-count.ensures, c.loop-at-test.true) in
    let e = c.in_ok-check_step.ensures in
    come_more c.loop-at.invariant here (sym e) (omega (arith, c.word.ensures.word, c.if-word-eq-TAG.true))
    (λ z. c.if-next-count.false (sym (closed_ends (leaf_of c.args.leaf.now) ws c.loop-at.at e c.unwrap-next.result (sym c.step_end.ensures ∙ c.unwrap-next.ensures)) ∙ z ∙ sym c.len-count.ensures))

pub loop-at-preserved : goal.loop-at-preserved
loop-at-preserved c =
    let l = leaf_of c.args.leaf.now in
    let ws = c.args.certificate.now in
    let here : c.loop-at.at < length ws = omega (arith, c.len-count.ensures, c.loop-at-test.true) in
    let e = c.in_ok-check_step.ensures in
    subst (λ (z : ℕ). Comes l ws z (steps_of l ws)) (closed_ends l ws c.loop-at.at e c.unwrap-next.result (sym c.step_end.ensures ∙ c.unwrap-next.ensures))
    (come_next c.loop-at.invariant here (sym e) (λ z. c.if-word-eq-TAG.false (omega (arith, c.word.ensures.word, closed_tagged l ws c.loop-at.at e))))

pub returns : goal.returns
returns c = come_past c.loop-at.invariant (omega (arith, c.len-count.ensures, c.loop-at-test.false))
