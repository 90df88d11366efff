-- What `CheckCertificate` says of a leaf: 23, 24 and 25 come in this order, then what the steps come to.
-- Assumes nothing.
use Rattle.std.proofs.Common.{arith}
use mathlib.Core.Path.{refl, sym, ◌∙◌}
use Rattle.sizes.specs.LeafOf.{leaf_of}
use Rattle.calls.proofs.Opening.{returned_fault, lent_size}
use Rattle.certificate.specs.Certificate.{words_of}
use Rattle.unique.proofs.HeadLaws.{Head-is}
use Rattle.unique.proofs.StepLaws.{refused_counts}
use Rattle.unique.proofs.LentLaws.{claimed_tested, check_23, check_24, check_25, check_refused, check_accepted}
use Rattle.unique.proofs.CheckCertificateQuestion.ask.Goals as goal

pub returns-then-not-is_whole_words-clause-told : goal.returns-then-not-is_whole_words-clause-told
returns-then-not-is_whole_words-clause-told c = (check_23 (leaf_of c.args.leaf.now) c.args.self.now.certificate.now (sym c.is_whole_words.ensures ∙ c.if-not-is_whole_words.true), refl)

pub returns-then-not-is_headed-clause-told : goal.returns-then-not-is_headed-clause-told
returns-then-not-is_headed-clause-told c =
    let n = lent_size c.args.leaf.now c.size-n.ensures.value c.grid.ensures in
    let l = leaf_of c.args.leaf.now in
    (check_24 l c.args.self.now.certificate.now (sym c.is_whole_words.ensures ∙ c.if-not-is_whole_words.false) (rw (n, c.new-certificate.ensures) at (sym c.is_headed.ensures ∙ c.if-not-is_headed.true)), refl)

pub claimed_cells-solution-requires : goal.claimed_cells-solution-requires
claimed_cells-solution-requires c = (c.size-n.ensures.small, (Head-is c.size-n.result c.new-certificate.result (sym c.is_headed.ensures ∙ c.if-not-is_headed.false)).room)

pub returns-then-not-is_finished-clause-told : goal.returns-then-not-is_finished-clause-told
returns-then-not-is_finished-clause-told c =
    let w = c.new-certificate.ensures in
    let l = leaf_of c.args.leaf.now in
    let n = lent_size c.args.leaf.now c.size-n.ensures.value c.grid.ensures in
    let tested = claimed_tested c.args.leaf.now (words_of c.args.self.now.certificate.now) n (rw w at c.claimed_cells-solution.ensures) c.is_finished.ensures in
    (check_25 l c.args.self.now.certificate.now (sym c.is_whole_words.ensures ∙ c.if-not-is_whole_words.false) (rw (n, w) at (sym c.is_headed.ensures ∙ c.if-not-is_headed.false)) (sym tested ∙ c.if-not-is_finished.true), refl)

pub returns-in_err-check_steps-clause-told : goal.returns-in_err-check_steps-clause-told
returns-in_err-check_steps-clause-told c =
    let w = c.new-certificate.ensures in
    let l = leaf_of c.args.leaf.now in
    let n = lent_size c.args.leaf.now c.size-n.ensures.value c.grid.ensures in
    let tested = claimed_tested c.args.leaf.now (words_of c.args.self.now.certificate.now) n (rw w at c.claimed_cells-solution.ensures) c.is_finished.ensures in
    let r = c.in_err-check_steps.field-0.0 in (
      returned_fault c.from_residual.result r c.from_residual.ensures.1
          ∙ check_refused l c.args.self.now.certificate.now (sym c.is_whole_words.ensures ∙ c.if-not-is_whole_words.false) (rw (n, w) at (sym c.is_headed.ensures ∙ c.if-not-is_headed.false)) (sym tested ∙ c.if-not-is_finished.false)
          (rw w at c.in_err-check_steps.ensures) (λ z. omega (arith, z, refused_counts r)),
      refl,
    )

pub returns-clause-told : goal.returns-clause-told
returns-clause-told c =
    let w = c.new-certificate.ensures in
    let l = leaf_of c.args.leaf.now in
    let n = lent_size c.args.leaf.now c.size-n.ensures.value c.grid.ensures in
    let tested = claimed_tested c.args.leaf.now (words_of c.args.self.now.certificate.now) n (rw w at c.claimed_cells-solution.ensures) c.is_finished.ensures in (
      check_accepted l c.args.self.now.certificate.now (sym c.is_whole_words.ensures ∙ c.if-not-is_whole_words.false) (rw (n, w) at (sym c.is_headed.ensures ∙ c.if-not-is_headed.false)) (sym tested ∙ c.if-not-is_finished.false)
          (rw w at c.in_ok-check_steps.ensures) refl,
      refl,
    )
