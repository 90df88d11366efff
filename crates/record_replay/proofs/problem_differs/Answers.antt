-- `record_replay::problem_differs` meets its contract: where all that stands before the arrows is as the list says, they decide.
-- Assumes nothing.
use Rattle.std.proofs.Common.{rules, ◌+◌, ◌≡◌, get_or}
use native.Mathlib.Omega.{arith}
use mathlib.Core.Bool.{true≢false}
use mathlib.Core.Path.{sym, ◌∙◌}
use Rattle.replay.specs.Lists.{number_at, byte_in, differs}
use Rattle.replay.proofs.ComparisonLaws.{numbers_told}
use Rattle.record_replay.proofs.ProblemLaws.{arrows_decide, behind_left}
use Rattle.record_replay.proofs.problem_differs.Goals as goal
use Rattle.record_replay.proofs.problem_differs.Goals.{then-problem-byte_at, else-problem-byte_at, then-problem-byte_at-2, else-problem-byte_at-2, then-problem-count, else-problem-count}

pub returns-else-cells_differ : goal.returns-else-cells_differ
returns-else-cells_differ c =
    let p = c.args.problem in
    let list = c.args.said.list.now in
    let at = c.args.said.at in
    let n = c.area-n.result in
    let count = c.number_at-count.result in
    let behind : at + 4 + n ≡ at + (4 + n) = omega arith in
    let arrows = behind_left list p.arrows p.ends at (4 + n) c.skip.new.self.at 0 0 count c.skip.ensures.inside c.skip.ensures.short c.arrows_differ.result (rw c.skip.ensures.same at c.arrows_differ.ensures) in
    let height : c.byte_at.result ≡ get_or list at 0 = search rules in
    let told : count ≡ number_at list (at + 2 + n) = search rules in
    elim c.if-problem-count.branch [
      | then-problem-count x ↦ absurd (true≢false (sym x.if-problem-count.true ∙ sym x.value-is ∙ c.if-cells_differ.false))
      | else-problem-count x ↦ elim c.if-problem-byte_at-2.branch [
        | then-problem-byte_at-2 w ↦ absurd (true≢false (sym w.if-problem-byte_at-2.true ∙ sym w.value-is ∙ x.if-problem-count.false))
        | else-problem-byte_at-2 w ↦ elim c.if-problem-byte_at.branch [
          | then-problem-byte_at v ↦ absurd (v.if-problem-byte_at.true ((numbers_told p.height c.byte_at.result).0 (sym v.value-is ∙ w.if-problem-byte_at-2.false)))
          | else-problem-byte_at v ↦
              let width = (numbers_told p.width v.byte_at-else-problem-byte_at.result).0 (sym v.value-is ∙ w.if-problem-byte_at-2.false) in
              let number = (numbers_told p.count count).0 (sym w.value-is ∙ x.if-problem-count.false) in
              let codes : x.cells_differ.result ≡ differs p.cells (byte_in list (at + 2) n 0 0) 0 = rw (x.on.ensures.same, x.on.ensures.on) at x.cells_differ.ensures in
              arrows_decide list at p n c.area-n.ensures.0 count told c.if-count-gt1024.false _ height v.if-problem-byte_at.false _ v.byte_at-else-problem-byte_at.ensures.0 width number _ codes
              (sym x.value-is ∙ c.if-cells_differ.false) c.arrows_differ.result (rw behind arrows)
        ]
      ]
    ]
