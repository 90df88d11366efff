-- `file::Tail::grade` meets its contract: three bits make a number below 8.
-- Assumes nothing.
use Prim.Native.Nat.{ℕ, ◌+◌, ◌*◌}
use native.Mathlib.Omega.{arith}
use mathlib.Core.Path.{◌≡◌, sym, ap, ◌∙◌}
use Rattle.fields.specs.Fields.{number}
use Rattle.fields.proofs.OutcomeLaws.{number-lt}
use Rattle.file.specs.File.{grade_in}
use Rattle.file.proofs.TailLaws.{number-drop}
use Rattle.file.proofs.Tail.grade.Goals as goal

pub overflow_cast-result : goal.overflow_cast-result
overflow_cast-result c =
    let a = c.args.self.now in omega (arith, c.number_at.ensures, number-lt a.file.now (8 * a.from) 3)

pub returns : goal.returns
unfolding grade_in
returns c =
    let a = c.args.self.now in
    let z : 8 * a.from + 0 ≡ 8 * a.from = omega arith in
    c.number_at.ensures ∙ sym (number-drop a.file.now a.from 0 3 ∙ ap (λ (k : ℕ). number a.file.now k 3) z)
