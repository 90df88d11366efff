-- `file::Tail::solution` meets its contract: the first i cells are in the array.
-- Assumes nothing.
use Prim.Native.Nat.{ℕ, ◌+◌, ◌*◌}
use native.Mathlib.Omega.{arith}
use mathlib.Core.Path.{ap, ◌∙◌}
use mathlib.Core.List.{List}
use lib.ListN.{set, drop}
use Rattle.grid.proofs.FilledLaws.{filled_none}
use Rattle.fields.specs.Fields.{bit}
use Rattle.fields.proofs.OutcomeLaws.{number-lt}
use Rattle.file.specs.File.{solution_in}
use Rattle.file.proofs.AnswerLaws.{solution_more}
use Rattle.file.proofs.Tail.solution.Goals as goal

pub loop-i-init : goal.loop-i-init
unfolding solution_in
loop-i-init c = filled_none 0 (λ j. bit (drop c.args.self.now.from c.args.self.now.file.now) (3 + j))

pub overflow_cast-cells : goal.overflow_cast-cells
overflow_cast-cells c =
    let a = c.args.self.now in
    omega (arith, c.number_at.ensures, number-lt a.file.now (8 * a.from + 3 + c.loop-i.i) 1)

pub loop-i-preserved : goal.loop-i-preserved
loop-i-preserved c = ap (λ (x : List ℕ). set x c.loop-i.i c.number_at.result) c.loop-i.invariant ∙ solution_more c.args.self.now.file.now c.args.self.now.from c.loop-i.i (omega arith) c.number_at.ensures
