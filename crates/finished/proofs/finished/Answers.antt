-- `finished::finished` meets its contract: the board lends its leaf, and then that tells.
-- Assumes nothing.
use mathlib.Core.Path.{ap, ◌∙◌}
use Rattle.std.proofs.lemmas.Result.{err_from_is_err_and}
use Rattle.form.specs.Form.{problem_formed}
use Rattle.form.proofs.ProblemForm.{is_Formed}
use Rattle.board.proofs.BoardForm.{Whole-is}
use Rattle.finished.proofs.VerdictLaws.{finished_ill, finished_told}
use Rattle.finished.proofs.finished.Goals as goal

pub returns-in_err-leaf : goal.returns-in_err-leaf
returns-in_err-leaf c =
    let e = c.in_err-leaf.ensures.refused in
    let p = err_from_is_err_and c.from_residual.result c.from_residual.ensures.1 in
    rw (p.1, p.2, e.1) (finished_ill c.args.board e.0)

pub is_finished-requires : goal.is_finished-requires
is_finished-requires c =
    let b = c.args.board in
    let e = c.in_ok-leaf.ensures.lent in
    record { formed = ap problem_formed e.2 ∙ is_Formed b.problem (Whole-is b e.0).problem }

pub returns : goal.returns
returns c =
    let e = c.in_ok-leaf.ensures.lent in
    finished_told c.args.board e.0 e.1 e.2 c.is_finished.result c.is_finished.ensures
