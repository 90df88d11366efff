-- `host_board::tell_certain` meets its contract: 6, then 11, then the answer of the search, written.
-- Assumes nothing.
use Prim.Native.Nat.{◌+◌, ◌*◌, ◌≤◌, ◌<◌}
use mathlib.Core.Path.{◌≡◌, refl}
use lib.ListN.{length}
use Rattle.std.proofs.lemmas.Result.{err_from_is_err_and}
use Rattle.certain.specs.Facts.{certain_of}
use Rattle.certain.specs.Told.{facts_as}
use Rattle.calls.proofs.ToldLaws.{Tells-refused, Tells-said}
use Rattle.host_board.proofs.LentLaws.{certain_ill, certain_short, certain_said, certain_made}
use Rattle.host_board.proofs.tell_certain.Goals as goal

pub returns-in_err-leaf-clause-told : goal.returns-in_err-leaf-clause-told
returns-in_err-leaf-clause-told c =
    let a = c.args in
    let ill = c.in_err-leaf.ensures.refused in
    let p = err_from_is_err_and c.from_residual.result c.from_residual.ensures.1 in
    Tells-refused _ 6 _ a.output.now (certain_ill a.board.now a.budget (length a.output.now) ill.0) (rw (p.1, p.2, ill.1) refl)

pub returns-then-output-n-clause-told : goal.returns-then-output-n-clause-told
returns-then-output-n-clause-told c =
    let a = c.args in
    let lent = c.in_ok-leaf.ensures.lent in
    let short : length a.output.now < 8 + a.board.now.problem.height * a.board.now.problem.width = rw (c.size-n.ensures.value, c.grid.ensures.0, c.grid.ensures.1, lent.2) at c.if-output-n.true in
    Tells-refused _ 11 _ a.output.now (certain_short a.board.now a.budget (length a.output.now) lent.0 short) refl

pub returns-in_err-facts-clause-told : goal.returns-in_err-facts-clause-told
returns-in_err-facts-clause-told c =
    let a = c.args in
    absurd (certain_made a.board.now a.budget (length a.output.now) _ c.in_ok-leaf.ensures.lent.0 c.in_err-facts.ensures)

pub returns-clause-told : goal.returns-clause-told
returns-clause-told c =
    let a = c.args in
    let lent = c.in_ok-leaf.ensures.lent in
    let many : c.size-n.result ≡ a.board.now.problem.height * a.board.now.problem.width = rw (c.size-n.ensures.value, c.grid.ensures.0, c.grid.ensures.1, lent.2) refl in
    let long : 8 + a.board.now.problem.height * a.board.now.problem.width ≤ length a.output.now = rw many at c.if-output-n.false in
    Tells-said (a.board.now.problem.height * a.board.now.problem.width) (facts_as c.in_ok-facts.facts) (certain_of a.board.now a.budget) c.in_ok-facts.ensures a.output.now
    (certain_said a.board.now a.budget (length a.output.now) lent.0 long) (rw (← many) (c.write_certain.ensures.number, c.write_certain.ensures.bytes))
