-- `board::Board::open_in` meets its contract.
-- Assumes nothing.
use mathlib.Core.Path.{sym, ◌∙◌}
use Rattle.fields.proofs.OutcomeLaws.{outcome_fault}
use Rattle.record.specs.Record.{read_record}
use Rattle.record.proofs.ProblemLaws.{problem_ok, problem_refused}
use Rattle.std.proofs.lemmas.Result.{err_from_is_err_and}
use Rattle.sizes.proofs.ReadLaws.{sizes_words}
use Rattle.board.proofs.OpenLaws.{read_Drawn, open_refused, open_16, open_22, open_fresh, opened_done, opened_refused}
use Rattle.board.proofs.Board.open_in.Goals as goal

pub returns-in_err-problem : goal.returns-in_err-problem
returns-in_err-problem c =
    let a = c.args in
    let p = err_from_is_err_and c.from_residual.result c.from_residual.ensures.1 in
    rw (p.1, p.2) (opened_refused a.self.now a.bytes.now a.edition a.sizes.now
    (open_refused a.bytes.now a.edition a.sizes.now (problem_refused (read_record a.bytes.now) c.in_err-problem.ensures)))

pub returns-in_err-edition : goal.returns-in_err-edition
returns-in_err-edition c =
    let a = c.args in
    let p = problem_ok (read_record a.bytes.now) c.in_ok-problem.ensures in
    let q = err_from_is_err_and c.from_residual-in_err-edition.result c.from_residual-in_err-edition.ensures.1 in
    rw (q.1, q.2, c.in_err-edition.ensures.1) (opened_refused a.self.now a.bytes.now a.edition a.sizes.now
    (open_16 a.bytes.now a.edition a.sizes.now p.0 p.1 c.in_err-edition.ensures.0))

pub read-requires-2 : goal.read-requires-2
read-requires-2 c =
    let p = problem_ok (read_record c.args.bytes.now) c.in_ok-problem.ensures in
    record { drawn = (p.0, read_Drawn c.args.bytes.now p.0 p.1 p.2) }

pub returns-in_err-lowest : goal.returns-in_err-lowest
returns-in_err-lowest c =
    let a = c.args in
    let p = problem_ok (read_record a.bytes.now) c.in_ok-problem.ensures in
    let q = err_from_is_err_and c.from_residual-in_err-lowest.result c.from_residual-in_err-lowest.ensures.1 in
    rw (q.1, q.2) (opened_refused a.self.now a.bytes.now a.edition a.sizes.now
    (open_22 a.bytes.now a.edition a.sizes.now p.0 p.1 c.in_ok-edition.ensures.0
    (sym (sizes_words p.0 a.sizes.now) ∙ c.in_err-lowest.ensures p.0 (read_Drawn a.bytes.now p.0 p.1 p.2))))

pub returns : goal.returns
returns c =
    let a = c.args in
    let p = problem_ok (read_record a.bytes.now) c.in_ok-problem.ensures in
    let d = c.in_ok-lowest.ensures p.0 (read_Drawn a.bytes.now p.0 p.1 p.2) in
    let e = c.in_ok-edition.ensures in
    opened_done a.self.now a.bytes.now a.edition a.sizes.now
    (rw (c.number-self.ensures, e.1)
    (open_fresh a.bytes.now a.edition a.sizes.now p.0 p.1 e.0 (sym (sizes_words p.0 a.sizes.now) ∙ d.1) p.2 d.2.0 d.2.1))
