-- `file::setter_within` meets its contract: the record's refusals, 11, 20, 16, 21 and the answer, each by its own law.
-- Assumes nothing.
use native.Mathlib.Omega.{arith}
use mathlib.Core.Path.{◌≡◌, sym, ap, ◌∙◌}
use Rattle.refusal.specs.declared.Refusal.{Refusal}
use Rattle.refusal.specs.Refusals.{number_of}
use Rattle.fields.specs.Fields.{refused}
use Rattle.fields.proofs.OutcomeLaws.{outcome_fault}
use Rattle.record.proofs.HeadLaws.{head_Valid}
use Rattle.writer.proofs.ArrayLaws.{parts}
use Rattle.record.proofs.ProblemLaws.{read_ok}
use Rattle.file.specs.Answers.{setter_of}
use Rattle.file.proofs.AnswerLaws.{setter_no, head_fault, head_ok, setter_unread, cells_found, behind, judged, setter_11, setter_20, setter_16, setter_21, setter_done}
use Rattle.file.proofs.setter_within.Goals as goal

pub returns-in_err-read_head_in : goal.returns-in_err-read_head_in
returns-in_err-read_head_in c =
    let a = c.args in
    outcome_fault _ _ c.from_residual.ensures.1 (sym (ap setter_of (setter_unread a.room a.edition a.file.now (head_fault a.file.now (sym c.in_err-read_head_in.ensures))) ∙ setter_no))

pub size-requires : goal.size-requires
size-requires c =
    let h = head_ok c.args.file.now (read_ok c.in_ok-read_head_in.ensures) in
    let b = parts h.0.puzzle (head_Valid c.args.file.now h.1) c.read_head_in.new.self h.2 in
    (b.tall, b.wide)

-- 11
pub returns-then-room-size : goal.returns-then-room-size
returns-then-room-size c =
    let a = c.args in
    let h = head_ok a.file.now (read_ok c.in_ok-read_head_in.ensures) in
    sym (ap setter_of (setter_11 a.file.now h.1 a.room a.edition (omega (arith, c.if-room-size.true, c.size.ensures.value, cells_found a.file.now h.1 c.read_head_in.new.self h.2))) ∙ setter_no)

-- 20
pub returns-in_err-tail : goal.returns-in_err-tail
returns-in_err-tail c =
    let a = c.args in
    let e = c.in_err-tail.ensures.refused in
    let b = behind a.file.now (read_ok c.in_ok-read_head_in.ensures) e.0 in
    let no : refused (number_of c.in_err-tail.field-0.0) ≡ refused 20 = ap (λ (r : Refusal). refused (number_of r)) e.1 in
    outcome_fault _ _ c.from_residual-in_err-tail.ensures.1
    (no ∙ sym (ap setter_of (setter_20 a.file.now b.reads a.room a.edition (omega (arith, c.if-room-size.false, c.size.ensures.value, b.cells)) (sym b.tailed)) ∙ setter_no))

-- 16
pub returns-in_err-edition : goal.returns-in_err-edition
returns-in_err-edition c =
    let a = c.args in
    let b = behind a.file.now (read_ok c.in_ok-read_head_in.ensures) c.in_ok-tail.ensures.whole in
    let no : refused (number_of c.in_err-edition.field-0.0) ≡ refused 16 = ap (λ (r : Refusal). refused (number_of r)) c.in_err-edition.ensures.1 in
    outcome_fault _ _ c.from_residual-in_err-edition.ensures.1
    (no ∙ sym (ap setter_of (setter_16 a.file.now b.reads a.room a.edition (omega (arith, c.if-room-size.false, c.size.ensures.value, b.cells)) (sym b.tailed) c.in_err-edition.ensures.0) ∙ setter_no))

-- 21
pub returns-then-not-is_finished : goal.returns-then-not-is_finished
returns-then-not-is_finished c =
    let a = c.args in
    let e = c.in_ok-tail.ensures.place in
    let b = behind a.file.now (read_ok c.in_ok-read_head_in.ensures) c.in_ok-tail.ensures.whole in
    let verdict = judged a.file.now b.reads c.read_head_in.new.self b.is a.edition c.solution-cells.result c.in_ok-tail.tail.from (e.1 ∙ b.bytes) (rw (e.0, e.2) at c.solution-cells.ensures) c.is_finished.result
    (rw (c.bare.ensures.leaf, c.bare.ensures.problem, c.in_ok-edition.ensures.1) at c.is_finished.ensures) in
    sym (ap setter_of (setter_21 a.file.now b.reads a.room a.edition (omega (arith, c.if-room-size.false, c.size.ensures.value, b.cells)) (sym b.tailed) c.in_ok-edition.ensures.0 (sym verdict ∙ c.if-not-is_finished.true)) ∙ setter_no)

pub returns : goal.returns
returns c =
    let a = c.args in
    let e = c.in_ok-tail.ensures.place in
    let b = behind a.file.now (read_ok c.in_ok-read_head_in.ensures) c.in_ok-tail.ensures.whole in
    let verdict = judged a.file.now b.reads c.read_head_in.new.self b.is a.edition c.solution-cells.result c.in_ok-tail.tail.from (e.1 ∙ b.bytes) (rw (e.0, e.2) at c.solution-cells.ensures) c.is_finished.result
    (rw (c.bare.ensures.leaf, c.bare.ensures.problem, c.in_ok-edition.ensures.1) at c.is_finished.ensures) in
    setter_done a.file.now b.reads a.room a.edition (omega (arith, c.if-room-size.false, c.size.ensures.value, b.cells)) (sym b.tailed) c.in_ok-edition.ensures.0 (sym verdict ∙ c.if-not-is_finished.false)
    c.in_ok-tail.tail.from c.grade.result c.in_ok-tail.tail.n c.solution-cells.result (e.1 ∙ b.bytes) (rw e.0 at c.grade.ensures) (e.2 ∙ b.cells) (rw e.0 at c.solution-cells.ensures)
