-- `file::player_within` meets its contract: the record's refusals, 11, 20 and the answer, each by its own law.
-- Assumes nothing.
use native.Mathlib.Omega.{arith}
use mathlib.Core.Path.{◌≡◌, sym, ap, ◌∙◌}
use Rattle.refusal.specs.declared.Refusal.{Refusal}
use Rattle.refusal.specs.Refusals.{number_of}
use Rattle.fields.specs.Fields.{refused}
use Rattle.fields.proofs.OutcomeLaws.{outcome_fault}
use Rattle.record.proofs.ProblemLaws.{read_ok}
use Rattle.file.specs.Answers.{player_of}
use Rattle.file.proofs.AnswerLaws.{player_no, head_fault, head_ok, player_unread, behind, player_11, player_20, player_done}
use Rattle.file.proofs.player_within.Goals as goal

pub returns-in_err-read_head_in : goal.returns-in_err-read_head_in
returns-in_err-read_head_in c =
    let a = c.args in
    outcome_fault _ _ c.from_residual.ensures.1 (sym (ap player_of (player_unread a.room a.file.now (head_fault a.file.now (sym c.in_err-read_head_in.ensures))) ∙ player_no))

-- 11
pub returns-then-room-lt1 : goal.returns-then-room-lt1
returns-then-room-lt1 c =
    let h = head_ok c.args.file.now (read_ok c.in_ok-read_head_in.ensures) in
    sym (ap player_of (player_11 c.args.file.now h.1 c.args.room c.if-room-lt1.true) ∙ player_no)

-- 20
pub returns-in_err-tail : goal.returns-in_err-tail
returns-in_err-tail c =
    let e = c.in_err-tail.ensures.refused in
    let b = behind c.args.file.now (read_ok c.in_ok-read_head_in.ensures) e.0 in
    let no : refused (number_of c.in_err-tail.field-0.0) ≡ refused 20 = ap (λ (r : Refusal). refused (number_of r)) e.1 in
    outcome_fault _ _ c.from_residual-in_err-tail.ensures.1 (no ∙ sym (ap player_of (player_20 c.args.file.now b.reads c.args.room (omega (arith, c.if-room-lt1.false)) (sym b.tailed)) ∙ player_no))

pub returns : goal.returns
returns c =
    let e = c.in_ok-tail.ensures.place in
    let b = behind c.args.file.now (read_ok c.in_ok-read_head_in.ensures) c.in_ok-tail.ensures.whole in
    player_done c.args.file.now b.reads c.args.room c.if-room-lt1.false (sym b.tailed) c.in_ok-tail.tail.from c.grade.result (e.1 ∙ b.bytes) (rw e.0 at c.grade.ensures)
