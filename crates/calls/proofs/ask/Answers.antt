-- `calls::ask` meets its contract: the record's refusals come first, then 16, then what is said of the leaf behind them.
-- Assumes nothing.
use mathlib.Core.Path.{sym, ap, ◌∙◌}
use borrow.Author.Tests.{eqb-true}
use Rattle.refusal.specs.declared.Refusal.{Refusal}
use Rattle.refusal.specs.Refusals.{number_of}
use Rattle.record.specs.Record.{refused, read_record}
use Rattle.record.proofs.ProblemLaws.{problem_refused, read_ok}
use Rattle.calls.proofs.Opened.{with_unread, with_16, with_sizes_lem, sizes_none}
use Rattle.calls.proofs.Opening.{told_ok, told_fault, reads_formed, reads_shown}
use Rattle.calls.proofs.Steps.{Reads, Reads-ok}
use Rattle.calls.proofs.ask.Goals as goal

pub returns-in_err-read_record_in-clause-told : goal.returns-in_err-read_record_in-clause-told
returns-in_err-read_record_in-clause-told g c =
    told_fault (g.Q.Question.told c.args.question.now) c.args.output.now c.from_residual.result c.in_err-read_record_in.field-0.0 c.from_residual.ensures.1
    (with_unread c.args.«record».now c.args.edition c.args.sizes.now (problem_refused (read_record c.args.«record».now) (sym c.in_err-read_record_in.ensures)))

pub returns-in_err-edition-clause-told : goal.returns-in_err-edition-clause-told
returns-in_err-edition-clause-told g c =
    let r : Reads c.args.«record».now c.read_record_in.new.self = Reads-ok c.args.«record».now (read_ok c.in_ok-read_record_in.ensures) in
    told_fault (g.Q.Question.told c.args.question.now) c.args.output.now c.from_residual-in_err-edition.result c.in_err-edition.field-0.0 c.from_residual-in_err-edition.ensures.1
    (with_16 c.args.«record».now c.args.edition c.args.sizes.now r.reads c.in_err-edition.ensures.0 ∙ ap (λ (x : Refusal). refused (number_of x)) (sym c.in_err-edition.ensures.1))

pub bare-requires : goal.bare-requires
bare-requires g c = record { formed = reads_formed (Reads-ok c.args.«record».now (read_ok c.in_ok-read_record_in.ensures)) }

pub ask-requires : goal.ask-requires
ask-requires g c = rw c.bare.ensures.problem (reads_formed (Reads-ok c.args.«record».now (read_ok c.in_ok-read_record_in.ensures)))

pub returns-then-is_empty-clause-told : goal.returns-then-is_empty-clause-told
returns-then-is_empty-clause-told g c =
    let r : Reads c.args.«record».now c.read_record_in.new.self = Reads-ok c.args.«record».now (read_ok c.in_ok-read_record_in.ensures) in
    told_ok (g.Q.Question.told c.args.question.now) c.args.output.now c.ask.new.output c.ask.result
    (with_sizes_lem c.args.«record».now c.args.edition c.args.sizes.now r.reads c.in_ok-edition.ensures.0 ∙ sizes_none c.args.edition c.args.sizes.now r.puzzle (eqb-true _ 0 (sym c.is_empty.ensures ∙ c.if-is_empty.true)))
    (rw (c.bare.ensures.leaf, c.in_ok-edition.ensures.1, reads_shown r) at c.ask.ensures.told)

pub ask_sized-requires : goal.ask_sized-requires
ask_sized-requires g c = record { formed = reads_formed (Reads-ok c.args.«record».now (read_ok c.in_ok-read_record_in.ensures)) }

pub returns-clause-told : goal.returns-clause-told
returns-clause-told g c =
    let r : Reads c.args.«record».now c.read_record_in.new.self = Reads-ok c.args.«record».now (read_ok c.in_ok-read_record_in.ensures) in
    rw (with_sizes_lem c.args.«record».now c.args.edition c.args.sizes.now r.reads c.in_ok-edition.ensures.0)
    (rw (c.in_ok-edition.ensures.1, reads_shown r) at c.ask_sized.ensures.told)
