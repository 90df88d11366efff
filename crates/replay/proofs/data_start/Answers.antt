-- `replay::data_start` meets its contract: the data begins behind the last line of the head, if the next line is empty.
-- Assumes nothing.
use Rattle.std.proofs.Common.{rules, tests, arith, get_or}
use mathlib.Core.Path.{refl, sym, ◌∙◌}
use borrow.Author.Tests.{eq-eqb, ne_eqb}
use Rattle.std.proofs.lemmas.Iterator.{first_from_Range}
use Rattle.std.proofs.lemmas.List.{get_or_read}
use Rattle.std.specs.Prelude.{Some, None}
use Rattle.replay.proofs.ListLaws.{no_head, Ends, no_data, data_behind}
use Rattle.replay.proofs.data_start.Goals as goal

pub returns-in_default : goal.returns-in_default
returns-in_default c = (sym (no_head c.args.list.now (λ e. grind (arith, tests, get_or_read))), tt)

pub returns-in_default-2 : goal.returns-in_default-2
returns-in_default-2 c = (sym (no_head c.args.list.now (λ e. grind (arith, tests, get_or_read))), tt)

pub returns-in_err-end : goal.returns-in_err-end
returns-in_err-end c =
    let l = c.args.list.now in
    let no = first_from_Range _ _ _ None (Ends l) (λ k. Ends l k → ⊥) c.in_err-end.ensures.ran (λ x q k. grind (arith, tests, get_or_read)) (λ x q k. (search rules, grind (arith, tests, get_or_read))) in
    rw c.from_residual.ensures (sym (no_data l (grind (arith, tests, get_or_read)) no), tt)

pub bounds-list-end : goal.bounds-list-end
bounds-list-end c =
    let l = c.args.list.now in
    let end = first_from_Range _ _ _ (Some c.in_ok-end.end) (Ends l) (λ k. Ends l k → ⊥) c.in_ok-end.ensures.ran (λ x q k. grind (arith, tests, get_or_read)) (λ x q k. (search rules, grind (arith, tests, get_or_read))) in
    end.1

pub returns-then-list-end-eq10 : goal.returns-then-list-end-eq10
returns-then-list-end-eq10 c =
    let l = c.args.list.now in
    let end = first_from_Range _ _ _ (Some c.in_ok-end.end) (Ends l) (λ k. Ends l k → ⊥) c.in_ok-end.ensures.ran (λ x q k. grind (arith, tests, get_or_read)) (λ x q k. (search rules, grind (arith, tests, get_or_read))) in
    (sym (data_behind l (grind (arith, tests, get_or_read)) c.in_ok-end.end end.0 end.1 end.3 end.2 ∙ rw (eq-eqb (get_or l c.in_ok-end.end 0) 10 c.if-list-end-eq10.true) refl), omega arith)

pub returns-else-list-end-eq10 : goal.returns-else-list-end-eq10
returns-else-list-end-eq10 c =
    let l = c.args.list.now in
    let end = first_from_Range _ _ _ (Some c.in_ok-end.end) (Ends l) (λ k. Ends l k → ⊥) c.in_ok-end.ensures.ran (λ x q k. grind (arith, tests, get_or_read)) (λ x q k. (search rules, grind (arith, tests, get_or_read))) in
    (sym (data_behind l (grind (arith, tests, get_or_read)) c.in_ok-end.end end.0 end.1 end.3 end.2 ∙ rw (ne_eqb (get_or l c.in_ok-end.end 0) 10 c.if-list-end-eq10.false) refl), tt)
