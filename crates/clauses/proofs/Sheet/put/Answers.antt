-- `clauses::Sheet::put` meets its contract where there is no number, and where there is no room: the numbers are counted.
-- Assumes nothing.
use native.Mathlib.Omega.{arith}
use mathlib.Core.Path.{refl, sym, ap, ◌∙◌}
use borrow.Author.Tests.{eqb-true}
use Rattle.std.proofs.lemmas.List.{nil_from_length}
use Rattle.exported.specs.Written.{bytes_of}
use Rattle.exported.proofs.BytesLaws.{bytes_length}
use Rattle.clauses.proofs.PushLaws.{push_none, push_as}
use Rattle.clauses.proofs.Sheet.put.Goals as goal

pub returns-then-self : goal.returns-then-self
returns-then-self c =
    let long = bytes_length c.args.words.now in
    record {
      same = refl;
      long = refl;
      counted = λ few. omega (arith, few, long, c.saturating_add-self.ensures);
      wrote = λ few room. absurd (omega (arith, few, room, long, c.if-self.true, c.saturating_add-self.ensures));
    }

pub returns-then-is_empty : goal.returns-then-is_empty
unfolding bytes_of
returns-then-is_empty c = push_as (sym (ap bytes_of (nil_from_length c.args.words.now (eqb-true _ 0 (sym c.is_empty.ensures ∙ c.if-is_empty.true))))) (push_none _)
