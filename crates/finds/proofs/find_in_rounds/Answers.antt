-- `finds::find_in_rounds` meets its contract: a find in a buffer that a find has left answers and leaves the same. The rounds run out.
-- Assumes nothing.
use borrow.Author.Rules.{rules}
use lib.ListN.{length}
use mathlib.Core.Path.{◌≡◌, sym, ap, ◌∙◌}
use Prim.Native.Nat.{ℕ}
use mathlib.Core.List.{List}
use Rattle.reasons.specs.Find.{find_of, found_as, buffer_after}
use Rattle.finds.proofs.FindLaws.{find_again, buffer_again}
use Rattle.finds.proofs.find_in_rounds.Goals as goal

pub loop-i-preserved : goal.loop-i-preserved
loop-i-preserved c =
    let long : length c.find-first.new.buffer ≡ length c.args.buffer.now = search rules in
    let a = c.args in
    let left = c.find-first.new.buffer in
    let same = c.loop-i.invariant.0 in (
      c.find-found.ensures.2 ∙ (ap (buffer_after a.board a.player) same ∙ buffer_again a.board a.player a.buffer.now left c.find-first.ensures.2 long),
      c.find-found.ensures.0 ∙ (ap (λ (l : List ℕ). found_as (find_of a.board a.player l)) same ∙ (ap found_as (find_again a.board a.player a.buffer.now left c.find-first.ensures.2 long) ∙ sym c.find-first.ensures.0)),
    )
