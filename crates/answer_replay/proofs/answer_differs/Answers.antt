-- `answer_replay::answer_differs` holds the length of the text and then the whole room against what the list says.
-- Assumes nothing.
use native.Mathlib.Omega.{arith}
use Prim.Native.Nat.{ℕ}
use mathlib.Core.Bool.{Bool, not}
use mathlib.Core.Path.{◌≡◌, sym, ◌∙◌}
use mathlib.Core.List.{List}
use lib.Dec.{eqb}
use lib.ListN.{length, replicate}
use borrow.Author.Tests.{ne_eqb}
use Rattle.text.specs.Text.{Written}
use Rattle.answer.specs.Program.{printed}
use Rattle.replay.specs.Comparisons.{DiffersUnless}
use Rattle.replay.specs.Lists.{byte_in, differs}
use Rattle.replay.proofs.ComparisonLaws.{fails, then_differs, test_told}
use Rattle.answer_replay.specs.Answers.{left, AnswersSo}
use Rattle.answer_replay.proofs.answer_differs.Goals as goal

-- what was written to a fresh room
module _ (input list after : List ℕ) (at count n : ℕ) (w : Written (replicate 21523 255) 0 (printed input) after n) where
  -- the length that was answered
  answered : n ≡ length (printed input)
  answered = omega (arith, w.behind)

  -- a text of another length
  other_length : (n ≡ count → ⊥) → DiffersUnless (not (eqb n count)) (AnswersSo input list at count)
  other_length d = rw (ne_eqb n count d) (fails (λ s. d (answered ∙ s.0)))

  -- a text of this length: then the room decides
  this-length : n ≡ count → (r : Bool) → r ≡ differs after (byte_in list at count 0 255) 0 → DiffersUnless r (AnswersSo input list at count)
  this-length q r d =
      let left_so : after ≡ left input = unfold left in w.whole in
      let h : r ≡ differs (left input) (byte_in list at count 0 255) 0 = rw left_so at d in
      then_differs (sym answered ∙ q) r (test_told _ r h)

pub returns-else-n-count : goal.returns-else-n-count
returns-else-n-count c =
    let a = c.args in
    this-length a.input.now a.said.list.now _ a.said.at a.count c.respond-n.result c.respond-n.ensures c.if-n-count.false c.bytes_differ.result c.bytes_differ.ensures
