-- Laws of holding an answer of find against what a list says.
-- Assumes nothing.
use Prim.Native.Nat.{ℕ, zero, suc, ◌≤◌}
use native.Mathlib.Omega.{arith}
use mathlib.Core.Bool.{Bool, true, false, not, false≢true}
use mathlib.Core.Path.{◌≡◌, refl, sym, ap, ◌∙◌}
use mathlib.Core.List.{List, map}
use mathlib.Core.Option.{none, some}
use lib.Dec.{eqb}
use lib.ListN.{length, take, drop, length-map}
use lib.Seq.{drop_at, length-take-le}
use borrow.Author.Tests.{eqb-true, eq-eqb}
use Rattle.grid.specs.Cells.{word}
use Rattle.board.specs.Hints.{find_refusal, after_find}
use Rattle.board.specs.declared.Board.{Board}
use Rattle.literals.specs.Literals.{Found}
use Rattle.literals.specs.Buffer.{buffer_by}
use Rattle.replay.specs.Comparisons.{DiffersUnless}
use Rattle.std.specs.Prelude.{Option, Some, None, nat_eq}
use Rattle.std.specs.Bool.{Decides}
use Rattle.std.specs.Cmp.Lexicographic.{pointwise}
use Rattle.std.proofs.lemmas.Slice.Eq.{slice_eq-Decides}
use Rattle.std.proofs.lemmas.Bool.Decides.{Decides-eqb}
use Rattle.std.specs.Option.{option_eq}
use Rattle.reasons.specs.Find.{reason_on, find_of, buffer_after}

-- `==` of two counts of literals
pub counts_decide : (a b : Option ℕ) → Decides (option_eq nat_eq a b) (a ≡ b)
counts_decide None None = (λ _. refl, λ _. refl)
counts_decide None (Some n) = (λ f. absurd (false≢true f), λ e. let z : ◌≡◌ {A = ℕ} 0 1 = cc in absurd (omega arith))
counts_decide (Some k) None = (λ f. absurd (false≢true f), λ e. let z : ◌≡◌ {A = ℕ} 0 1 = cc in absurd (omega arith))
counts_decide (Some k) (Some n) = (λ f. ap Some (eqb-true k n f), λ e. let z : k ≡ n = cc in eq-eqb k n z)

-- the buffer is not `==` the fresh one where it is another
pub buffers_differ : (xs ys : List ℕ) (r : Bool) → r ≡ not (pointwise nat_eq xs ys) → DiffersUnless r (xs ≡ ys)
buffers_differ xs ys r e = go (pointwise nat_eq xs ys) e (slice_eq-Decides Decides-eqb xs ys (pointwise nat_eq xs ys) refl)
  where
    go : (t : Bool) → r ≡ not t → Decides t (xs ≡ ys) → DiffersUnless r (xs ≡ ys)
    go true e d = (λ f. d.0 refl, λ f _. absurd (false≢true (sym e ∙ f)))
    go false e d = (λ f. absurd (false≢true (sym f ∙ e)), λ f q. false≢true (d.1 q))

-- the board after a find that was lent so many first places
pub left_board : (b : Board) (q size : ℕ) (fresh : List ℕ) {r : Board} → size ≤ length fresh → r ≡ after_find b q (length (take size fresh)) → r ≡ after_find b q size
left_board b q size fresh h e = e ∙ ap (after_find b q) (length-take-le size fresh h)

-- a buffer after the literals were written to it once more
written_again : (k : ℕ) (f : Found) (buffer : List ℕ) → buffer_by k f (buffer_by k f buffer) ≡ buffer_by k f buffer
unfolding buffer_by
written_again zero none buffer = refl
written_again zero (some r) buffer = rw (drop_at (map word r) (drop (length r) buffer) (length r) (length-map r word))
written_again (suc k) f buffer = refl

-- a find in a buffer that a find has left, which is as long as before
module _ (b : Board) (q : ℕ) (buffer left : List ℕ) (e : left ≡ buffer_after b q buffer) (l : length left ≡ length buffer) where
  -- it answers the same
  pub find_again : find_of b q left ≡ find_of b q buffer
  unfolding find_of
  find_again = rw l

  -- it leaves the same
  pub buffer_again : buffer_after b q left ≡ left
  unfolding buffer_after
  buffer_again = rw (l, e) (written_again (find_refusal b q (length buffer)) (reason_on b) buffer)
