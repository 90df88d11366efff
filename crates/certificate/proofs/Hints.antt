-- What a hint of a step comes to where others follow it: it decides a cell, or it is refused though its clause is false.
-- Assumes nothing.
use Rattle.std.proofs.Common.{ℕ, ◌+◌, ◌-◌, ◌/◌, ◌%◌, ◌≡◌, ◌<◌, ◌≤◌, List, length, get_or, refl, arith}
use lib.ListN.{set}
use lib.Seq.{slice}
use borrow.Author.Tests.{ne_eqb}
use Rattle.certificate.specs.Certificate.{hint_of, follow_from}
use Rattle.certificate.proofs.Words.{words_on, words_left}

-- the word h is next among the hints of the step at p
module _ (ws cells : List ℕ) (p k to : ℕ) (a : k < to) (l : to ≤ length ws) {h : ℕ} (e : h ≡ get_or ws k 0) where
  pub hint_decides : (w : ℕ) → w + 2 ≡ hint_of ws p cells h → follow_from ws p (set cells (w % 1024) (w / 32768 % 2)) (slice (k + 1) to ws) ≡ follow_from ws p cells (slice k to ws)
  unfolding follow_from
  hint_decides w f =
      let r = hint_of ws p cells h in
      let z : r - 2 ≡ w = omega (arith, f) in
      rw (words_on ws k to a l e, ne_eqb r 0 (λ y. omega (arith, f, y)), ne_eqb r 1 (λ y. omega (arith, f, y)), z) refl

  pub hint_early : 0 ≡ hint_of ws p cells h → (k + 1 ≡ to → ⊥) → (28, cells) ≡ follow_from ws p cells (slice k to ws)
  unfolding follow_from
  hint_early f x = rw (words_on ws k to a l e, ← f, ne_eqb (length (slice (k + 1) to ws)) 0 (λ y. omega (arith, words_left ws k to a l))) refl
