-- Laws of what comparisons answer.
-- Assumes nothing.
use Prim.Native.Nat.{ℕ}
use mathlib.Core.Bool.{Bool, true, false, not, true≢false}
use mathlib.Core.Path.{◌≡◌, sym, ◌∙◌}
use lib.Dec.{eqb}
use borrow.Author.Tests.{eqb-true, eqb-false, not-true, not-false}
use Rattle.replay.specs.Comparisons.{DiffersUnless}

module _ {P : Type 0} where
  -- what doesn't hold differs
  pub fails : (P → ⊥) → DiffersUnless true P
  fails n = (λ f. absurd (true≢false f), λ _. n)

  -- the same for an answer that was found true
  pub fails_so : (t : Bool) → t ≡ true → (P → ⊥) → DiffersUnless t P
  fails_so t e n = (λ f. absurd (true≢false (sym e ∙ f)), λ _. n)

module _ {P Q : Type 0} where
  -- facts that hold together differ together
  pub same_differs : (P → Q) → (Q → P) → (r : Bool) → DiffersUnless r P → DiffersUnless r Q
  same_differs f g r d = (λ e. f (d.0 e), λ e q. d.1 e (g q))

  -- a second fact decides where the first holds
  pub then_differs : P → (u : Bool) → DiffersUnless u Q → DiffersUnless u (P × Q)
  then_differs p u d = (λ f. (p, d.0 f), λ f w. d.1 f w.1)

-- two numbers
pub numbers_told : (a b : ℕ) → DiffersUnless (not (eqb a b)) (a ≡ b)
numbers_told a b = (λ e. eqb-true a b (not-false _ e), λ e. eqb-false a b (not-true _ e))

-- a test that is to be false
pub test_told : (t r : Bool) → r ≡ t → DiffersUnless r (t ≡ false)
test_told t r e = (λ f. sym e ∙ f, λ h f. true≢false (sym h ∙ (e ∙ f)))
