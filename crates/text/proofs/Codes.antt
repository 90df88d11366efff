-- The number that the host call returns, as the code reads it.
-- Assumes nothing.
use Prim.Native.Nat.{ℕ}
use native.Mathlib.Omega.{arith}
use mathlib.Core.Path.{◌≡◌, sym, ap, ◌∙◌, subst}
use lib.IntN.{ℤ, pos, negsuc, nat_abs}
use mir.Syntax.{w32}
use mir.Val.{SFits, to_z, of_z}
use mir.ValLaws.{to_z-of_z}
use Rattle.std.specs.Prelude.{Ok, Err}
use Rattle.std.specs.declared.result.Result.{Result}
use Rattle.std.specs.Int.{FitsUnsignedBits}
use Rattle.text.specs.Told.{told_by}

count_is : (z : ℤ) (n : ℕ) → FitsUnsignedBits 64 z → n ≡ nat_abs z → ◌≡◌ {A = Result ℕ ℕ} (Ok n) (told_by z)
unfolding told_by
count_is (pos m) n f e = ap (λ (k : ℕ). Ok k) e
count_is (negsuc m) n f e = absurd f

refusal_is : (z : ℤ) (n : ℕ) → (FitsUnsignedBits 64 z → ⊥) → SFits w32 z → n ≡ nat_abs z → ◌≡◌ {A = Result ℕ ℕ} (Err n) (told_by z)
unfolding told_by
refusal_is (pos m) n f s e = absurd (f (omega (arith, s.sfits)))
refusal_is (negsuc m) n f s e = ap (λ (k : ℕ). Err k) e

module _ (z : ℤ) (fits : SFits w32 z) where
  -- the number, read from its bits
  back : to_z w32 (of_z w32 z) ≡ z
  back = to_z-of_z w32 z fits

  pub count_told : (n : ℕ) → FitsUnsignedBits 64 (to_z w32 (of_z w32 z)) × (n ≡ nat_abs (to_z w32 (of_z w32 z))) → ◌≡◌ {A = Result ℕ ℕ} (Ok n) (told_by z)
  count_told n p = count_is z n (subst (FitsUnsignedBits 64) back p.0) (p.1 ∙ ap nat_abs back)

  pub refusal_told : (n : ℕ) → (FitsUnsignedBits 64 (to_z w32 (of_z w32 z)) → ⊥) → n ≡ nat_abs (to_z w32 (of_z w32 z)) → ◌≡◌ {A = Result ℕ ℕ} (Err n) (told_by z)
  refusal_told n p e = refusal_is z n (λ f. p (subst (FitsUnsignedBits 64) (sym back) f)) fits (e ∙ ap nat_abs back)
