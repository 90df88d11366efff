-- Laws of holding the check of a certificate against what a list says of it.
-- Assumes nothing.
use mathlib.Core.Bool.{not}
use mathlib.Core.Path.{◌≡◌, sym, ap, ◌∙◌}
use lib.Dec.{eqb}
use lib.IntN.{ℤ}
use mir.Syntax.{w32}
use mir.Val.{SFits, of_z, to_z}
use mir.ValLaws.{to_z-of_z}
use Rattle.replay.specs.Comparisons.{DiffersUnless}
use Rattle.replay.proofs.ComparisonLaws.{numbers_told, same_differs}

-- signed numbers that fit are the same where their bits are
same_bits : (a b : ℤ) → SFits w32 a → SFits w32 b → of_z w32 a ≡ of_z w32 b → a ≡ b
same_bits a b f g e = sym (to_z-of_z w32 a f) ∙ (ap (to_z w32) e ∙ to_z-of_z w32 b g)

-- a number that is returned and one that is expected, compared by their bits, for what each of them is
pub signed_told : (a b : ℤ) → SFits w32 a → SFits w32 b → (returned expected : ℤ) → a ≡ returned → b ≡ expected → DiffersUnless (not (eqb (of_z w32 a) (of_z w32 b))) (returned ≡ expected)
signed_told a b f g returned expected r s = same_differs (λ e. sym r ∙ (same_bits a b f g e ∙ s)) (λ e. ap (of_z w32) (r ∙ (e ∙ sym s))) _ (numbers_told (of_z w32 a) (of_z w32 b))
