-- A sum of a small number and a small signed one, as the code computes it, and where it leads.
-- Assumes nothing.
use Prim.Native.Nat.{ℕ, suc, ◌+◌, ◌-◌, ◌^◌, ◌<◌, ◌≤◌}
use native.Mathlib.Omega.{arith}
use mathlib.Core.Path.{◌≡◌, refl, sym, ap, ◌∙◌, subst}
use mathlib.Core.Bool.{Bool, true, false}
use lib.IntN.{ℤ, pos, negsuc, ◌+ℤ◌, nat_abs}
use lib.Signed.{mag, lt_z}
use lib.Dec.{ltb}
use mir.Syntax.{w32}
use mir.Val.{SFits, to_z, of_z}
use mir.ValLaws.{to_z_pos, to_z-of_z}
use borrow.Author.Tests.{lt-ltb, le-ltb, ltb-true, ltb-false}
use Rattle.std.specs.Prelude.{Some, None}
use Rattle.grid.specs.Side.{moved_of}

-- the sum by its tests
mag_sub : (a b : ℕ) (t : Bool) → ltb a (suc b) ≡ t → a < 1024 → b < 1024 → mag (pos a +ℤ negsuc b) < 2 ^ 31
mag_sub a b true e p q = simp e (omega arith)
mag_sub a b false e p q = simp e (omega arith)

sum_small : (a : ℕ) (d : ℤ) → a < 1024 → mag d < 1024 → SFits w32 (pos a +ℤ d)
sum_small a (pos n) p q = record { sfits = omega arith }
sum_small a (negsuc n) p q = record { sfits = mag_sub a n _ refl p q }

-- the operands, read from their bits
operands : (a : ℕ) (d : ℤ) → a < 1024 → mag d < 1024 → to_z w32 a +ℤ to_z w32 (of_z w32 d) ≡ pos a +ℤ d
operands a d p q =
    ap (λ (z : ℤ). z +ℤ to_z w32 (of_z w32 d)) (to_z_pos w32 a (omega arith))
    ∙ ap (λ (z : ℤ). pos a +ℤ z) (to_z-of_z w32 d (record { sfits = omega arith }))

pub fits : (a : ℕ) (d : ℤ) → a < 1024 → mag d < 1024 → SFits w32 (to_z w32 a +ℤ to_z w32 (of_z w32 d))
fits a d p q = subst (SFits w32) (sym (operands a d p q)) (sum_small a d p q)

-- the result, read from its bits
result : (a : ℕ) (d : ℤ) → a < 1024 → mag d < 1024 → to_z w32 (of_z w32 (to_z w32 a +ℤ to_z w32 (of_z w32 d))) ≡ pos a +ℤ d
result a d p q = to_z-of_z w32 _ (fits a d p q) ∙ operands a d p q

-- where it leads
no : {A : Type 0} (n : ℕ) → ltb n 0 ≡ true → A
no n e = let h = ltb-true n 0 e in absurd (omega arith)

before_by : (a n l : ℕ) (t : Bool) → ltb a (suc n) ≡ t → lt_z (pos a +ℤ negsuc n) (pos 0) ≡ true → None ≡ moved_of a (negsuc n) l
unfolding moved_of
before_by a n l true e f = let h = ltb-true a (suc n) e in simp (le-ltb n a (omega arith))
before_by a n l false e f = no (a - suc n) (simp e at f)

before : (a : ℕ) (d : ℤ) (l : ℕ) → lt_z (pos a +ℤ d) (pos 0) ≡ true → None ≡ moved_of a d l
before a (pos n) l e = no (a + n) e
before a (negsuc n) l e = before_by a n l _ refl e

reached_by : (a n l : ℕ) (t : Bool) → ltb a (suc n) ≡ t → lt_z (pos a +ℤ negsuc n) (pos 0) ≡ false → nat_abs (pos a +ℤ negsuc n) < l → Some (nat_abs (pos a +ℤ negsuc n)) ≡ moved_of a (negsuc n) l
unfolding moved_of
reached_by a n l true e f lt = let g : true ≡ false = simp e at f in let z : ◌≡◌ {A = ℕ} 0 1 = cc in absurd (omega arith)
reached_by a n l false e f lt = let h = ltb-false a (suc n) e in let k : a - suc n < l = simp e at lt in simp (e, lt-ltb n a (omega arith), lt-ltb _ _ k)

reached : (a : ℕ) (d : ℤ) (l : ℕ) → lt_z (pos a +ℤ d) (pos 0) ≡ false → nat_abs (pos a +ℤ d) < l → Some (nat_abs (pos a +ℤ d)) ≡ moved_of a d l
unfolding moved_of
reached a (pos n) l e lt = simp (lt-ltb _ _ lt)
reached a (negsuc n) l e lt = reached_by a n l _ refl e lt

past_by : (a n l : ℕ) (t : Bool) → ltb a (suc n) ≡ t → lt_z (pos a +ℤ negsuc n) (pos 0) ≡ false → l ≤ nat_abs (pos a +ℤ negsuc n) → None ≡ moved_of a (negsuc n) l
unfolding moved_of
past_by a n l true e f le = let g : true ≡ false = simp e at f in let z : ◌≡◌ {A = ℕ} 0 1 = cc in absurd (omega arith)
past_by a n l false e f le = let h = ltb-false a (suc n) e in let k : l ≤ a - suc n = simp e at le in simp (lt-ltb n a (omega arith), le-ltb _ _ k)

past : (a : ℕ) (d : ℤ) (l : ℕ) → lt_z (pos a +ℤ d) (pos 0) ≡ false → l ≤ nat_abs (pos a +ℤ d) → None ≡ moved_of a d l
unfolding moved_of
past a (pos n) l e le = simp (le-ltb _ _ le)
past a (negsuc n) l e le = past_by a n l _ refl e le

-- the same, of the sum as the code has it
module _ (a : ℕ) (d : ℤ) (p : a < 1024) (q : mag d < 1024) where
  abbrev code : ℤ
  code = to_z w32 (of_z w32 (to_z w32 a +ℤ to_z w32 (of_z w32 d)))

  pub code_before : (l : ℕ) → lt_z code (pos 0) ≡ true → None ≡ moved_of a d l
  code_before l e = before a d l (subst (λ (z : ℤ). lt_z z (pos 0) ≡ true) (result a d p q) e)

  pub code_reached : (l : ℕ) → lt_z code (pos 0) ≡ false → nat_abs code < l → Some (nat_abs code) ≡ moved_of a d l
  code_reached l e lt =
      ap (λ (z : ℤ). Some (nat_abs z)) (result a d p q)
      ∙ reached a d l (subst (λ (z : ℤ). lt_z z (pos 0) ≡ false) (result a d p q) e) (subst (λ (z : ℤ). nat_abs z < l) (result a d p q) lt)

  pub code_past : (l : ℕ) → lt_z code (pos 0) ≡ false → l ≤ nat_abs code → None ≡ moved_of a d l
  code_past l e le = past a d l (subst (λ (z : ℤ). lt_z z (pos 0) ≡ false) (result a d p q) e) (subst (λ (z : ℤ). l ≤ nat_abs z) (result a d p q) le)
