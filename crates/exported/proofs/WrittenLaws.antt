-- What an exported call that writes bytes returns, and the output after it.
-- Assumes nothing.
use Prim.Native.Nat.{ℕ, ◌<◌, ◌^◌}
use native.Mathlib.Omega.{arith}
use mathlib.Core.Path.{◌≡◌, refl, ap}
use mathlib.Core.List.{List, ◌++◌}
use lib.IntN.{ℤ, pos, neg_ℤ}
use lib.ListN.{length, drop}
use Rattle.std.specs.Prelude.{Ok, Err}
use Rattle.std.specs.Result.{IsErrAnd}
use Rattle.std.specs.declared.result.Result.{Result}
use Rattle.refusal.specs.declared.Refusal.{Refusal}
use Rattle.refusal.specs.Refusals.{number_of}
use Rattle.fields.specs.Fields.{Outcome, ok, refused}
use Rattle.exported.specs.Written.{written, output_with, Writes}

-- the number returned and the output after it
abbrev pub Told : Outcome (List ℕ) → ℤ → List ℕ → List ℕ → Type 0
Told o r old new = (r ≡ written o) × (new ≡ output_with o old)

-- a refusal leaves the output
pub Told-refused : (o : Outcome (List ℕ)) (k : ℕ) (r : ℤ) (old : List ℕ) → o ≡ refused k → r ≡ neg_ℤ (pos k) → Told o r old old
unfolding written output_with
Told-refused o k r old e f = rw e (f, refl)

-- bytes stand in front
pub Told-ok : (o : Outcome (List ℕ)) (t old new : List ℕ) (r : ℤ) → o ≡ ok t → r ≡ pos (length t) → new ≡ t ++ drop (length t) old → Told o r old new
unfolding written output_with
Told-ok o t old new r e f g = rw e (f, g)

-- ---- before it is returned

module _ (o : Outcome (List ℕ)) (old : List ℕ) where
  -- a refusal, also at the exit of a `?`
  pub Writes-refused : (r : Refusal) → o ≡ refused (number_of r) → Writes o (Err r) old old
  unfolding written output_with
  Writes-refused r e = rw e (record { returned = refl; few = λ n h. let z : ◌≡◌ {A = ℕ} 0 1 = cc in absurd (omega arith); output = refl })

  pub Writes-fault : (a : Result ℕ Refusal) (r : Refusal) → IsErrAnd a (λ y. y ≡ r) → o ≡ refused (number_of r) → Writes o a old old
  Writes-fault (Ok n) r x e = absurd x
  Writes-fault (Err y) r x e = rw x (Writes-refused r e)

  -- bytes
  pub Writes-ok : (t new : List ℕ) (n : ℕ) → o ≡ ok t → n ≡ length t → n < 2 ^ 31 → new ≡ t ++ drop (length t) old → Writes o (Ok n) old new
  unfolding written output_with
  Writes-ok t new n e f h g = rw e (record { returned = ap pos f; few = λ m q. let z : n ≡ m = cc in omega (arith, h); output = g })

  -- what is so for an outcome is so for its equal
  pub Writes-as : (a : Result ℕ Refusal) (new : List ℕ) {p : Outcome (List ℕ)} → o ≡ p → Writes p a old new → Writes o a old new
  Writes-as a new e w = rw e w
