-- What an outcome that is not refused says: each step before it went well, a field is below its width, a step leads to a neighbour.
-- Assumes nothing.
use Prim.Native.Nat.{ℕ, zero, suc, ◌+◌, ◌-◌, ◌*◌, ◌/◌, ◌%◌, ◌^◌, ◌<◌}
use native.Mathlib.Nat.{mod-lt, pow-suc}
use native.Mathlib.Omega.{arith}
use mathlib.Core.Path.{◌≡◌, refl, sym}
use mathlib.Core.Bool.{Bool, true, false, cond}
use mathlib.Core.List.Memᴰ
use mathlib.Core.List.{List, [], ◌∷◌, Memᴰ}
use lib.Dec.{leb, lit<}
use lib.ListN.{length, get_or}
use Rattle.grid.specs.Grid.{Grid, up, down, left, right, neighbours}
use Rattle.std.specs.Prelude.{Ok, Err}
use Rattle.std.specs.Result.{IsErrAnd}
use Rattle.std.specs.declared.result.Result.{Result}
use Rattle.refusal.specs.declared.Refusal.{Refusal}
use Rattle.refusal.specs.Refusals.{number_of, outcome_of}
use Rattle.fields.specs.Inside.{Agrees}
use Rattle.fields.specs.Fields.{Outcome, ok, refused, ◌>>=◌, unless, bit, number, field, there, step_from}

-- a step that went well, and the one before it
pub bind_ok : {A B : Type 0} (a : Outcome A) (f : A → Outcome B) {b : B} → (a >>= f) ≡ ok b → (x : A) × (a ≡ ok x) × (f x ≡ ok b)
unfolding ◌>>=◌
bind_ok (refused k) f e = let z : ◌≡◌ {A = ℕ} 0 1 = cc in absurd (omega arith)
bind_ok (ok a) f e = (a, refl, e)

-- the next step after a value, and after a refusal
pub next_ok : {A B : Type 0} {o : Outcome A} (f : A → Outcome B) {z : Outcome B} {a : A} → ok a ≡ o → z ≡ f a → z ≡ (o >>= f)
unfolding ◌>>=◌
next_ok f e q = rw (← e) q

pub next_refused : {A B : Type 0} {o : Outcome A} (f : A → Outcome B) {k : ℕ} → refused k ≡ o → refused k ≡ (o >>= f)
unfolding ◌>>=◌
next_refused f e = rw (← e) refl

-- the code's answer at the exit of a `?`
pub agrees_fault : {A B : Type 0} {o : Outcome A} (P : A → B → Type 0) (r : Result B Refusal) (e : Refusal) → IsErrAnd r (λ y. y ≡ e) → o ≡ refused (number_of e) → Agrees o P r
agrees_fault P (Ok b) e x q = absurd x
agrees_fault P (Err y) e x q = rw x q

pub outcome_fault : {B : Type 0} {o : Outcome B} (r : Result B Refusal) (e : Refusal) → IsErrAnd r (λ y. y ≡ e) → refused (number_of e) ≡ o → outcome_of r ≡ o
outcome_fault (Ok b) e x q = absurd x
outcome_fault (Err y) e x q = rw x q

-- a test that was passed
pub unless-ok : (t : Bool) (k : ℕ) {x : ℕ} → unless t k ≡ ok x → t ≡ true
unfolding unless
unless-ok true k e = refl
unless-ok false k e = let z : ◌≡◌ {A = ℕ} 0 1 = cc in absurd (omega arith)

-- equal outcomes, equal values
pub ok-eq : {A : Type 0} {a b : A} → ok a ≡ ok b → a ≡ b
ok-eq e = cc

-- the sizes of the fields
pub bit-lt : (s : List ℕ) (k : ℕ) → bit s k < 2
unfolding bit
bit-lt s k = mod-lt (get_or s (k / 8) 0 / 2 ^ (7 - k % 8)) (lit< tt)

pub number-lt : (s : List ℕ) (at k : ℕ) → number s at k < 2 ^ k
unfolding number
number-lt s at zero = lit< tt
number-lt s at (suc k) = omega (arith, number-lt s at k, bit-lt s (at + k), pow-suc 2 k)

-- a field is below its width
pub field-ok : (s : List ℕ) (at k : ℕ) {x : ℕ} → field s at k ≡ ok x → x < 2 ^ k
unfolding field
field-ok s at k {x} e = go (leb (at + k) (8 * length s)) e
  where
    go : (t : Bool) → cond t (ok (number s at k)) (refused 1) ≡ ok x → x < 2 ^ k
    go true q = rw (← ok-eq q) (number-lt s at k)
    go false q = let z : ◌≡◌ {A = ℕ} 0 1 = cc in absurd (omega arith)

-- the cell there
pub there-ok : (l : List ℕ) {j : ℕ} → there l ≡ ok j → Memᴰ j l
unfolding there
there-ok [] e = let z : ◌≡◌ {A = ℕ} 0 1 = cc in absurd (omega arith)
there-ok (x ∷ l) e = Memᴰ.head (sym (ok-eq e))

-- a step leads to a neighbour
pub step_ok : (g : Grid) (i d : ℕ) {j : ℕ} → step_from g i d ≡ ok j → Memᴰ j (neighbours g i)
unfolding step_from neighbours
step_ok g i zero e = Memᴰ.append_left _ (there-ok (up g i) e)
step_ok g i (suc zero) e = Memᴰ.append_right (up g i) (Memᴰ.append_left _ (there-ok (down g i) e))
step_ok g i (suc (suc zero)) e = Memᴰ.append_right (up g i) (Memᴰ.append_right (down g i) (Memᴰ.append_left _ (there-ok (left g i) e)))
step_ok g i (suc (suc (suc d))) e = Memᴰ.append_right (up g i) (Memᴰ.append_right (down g i) (Memᴰ.append_right (left g i) (there-ok (right g i) e)))
