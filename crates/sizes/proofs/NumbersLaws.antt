-- The numbers in bytes, two each: how many there are, and each of them.
-- Assumes nothing.
use Prim.Native.Nat.{ℕ, zero, suc, ◌+◌, ◌*◌, ◌/◌, ◌%◌, ◌<◌}
use native.Mathlib.Omega.{arith}
use mathlib.Core.Path.{◌≡◌, refl, ◌∙◌}
use mathlib.Core.List.{List, [], ◌∷◌}
use lib.ListN.{length, get_or}
use Rattle.std.specs.Int.{w16, from_be_bytes}
use Rattle.record.specs.Record.{Outcome, ok, refused, ◌>>=◌}
use Rattle.sizes.specs.Bytes.{numbers_in}
use Rattle.sizes.specs.Inside.{HasNumber, number_at}

-- an odd byte is a list that ends inside a number
pub numbers_odd : (l : List ℕ) → (length l % 2 ≡ 0 → ⊥) → numbers_in l ≡ refused 22
unfolding numbers_in ◌>>=◌
numbers_odd [] n = absurd (n (omega arith))
numbers_odd (x ∷ []) n = refl
numbers_odd (x ∷ y ∷ l) n = rw (numbers_odd l (λ e. n (omega (arith, e)))) refl

-- two bytes are a number
pub numbers_even : (l : List ℕ) → length l % 2 ≡ 0 → (ns : List ℕ) × (numbers_in l ≡ ok ns) × (length l / 2 ≡ length ns)
unfolding numbers_in ◌>>=◌
numbers_even [] e = ([], refl, omega arith)
numbers_even (x ∷ []) e = absurd (omega (arith, e))
numbers_even (x ∷ y ∷ l) e =
    let r = numbers_even l (omega (arith, e)) in
    ((x * 256 + y) ∷ r.0, rw r.1 refl, omega (arith, r.2))

-- number k stands in the bytes 2 k and 2 k + 1
pub number_bytes : (l : List ℕ) (k : ℕ) → HasNumber (numbers_in l) k → (2 * k + 1 < length l) × (get_or l (2 * k) 0 * 256 + get_or l (2 * k + 1) 0 ≡ number_at (numbers_in l) k)
unfolding numbers_in ◌>>=◌
number_bytes [] k h = absurd (omega (arith, h))
number_bytes (x ∷ []) k h = absurd h
number_bytes (x ∷ y ∷ l) zero h = (omega arith, go (numbers_in l) h)
  where
    go : (o : Outcome (List ℕ)) → HasNumber (o >>= λ ns. ok ((x * 256 + y) ∷ ns)) 0 → x * 256 + y ≡ number_at (o >>= λ ns. ok ((x * 256 + y) ∷ ns)) 0
    go (ok ns) h = refl
    go (refused j) h = absurd h
number_bytes (x ∷ y ∷ l) (suc k) h =
    let r = number_bytes l k (go (numbers_in l) h) in
    (omega (arith, r.0), there r.1 (2 * suc k) (2 * suc k + 1) (omega arith) (omega arith))
  where
    go : (o : Outcome (List ℕ)) → HasNumber (o >>= λ ns. ok ((x * 256 + y) ∷ ns)) (suc k) → HasNumber o k
    go (ok ns) h = omega (arith, h)
    go (refused j) h = absurd h

    same : (o : Outcome (List ℕ)) → HasNumber (o >>= λ ns. ok ((x * 256 + y) ∷ ns)) (suc k) → number_at o k ≡ number_at (o >>= λ ns. ok ((x * 256 + y) ∷ ns)) (suc k)
    same (ok ns) h = refl
    same (refused j) h = absurd h

    there : get_or l (2 * k) 0 * 256 + get_or l (2 * k + 1) 0 ≡ number_at (numbers_in l) k → (i j : ℕ) → i ≡ suc (suc (2 * k)) → j ≡ suc (suc (2 * k + 1))
        → get_or (x ∷ y ∷ l) i 0 * 256 + get_or (x ∷ y ∷ l) j 0 ≡ number_at (numbers_in l >>= λ ns. ok ((x * 256 + y) ∷ ns)) (suc k)
    there e i j p q = rw (p, q) (e ∙ same (numbers_in l) h)

-- it is read from them, which both are there
pub number_inside : (l : List ℕ) (k : ℕ) → HasNumber (numbers_in l) k → 2 * k + 1 < length l
number_inside l k h = (number_bytes l k h).0

pub number_read : (l : List ℕ) (k : ℕ) → HasNumber (numbers_in l) k → from_be_bytes w16 (get_or l (2 * k) 0 ∷ get_or l (2 * k + 1) 0 ∷ []) ≡ number_at (numbers_in l) k
number_read l k h = (number_bytes l k h).1
