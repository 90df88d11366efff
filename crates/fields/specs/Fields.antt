-- The fields of a record: bits, most significant first, and what a field may be refused for.
-- Assumes nothing.
use Rattle.std.specs.Prelude.{ℕ, zero, suc, ◌+◌, ◌-◌, ◌*◌, ◌/◌, ◌%◌, ◌^◌, Bool, true, false, cond, ◌&&◌, List, [], ◌∷◌, eqb, leb, ltb, length, get_or}
use Rattle.grid.specs.Grid.{Grid, up, down, left, right}
pub use Rattle.refusal.specs.Refusals.{Outcome, refused, ok}

infixl 10 ◌>>=◌
-- the next step, unless one was refused
unfoldable pub ◌>>=◌ : {A B : Type 0} → Outcome A → (A → Outcome B) → Outcome B
◌>>=◌ (refused k) f = refused k
◌>>=◌ (ok a) f = f a

-- refusal k where the test fails
unfoldable pub unless : Bool → ℕ → Outcome ℕ
unless true k = ok 0
unless false k = refused k

-- bit k of the bytes
unfoldable pub bit : List ℕ → ℕ → ℕ
bit s k = get_or s (k / 8) 0 / 2 ^ (7 - k % 8) % 2

-- the number in the k bits from at
unfoldable pub number : List ℕ → ℕ → ℕ → ℕ
number s at zero = 0
number s at (suc k) = 2 * number s at k + bit s (at + k)

-- a field of k bits at `at`, or 1 where the record ends before its end
unfoldable pub field : List ℕ → ℕ → ℕ → Outcome ℕ
field s at k = cond (leb (at + k) (8 * length s)) (ok (number s at k)) (refused 1)

-- the cell there, if there is one
unfoldable pub there : List ℕ → Outcome ℕ
there [] = refused 3
there (j ∷ js) = ok j

-- the cell one step from i: 0 up, 1 down, 2 left, 3 right; off the grid the refusal is 3
unfoldable pub step_from : Grid → ℕ → ℕ → Outcome ℕ
step_from g i zero = there (up g i)
step_from g i (suc zero) = there (down g i)
step_from g i (suc (suc zero)) = there (left g i)
step_from g i (suc (suc (suc d))) = there (right g i)

-- only zero bits, and fewer than eight of them, from at
unfoldable pub filler : List ℕ → ℕ → Bool
filler s at = ltb (8 * length s - at) 8 && eqb (number s at (8 * length s - at)) 0

-- how many bytes n bits take
unfoldable pub bytes_for : ℕ → ℕ
bytes_for n = (n + 7) / 8

-- only zero bits from at to the end of its byte
unfoldable pub rest_zero : List ℕ → ℕ → Bool
rest_zero s at = eqb (number s at (bytes_for at * 8 - at)) 0
