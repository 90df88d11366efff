-- A list of answers as bytes, and what it is compared with.
-- Assumes nothing.
use Rattle.std.specs.Prelude.{ℕ, suc, ◌+◌, ◌*◌, ◌-◌, Bool, false, ◌||◌, not, cond, List, [], ◌∷◌, Option, Some, None, get_or, eqb, ltb, leb}

-- H × W, none where a size is above 32
unfoldable pub area_of : ℕ → ℕ → Option ℕ
area_of h w = cond (ltb 32 h) None (cond (ltb 32 w) None (Some (h * w)))

-- the u16 at a place, with 0 for each byte behind the end
unfoldable pub number_at : List ℕ → ℕ → ℕ
number_at l at = get_or l at 0 * 256 + get_or l (at + 1) 0

-- where the data begins, from a place and the byte before it on: behind the first empty line, as long as each line before it begins with `#`
unfoldable pub data_from : List ℕ → ℕ → ℕ → Option ℕ
data_from [] i before = None
data_from (b ∷ rest) i before = cond (eqb before 10) (cond (eqb b 10) (Some (suc i)) (cond (eqb b 35) (data_from rest (suc i) b) None)) (data_from rest (suc i) b)

-- where the data of a list begins, none where it has no head
unfoldable pub data_start : List ℕ → Option ℕ
data_start [] = None
data_start (b ∷ rest) = cond (eqb b 35) (data_from rest 1 b) None

-- what stands at place i where the n bytes of a list from `at` on stand from place `from` on, and another byte in every other place
unfoldable pub byte_in : List ℕ → ℕ → ℕ → ℕ → ℕ → ℕ → ℕ
byte_in l at n from other i = cond (ltb i from) other (cond (leb n (i - from)) other (get_or l (at + (i - from)) 0))

-- what stands at place i where the n numbers of a list from `at` on stand in the first places, and another number behind them
unfoldable pub number_in : List ℕ → ℕ → ℕ → ℕ → ℕ → ℕ
number_in l at n behind i = cond (leb n i) behind (number_at l (at + 2 * i))

-- whether one of the numbers is not the one that is said for its place, from place i on
unfoldable pub differs : List ℕ → (ℕ → ℕ) → ℕ → Bool
differs [] said i = false
differs (x ∷ rest) said i = not (eqb x (said i)) || differs rest said (suc i)
