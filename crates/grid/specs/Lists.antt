-- Lists of numbers, and tests on them.
-- Assumes nothing.
use Rattle.std.specs.Prelude.{ℕ, zero, suc, ◌+◌, ◌-◌, ◌<◌, Bool, cond, eqb, length, replicate}
use mathlib.Core.List.{List, [], ◌∷◌, ◌++◌, Memᴰ}
-- the members that pass a test, the lists that a function makes of the members one after the other, and whether some member or each passes a test
pub use Rattle.std.specs.List.{filter, flat_map, list_any as any, list_all as all}

-- from, from + 1, .., from + k - 1. Std's `range_with_len` goes on from `from + 1`, which does not compute to `suc from`: the laws by recursion over a range (ListLaws, AppendLaws, Count)
-- would each rewrite it.
unfoldable pub range : ℕ → ℕ → List ℕ
range from zero = []
range from (suc k) = from ∷ range (suc from) k

-- 0, 1, .., n - 1
unfoldable pub upto : ℕ → List ℕ
upto n = range 0 n

module _ {A : Type 0} where
  -- the last member, d if there is none
  unfoldable pub last : A → List A → A
  last d [] = d
  last d (x ∷ xs) = last x xs

  -- all but the last member
  unfoldable pub init : List A → List A
  init [] = []
  init (x ∷ []) = []
  init (x ∷ y ∷ ys) = x ∷ init (y ∷ ys)

  -- all but the first member
  unfoldable pub tail : List A → List A
  tail [] = []
  tail (x ∷ xs) = xs

-- i is in the list
unfoldable pub member : ℕ → List ℕ → Bool
member i = any (eqb i)

-- how often i is in the list
unfoldable pub how_many : ℕ → List ℕ → ℕ
how_many i [] = 0
how_many i (x ∷ xs) = cond (eqb x i) 1 0 + how_many i xs

-- each member once, at its last place
unfoldable pub once : List ℕ → List ℕ
once [] = []
once (x ∷ xs) = cond (member x xs) (once xs) (x ∷ once xs)

-- no member twice
abbrev pub Distinct : List ℕ → Type 0
Distinct [] = Unit {0}
Distinct (x ∷ xs) = (¬ Memᴰ x xs) × Distinct xs

-- each member is less than all behind it
pub data Rising : List ℕ → Type 0 where
  nil : Rising []
  cons : {x : ℕ} {xs : List ℕ} → ((y : ℕ) → Memᴰ y xs → x < y) → Rising xs → Rising (x ∷ xs)

-- a list kept in an array of 1,024 places: d stands behind it
unfoldable pub array_of : {A : Type 0} → A → List A → List A
array_of d l = l ++ replicate (1024 - length l) d
