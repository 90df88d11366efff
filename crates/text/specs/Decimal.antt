-- What decimal digits say. A character is its ASCII code.
-- Assumes nothing.
use Rattle.std.specs.Prelude.{ℕ, ◌+◌, ◌-◌, ◌*◌, ◌≤◌, ◌<◌, ◌≡◌, length, get_or}
use mathlib.Core.List.{List, [], ◌∷◌, Memᴰ}

-- the number that digits say behind those that say n
unfoldable pub says_behind : ℕ → List ℕ → ℕ
says_behind n [] = n
says_behind n (c ∷ cs) = says_behind (n * 10 + (c - 48)) cs

-- the number that digits say
unfoldable pub says : List ℕ → ℕ
says text = says_behind 0 text

-- the text is the number n in decimal digits, without a leading zero
pub record Decimal (n : ℕ) (text : List ℕ) : Type 0 where
  pub value : says text ≡ n
  -- each character is a digit, and there is one at least
  pub each : (c : ℕ) → Memᴰ c text → (48 ≤ c) × (c ≤ 57)
  pub some : 0 < length text
  -- a first digit 0 is the only one
  pub lead : get_or text 0 0 ≡ 48 → text ≡ 48 ∷ []
