-- The text of the program `reason`: numbers, words and lines. A character is its ASCII code.
-- Assumes nothing.
use Rattle.std.specs.Prelude.{ℕ, zero, suc, ◌+◌, ◌*◌, ◌/◌, ◌%◌, cond, ◌≡◌, List, [], ◌∷◌, ◌++◌, ltb, length, take, drop}
use Rattle.grid.specs.Cells.{Literal}

-- the decimal digits of n, of which there are at most k
unfoldable pub digits_within : ℕ → ℕ → List ℕ
digits_within zero n = []
digits_within (suc k) n = cond (ltb n 10) ((48 + n) ∷ []) (digits_within k (n / 10) ++ ((48 + n % 10) ∷ []))

-- the decimal digits of a number below 10,000
unfoldable pub digits : ℕ → List ℕ
digits n = digits_within 4 n

-- a line, with its newline
unfoldable pub line : List ℕ → List ℕ
line text = text ++ (10 ∷ [])

-- the word none
unfoldable pub none_text : List ℕ
none_text = 110 ∷ 111 ∷ 110 ∷ 101 ∷ []

-- the word reason
unfoldable pub reason_text : List ℕ
reason_text = 114 ∷ 101 ∷ 97 ∷ 115 ∷ 111 ∷ 110 ∷ []

-- the word refused
unfoldable pub refused_text : List ℕ
refused_text = 114 ∷ 101 ∷ 102 ∷ 117 ∷ 115 ∷ 101 ∷ 100 ∷ []

-- two words with a space between
unfoldable pub two_words : List ℕ → List ℕ → List ℕ
two_words a b = a ++ (32 ∷ b)

-- a literal: its index, then its value
unfoldable pub literal_line : Literal → List ℕ
literal_line l = line (two_words (digits l.0) (digits l.1))

-- a literal in two bytes, most significant first: value (1), five bits, index (10)
unfoldable pub literal_in : ℕ → ℕ → Literal
literal_in a b = ((a * 256 + b) % 1024, a / 128)

-- the literals in a list of bytes
unfoldable pub literals_in : List ℕ → List Literal
literals_in [] = []
literals_in (a ∷ []) = []
literals_in (a ∷ b ∷ rest) = literal_in a b ∷ literals_in rest

-- a list with the text from a place on in the stead of what stood there
unfoldable pub written : ℕ → List ℕ → List ℕ → List ℕ
written at text out = take at out ++ (text ++ drop (at + length text) out)

-- the text was written to a lent list from a place on: r is the place behind it, and everything else is unchanged
pub record Written (before : List ℕ) (at : ℕ) (text after : List ℕ) (r : ℕ) : Type 0 where
  pub behind : r ≡ at + length text
  pub whole : after ≡ written at text before
