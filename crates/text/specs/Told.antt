-- What the number that the host call returns says, and the text for it.
-- Assumes nothing.
use Rattle.std.specs.Prelude.{ℕ, zero, suc, ◌*◌, List, ◌++◌, ℤ, pos, negsuc, take, Ok, Err}
use Rattle.std.specs.declared.result.Result.{Result}
use Rattle.grid.specs.Lists.{flat_map}
use Rattle.text.specs.Text.{digits, line, two_words, none_text, reason_text, refused_text, literal_line, literals_in}

-- the literal count, 0 for none, or the negated refusal number
unfoldable pub told_by : ℤ → Result ℕ ℕ
told_by (pos n) = Ok n
told_by (negsuc k) = Err (suc k)

-- the text, where the literals stand in the first of the bytes found
unfoldable pub told_text : Result ℕ ℕ → List ℕ → List ℕ
told_text (Err k) found = line (two_words refused_text (digits k))
told_text (Ok zero) found = line none_text
told_text (Ok (suc n)) found = line (two_words reason_text (digits (suc n))) ++ flat_map literal_line (literals_in (take (2 * suc n) found))
