-- What a list says of the program's text, and what `respond` leaves of a fresh room for it.
-- Assumes nothing.
use Rattle.std.specs.Prelude.{ℕ, ◌+◌, false, ◌≡◌, List, length, take, drop, replicate, Option}
use Rattle.text.specs.Text.{written}
use Rattle.answer.specs.Program.{printed}
use Rattle.replay.specs.Comparisons.{Counts}
use Rattle.replay.specs.Lists.{number_at, byte_in, differs}
use Rattle.replay.specs.declared.Run.{Run}

-- a fresh room after the answer to an input was written to it
unfoldable pub left : List ℕ → List ℕ
left input = written 0 (printed input) (replicate 21523 255)

-- the text for an input has so many bytes, those of a list from a place on, and nothing is written behind it
abbrev pub AnswersSo : List ℕ → List ℕ → ℕ → ℕ → Type 0
AnswersSo input list at count = (length (printed input) ≡ count) × (differs (left input) (byte_in list at count 0 255) 0 ≡ false)

-- where the length of the text stands of the entry at a place: behind the input, which its own length is before
abbrev pub text_at : List ℕ → ℕ → ℕ
text_at list at = at + 2 + number_at list at

-- what the entry at a place counts: that the text for its input is its text
abbrev pub EntrySo : List ℕ → ℕ → Option Run → Type 0
EntrySo list at =
    Counts list (text_at list at + 2 + number_at list (text_at list at))
    (AnswersSo (take (number_at list at) (drop (at + 2) list)) list (text_at list at + 2) (number_at list (text_at list at)))
