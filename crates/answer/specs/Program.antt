-- The program `reason`: what it prints for its standard input.
-- Assumes nothing.
use Rattle.std.specs.Prelude.{ℕ, ◌+◌, ◌*◌, cond, List, [], ◌∷◌, ◌++◌, ltb, length, get_or, take, drop}
use Rattle.std.proofs.Math.Option.{none, some}
use Rattle.grid.specs.Lists.{flat_map}
use Rattle.record.specs.Record.{Outcome, ok, refused}
use Rattle.literals.specs.Literals.{Found}
use Rattle.calls.specs.Found.{host_finds}
use Rattle.text.specs.Text.{digits, line, two_words, none_text, reason_text, refused_text, literal_line}

-- the text for what the host call finds
unfoldable pub text_of : Outcome Found → List ℕ
text_of (refused k) = line (two_words refused_text (digits k))
text_of (ok none) = line none_text
text_of (ok (some r)) = line (two_words reason_text (digits (length r))) ++ flat_map literal_line r

-- the length of an output that is long enough for every record: 2 × (3 × 1,024 + 1) bytes
unfoldable pub output_limit : ℕ
output_limit = 6146

-- the record's length as the input's first two bytes say it, high byte first
abbrev pub length_said : List ℕ → ℕ
length_said input = get_or input 0 0 * 256 + get_or input 1 0

-- a record of l bytes, then decisions; 1 where the input is too short for it
unfoldable pub answer_of : ℕ → List ℕ → Outcome Found
answer_of l rest = cond (ltb (length rest) l) (refused 1) (host_finds (take l rest) (drop l rest) output_limit)

-- the record's length in two bytes, high byte first, then the rest
unfoldable pub input_answer : List ℕ → Outcome Found
input_answer [] = refused 1
input_answer (a ∷ []) = refused 1
input_answer (a ∷ b ∷ rest) = answer_of (a * 256 + b) rest

-- what the program finds in its input: 12 for more than 8,192 bytes comes first
unfoldable pub program_finds : List ℕ → Outcome Found
program_finds input = cond (ltb 8192 (length input)) (refused 12) (input_answer input)

-- what the program prints
unfoldable pub printed : List ℕ → List ℕ
printed input = text_of (program_finds input)
