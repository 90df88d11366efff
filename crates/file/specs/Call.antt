-- The exported calls for a file: what they return, and what their output holds then.
-- Assumes nothing.
use Rattle.std.specs.Prelude.{ℕ, ◌+◌, List, [], ◌∷◌, leb, ℤ, pos, neg_ℤ}
use Rattle.fields.specs.Fields.{Outcome, ok, refused, ◌>>=◌, unless}
use Rattle.record.specs.Head.{read_head}
use Rattle.file.specs.File.{cells_in, Graded, Solved, player_behind, setter_behind}

-- the player's reader for an output of n bytes: 11 for one below 1 byte comes after the record's refusals and before 20
unfoldable pub player_within : ℕ → List ℕ → Outcome Graded
player_within n s =
    read_head s >>= λ h.
    unless (leb 1 n) 11 >>= λ _.
    player_behind s h

-- the setter's reader, with 11 for an output below 1 + H × W bytes
unfoldable pub setter_within : ℕ → ℕ → List ℕ → Outcome Solved
setter_within n e s =
    read_head s >>= λ h.
    unless (leb (1 + cells_in h) n) 11 >>= λ _.
    setter_behind e s h

-- what a call gives: the record's length in bytes, and the bytes that are written
pub record Given : Type 0 where
  pub length : ℕ
  pub bytes : List ℕ

-- to the player: the grade
unfoldable pub to_player : Graded → Given
to_player f = record { length = f.head.bytes; bytes = f.grade ∷ [] }

-- to the setter: the grade, and for each cell 1 for a square and 0 for an empty one
unfoldable pub to_setter : Solved → Given
to_setter f = record { length = f.graded.head.bytes; bytes = f.graded.grade ∷ f.solution }

-- the two calls
unfoldable pub player_given : ℕ → List ℕ → Outcome Given
player_given n s = player_within n s >>= λ f. ok (to_player f)

unfoldable pub setter_given : ℕ → ℕ → List ℕ → Outcome Given
setter_given n e s = setter_within n e s >>= λ f. ok (to_setter f)

-- the number returned: the record's length, or the negated refusal number
unfoldable pub given_length : Outcome Given → ℤ
given_length (refused k) = neg_ℤ (pos k)
given_length (ok a) = pos a.length

-- the bytes that are written to the front of the output
unfoldable pub given_bytes : Outcome Given → Outcome (List ℕ)
given_bytes o = o >>= λ a. ok a.bytes
