-- The call for the cells that are certain: what it returns, and what it writes.
-- Assumes nothing.
use Rattle.std.specs.Prelude.{ℕ, ◌+◌, ◌/◌, ◌%◌, List, [], ◌∷◌, ◌++◌, ℤ, pos, neg_ℤ, take}
use Rattle.grid.specs.Grid.{size}
use Rattle.grid.specs.Cells.{Literal}
use Rattle.record.specs.Record.{Outcome, ok, refused}
use Rattle.record.specs.Leaf.{Leaf}
use Rattle.board.specs.Board.{cells_after}
use Rattle.exported.specs.Written.{bytes_of}
use Rattle.certain.specs.Tree.{search_of}
use Rattle.certain.specs.Facts.{certain_by, Certainty, Facts}
use Rattle.certain.specs.Facts as certainties
use Rattle.calls.specs.Call.{host_call, host_call_with}

-- the kind of an answer as a number: 0 the cells are told, 1 no such board, 2 spent, or the negated refusal number
unfoldable pub certainty_number : Certainty → ℤ
certainty_number certainties.Told = pos 0
certainty_number certainties.Impossible = pos 1
certainty_number certainties.Spent = pos 2
certainty_number (certainties.Refused k) = neg_ℤ (pos k)

-- the number of steps as eight bytes, most significant first
unfoldable pub step_bytes : ℕ → List ℕ
step_bytes n = bytes_of ((n / 281474976710656) ∷ (n / 4294967296 % 65536) ∷ (n / 65536 % 65536) ∷ (n % 65536) ∷ [])

-- the bytes of an answer for n cells: the steps, and where the cells are told one byte a cell, 0 empty, 1 square, 2 open; none after a refusal
unfoldable pub certain_bytes : ℕ → Certainty → Facts → List ℕ
certain_bytes n certainties.Told f = step_bytes f.steps ++ take n f.cells
certain_bytes n certainties.Impossible f = step_bytes f.steps
certain_bytes n certainties.Spent f = step_bytes f.steps
certain_bytes n (certainties.Refused k) f = []

-- what a call says: a number and bytes
pub record Said : Type 0 where
  pub number : ℤ
  pub bytes : List ℕ

-- what is said of n cells
unfoldable pub said_of : ℕ → Facts → Said
said_of n f = record { number = certainty_number f.answer; bytes = certain_bytes n f.answer f }

-- what is said of a leaf and its decisions
abbrev pub certain_on : ℕ → Leaf → List Literal → Said
certain_on budget l ds = said_of (size l.puzzle.grid) (certain_by (size l.puzzle.grid) budget (search_of l (cells_after l.puzzle.grid ds)))

-- the call opens, decides in order and tells which cells are certain: 11 for an output below 8 + H × W bytes
unfoldable pub host_certain : List ℕ → List ℕ → ℕ → ℕ → Outcome Said
host_certain s decisions budget k = host_call (λ g. 8 + size g) (certain_on budget) s decisions k

-- the same in the edition e with sizes
unfoldable pub host_certain_with : List ℕ → ℕ → List ℕ → List ℕ → ℕ → ℕ → Outcome Said
host_certain_with s e sizes decisions budget k = host_call_with (λ g. 8 + size g) (certain_on budget) s e sizes decisions k

-- the number returned: what is said, or the negated refusal number
unfoldable pub said_number : Outcome Said → ℤ
said_number (refused k) = neg_ℤ (pos k)
said_number (ok x) = x.number

-- the bytes to be written, for `output_with`
unfoldable pub said_bytes : Outcome Said → Outcome (List ℕ)
said_bytes (refused k) = refused k
said_bytes (ok x) = ok x.bytes
