-- What the inner steps of reading sizes promise each other.
-- Assumes nothing.
use Rattle.std.specs.Prelude.{ℕ, ◌≤◌, ◌<◌, ◌≡◌, Bool, false, List, length, get_or}
use Rattle.grid.specs.Marks.{Marks}
use Rattle.record.specs.Record.{Puzzle, Outcome, ok, refused, ◌>>=◌}
use Rattle.record.specs.Valid.{Valid}
use Rattle.record.specs.Leaf.{Range, ranges_from, sizes_of}
use Rattle.record.specs.Problem.{problem_of}

-- the arrays hold the arrows of the puzzle p
pub record Drawn (p : Puzzle) (arrows ends : List ℕ) (count : ℕ) : Type 0 where
  pub valid : Valid p
  pub line : arrows ≡ (problem_of p).arrows
  pub cuts : ends ≡ (problem_of p).ends
  pub number : count ≡ (problem_of p).count

-- there is a number k in a list, and it is this one
abbrev pub HasNumber : Outcome (List ℕ) → ℕ → Type 0
HasNumber (ok ns) k = k < length ns
HasNumber (refused j) k = ⊥

abbrev pub number_at : Outcome (List ℕ) → ℕ → ℕ
number_at (ok ns) k = get_or ns k 0
number_at (refused j) k = 0

-- the cells that pass are marked, and none passes behind the marks
pub record MarkedAll (marks : List ℕ) (on : ℕ → Bool) : Type 0 where
  pub marks_are : Marks marks on
  pub none : (i : ℕ) → 1024 ≤ i → on i ≡ false

-- the ranges in a list of numbers, by a test of the cells
unfoldable pub ranges_said : (ℕ → Bool) → Outcome (List ℕ) → Outcome (List Range)
ranges_said on o = o >>= ranges_from on 0

-- the sizes in a list of numbers, beside arrow cells of a puzzle
unfoldable pub sizes_said : Puzzle → Outcome (List ℕ) → Outcome (List Range)
sizes_said p o = o >>= sizes_of p
