-- A puzzle as the code keeps it, and an answer by its number.
-- Assumes nothing.
use Rattle.std.specs.Prelude.{ℕ, ◌+◌, ◌-◌, List, [], ◌∷◌, length, take, drop}
use Rattle.grid.specs.Lists.{last, flat_map, array_of}
use Rattle.grid.specs.Grid.{Grid, size}
use Rattle.fields.specs.Fields.{Outcome, ok, ◌>>=◌}
use Rattle.record.specs.Record.{Puzzle}
use Rattle.record.specs.declared.Problem.{Problem}

-- the answer to a call that can be refused, with the number of the README's table
pub data Answer : Type 0 where
  Done : Answer
  Refused : ℕ → Answer

-- the number of an answer: 0 where the call is done, else that of the refusal
unfoldable pub number_of : Answer → ℕ
number_of Done = 0
number_of (Refused k) = k

-- where each arrow ends, when their cells stand one after another from `at` on
unfoldable pub ends_from : ℕ → List (List ℕ) → List ℕ
ends_from at [] = []
ends_from at (a ∷ rest) = (at + length a) ∷ ends_from (at + length a) rest

-- the cells of all arrows, one arrow after another
unfoldable pub arrow_cells : List (List ℕ) → List ℕ
arrow_cells = flat_map (λ a. a)

-- a puzzle in arrays
unfoldable pub problem_of : Puzzle → Problem
problem_of p = record {
  height = p.grid.height;
  width = p.grid.width;
  cells = array_of 0 p.given;
  arrows = array_of 0 (arrow_cells p.arrows);
  ends = array_of 0 (ends_from 0 p.arrows);
  count = length p.arrows;
}

-- the grid of a problem
unfoldable pub grid_of : Problem → Grid
grid_of q = record { height = q.height; width = q.width }

-- the arrows that end at the places es, the first from `at` on
unfoldable pub arrows_from : List ℕ → ℕ → List ℕ → List (List ℕ)
arrows_from line at [] = []
arrows_from line at (e ∷ es) = take (e - at) (drop at line) ∷ arrows_from line e es

-- the puzzle that the arrays keep
unfoldable pub puzzle_of : Problem → Puzzle
puzzle_of q = record {
  grid = grid_of q;
  given = take (size (grid_of q)) q.cells;
  arrows = arrows_from q.arrows 0 (take q.count q.ends);
}

-- how many cells the arrows of a problem have together: where the last of them ends
abbrev pub total_of : Problem → ℕ
total_of q = last 0 (take q.count q.ends)

-- the problem of the puzzle that was read, or the refusal
unfoldable pub as_problem : Outcome Puzzle → Outcome Problem
as_problem o = o >>= λ p. ok (problem_of p)

-- the problem of no cells that stands beside a refusal
unfoldable pub blank : Problem
blank = record { height = 0; width = 0; cells = array_of 0 []; arrows = array_of 0 []; ends = array_of 0 []; count = 0 }
