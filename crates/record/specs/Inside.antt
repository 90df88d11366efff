-- What the functions inside `read` answer: an outcome of Record as the code's value, and what the lent arrays hold then.
-- Assumes nothing.
use Rattle.record.specs.declared.Problem.{Problem}
use Rattle.std.specs.Prelude.{ℕ, ◌*◌, ◌+◌, ◌<◌, ◌≡◌, Bool, not, length}
use mathlib.Core.List.{List, [], Memᴰ}
use Rattle.grid.specs.Lists.{member, array_of}
use Rattle.grid.specs.Marks.{Marks}
use Rattle.grid.specs.Grid.{Grid}
use Rattle.fields.specs.Fields.{Outcome, ok, ◌>>=◌, unless, filler, rest_zero}
use Rattle.fields.specs.Inside.{step_at}
use Rattle.fields.specs.declared.Place.{Place}
use Rattle.record.specs.Record.{Puzzle}
use Rattle.record.specs.Problem.{arrow_cells}
use Rattle.record.specs.Head.{arrows_in, read_fields, head_bits}
use Rattle.record.specs.Valid.{Fresh}
use Rattle.record.specs.declared.Extent.{Extent}
use Rattle.record.specs.declared.Extent.TheVariants.{Whole, Head}

-- the arrays hold the arrow cells l: one after another, and each marked
pub record Kept (l line marks : List ℕ) : Type 0 where
  pub once : Fresh [] l
  pub within : (x : ℕ) → Memᴰ x l → x < 1024
  pub kept : line ≡ array_of 0 l
  pub marked : Marks marks (λ x. member x l)

-- the cell that the step at `at` leads to, if no arrow uses it
unfoldable pub take_at : List ℕ → Grid → List ℕ → ℕ → ℕ → Outcome ℕ
take_at s g used i at =
    step_at s g i at >>= λ j.
    unless (not (member j used)) 4 >>= λ _.
    ok j

-- the cell j is the one at this place of a grid
pub record AtCell (height width j : ℕ) (place : Place) : Type 0 where
  pub cell : j ≡ place.row * width + place.col
  pub row_small : place.row < height
  pub col_small : place.col < width

-- whether a record's fields may end at `at`: those of a whole record, or of one at the head of a file
unfoldable pub ended : Extent → List ℕ → ℕ → Bool
ended Whole = filler
ended Head = rest_zero

-- m arrows from at, and what stands behind them
unfoldable pub arrows_ended : Extent → List ℕ → Grid → ℕ → ℕ → Outcome (List (List ℕ))
arrows_ended extent s g at m =
    arrows_in s g [] at m >>= λ l.
    unless (ended extent s (at + 18 * m + 2 * length (arrow_cells l))) 5 >>= λ _.
    ok l

-- the puzzle of a whole record, or of one at the head of a file
unfoldable pub read_as : Extent → List ℕ → Outcome Puzzle
read_as extent s =
    read_fields s >>= λ p.
    unless (ended extent s (head_bits p)) 5 >>= λ _.
    ok p

-- room for a problem
abbrev pub no_problem : Problem
no_problem = record { height = 0; width = 0; cells = array_of 0 []; arrows = array_of 0 []; ends = array_of 0 []; count = 0 }
