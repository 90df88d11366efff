-- The cells of a board, and literals.
-- Assumes nothing.
use Rattle.std.specs.Prelude.{ℕ, ◌+◌, ◌*◌, ◌≤◌, ◌≡◌, Bool, not, eqb, length, get_or}
use mathlib.Core.List.{List, Memᴰ}
use Rattle.grid.specs.Grid.{Grid, size}

-- an index with a value
abbrev pub Literal : Type 0
Literal = ℕ × ℕ

-- a literal as one number: value × 32,768 + index
unfoldable pub word : Literal → ℕ
word l = l.1 * 32768 + l.0

-- cells: 0 empty, 1 square, 2 undecided
module _ (cells : List ℕ) (i : ℕ) where
  -- decided empty
  unfoldable pub empty : Bool
  empty = eqb (get_or cells i 0) 0

  -- decided square
  unfoldable pub square : Bool
  square = eqb (get_or cells i 0) 1

  -- not decided
  unfoldable pub undecided : Bool
  undecided = eqb (get_or cells i 0) 2

  -- not empty: square or undecided
  unfoldable pub potential : Bool
  potential = not empty

-- the cells of a board: a value for each cell of the grid
pub record ValidCells (g : Grid) (cells : List ℕ) : Type 0 where
  pub long : length cells ≡ size g
  pub three : (i : ℕ) → get_or cells i 0 ≤ 2

-- each literal has the value of the cell at its index
abbrev pub Agrees : List ℕ → List Literal → Type 0
Agrees full l = (i w : ℕ) → Memᴰ (i, w) l → get_or full i 0 ≡ w
