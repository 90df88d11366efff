-- Signed moves on the grid, and the four neighbours one by one.
-- Assumes nothing.
use Rattle.std.specs.Prelude.{ℕ, zero, suc, ◌+◌, ◌-◌, ◌*◌, ◌≤◌, ◌<◌, ◌≡◌, Bool, cond, ◌&&◌, List, [], ◌∷◌, eqb, ltb, ℤ, pos, negsuc, ◌-ℤ◌, Option, Some, None}
use Rattle.grid.specs.Grid.{Grid, size, row, col, up, down, left, right}

-- the grid of h rows and w columns
abbrev pub sized : ℕ → ℕ → Grid
sized h w = record { height = h; width = w }

-- the place that a signed offset leads to, if it is 0 or more and below the limit
unfoldable pub moved_of : ℕ → ℤ → ℕ → Option ℕ
moved_of at (pos n) limit = cond (ltb (at + n) limit) (Some (at + n)) None
moved_of at (negsuc n) limit = cond (ltb n at) (cond (ltb (at - suc n) limit) (Some (at - suc n)) None) None

-- the cell at a row and a column
unfoldable pub side_at : ℕ → Option ℕ → Option ℕ → Option ℕ
side_at w (Some y) (Some x) = Some (y * w + x)
side_at w (Some y) None = None
side_at w None t = None

-- a shift: the cell at row y, column x of an h by w grid, moved by a signed row and column offset
unfoldable pub shifted_of : ℕ → ℕ → ℕ → ℕ → ℤ → ℤ → Option ℕ
shifted_of h w y x dy dx = side_at w (moved_of y dy h) (moved_of x dx w)

-- the shift that takes the cell f to the cell t, by its signed row and column offset: where it takes the cell c
abbrev pub landing : Grid → ℕ → ℕ → ℕ → Option ℕ
landing g f t c = shifted_of g.height g.width (row g c) (col g c) (pos (row g t) -ℤ pos (row g f)) (pos (col g t) -ℤ pos (col g f))

-- the same without signs: that shift takes c to the cell d
pub record Landed (g : Grid) (f t c d : ℕ) : Type 0 where
  pub inside : d < size g
  pub rows : row g d + row g f ≡ row g c + row g t
  pub cols : col g d + col g f ≡ col g c + col g t

-- the two sums as a test, which does not ask whether d is a cell of the grid
abbrev pub lands : Grid → ℕ → ℕ → ℕ → ℕ → Bool
lands g f t c d = eqb (row g d + row g f) (row g c + row g t) && eqb (col g d + col g f) (col g c + col g t)

-- the neighbour in direction k, as a list of at most one: up, down, left, right
unfoldable pub towards : Grid → ℕ → ℕ → List ℕ
towards g i zero = up g i
towards g i (suc zero) = down g i
towards g i (suc (suc zero)) = left g i
towards g i (suc (suc (suc k))) = right g i

-- the cell of such a list
unfoldable pub side_of : List ℕ → Option ℕ
side_of [] = None
side_of (j ∷ js) = Some j

-- the neighbour in direction k
unfoldable pub beside_of : Grid → ℕ → ℕ → Option ℕ
beside_of g i k = side_of (towards g i k)

-- a cell of a grid of at most 32 by 32
pub record InGrid (h w i : ℕ) : Type 0 where
  pub tall : h ≤ 32
  pub wide : w ≤ 32
  pub within : i < h * w

-- the same by its row and column
pub record InPlace (h w y x : ℕ) : Type 0 where
  pub tall : h ≤ 32
  pub wide : w ≤ 32
  pub row : y < h
  pub column : x < w
