-- The shift test of reason 3 on arrays: a block's cells by their rows and columns, a reach by a test of a cell.
-- Assumes nothing.
use Rattle.std.specs.Prelude.{ℕ, ◌/◌, ◌%◌, ◌<◌, ◌≡◌, Bool, false, List, map, zip, ℤ, pos, ◌-ℤ◌, length, get_or, Option, Some, None}
use Rattle.grid.specs.Lists.{upto, all, filter}
use Rattle.kinds.specs.declared.BoardInfo.{BoardInfo}
use Rattle.kinds.specs.Board.{cell_count}
use Rattle.kinds.specs.Inside.{of_block}
use Rattle.grid.specs.Side.{shifted_of}

-- the cells of the arrow block named f among the first n, by their kinds and owners
unfoldable pub block_in : List ℕ → List ℕ → ℕ → ℕ → List ℕ
block_in kinds owners n f = filter (of_block kinds owners f) (upto n)

-- the same of a board
abbrev pub block_on : BoardInfo → ℕ → List ℕ
block_on info = block_in info.kinds.now info.owners.now (cell_count info)

-- the rows and the columns of the cells b
pub record BlockPlaces (w : ℕ) (b rows columns : List ℕ) : Type 0 where
  pub rows_are : rows ≡ map (λ i. i / w) b
  pub columns_are : columns ≡ map (λ i. i % w) b

-- there are as many columns as rows, and each row and the column beside it are those of a cell of a grid
pub record Places (h w : ℕ) (rows columns : List ℕ) : Type 0 where
  pub both : length columns ≡ length rows
  pub row : (k : ℕ) → k < length rows → get_or rows k 0 < h
  pub column : (k : ℕ) → k < length rows → get_or columns k 0 < w

-- a move leads to a cell that passes the test
unfoldable pub lands_in : (ℕ → Bool) → Option ℕ → Bool
lands_in test (Some d) = test d
lands_in test None = false

-- every cell, moved by a signed row and column offset, comes to a cell that passes
unfoldable pub all_land : ℕ → ℕ → List ℕ → List ℕ → (ℕ → Bool) → ℤ → ℤ → Bool
all_land h w rows columns test dy dx = all (λ (place : ℕ × ℕ). lands_in test (shifted_of h w place.0 place.1 dy dx)) (zip rows columns)

-- the shift that takes the cell at row fy, column fx to the cell t takes every cell to one that passes
unfoldable pub fits_at : ℕ → ℕ → List ℕ → List ℕ → (ℕ → Bool) → ℕ → ℕ → ℕ → Bool
fits_at h w rows columns test fy fx t = all_land h w rows columns test (pos (t / w) -ℤ pos fy) (pos (t % w) -ℤ pos fx)
