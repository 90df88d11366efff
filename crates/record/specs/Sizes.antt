-- Sizes that may stand on a puzzle, the numbers that open takes them as, and sizes kept in two arrays by cell.
-- Assumes nothing.
use Rattle.std.specs.Prelude.{ℕ, ◌≤◌, ◌<◌, cond, eqb, get_or}
use mathlib.Core.List.{List, [], ◌∷◌, map, Memᴰ}
use Rattle.grid.specs.Lists.{Rising, upto, flat_map}
use Rattle.record.specs.Record.{Puzzle}
use Rattle.record.specs.Leaf.{Range}
use Rattle.record.specs.Arrows.{OnArrow}

-- the cells of ranges
abbrev pub sized_cells : List Range → List ℕ
sized_cells = map (λ (r : Range). r.cell)

-- a range sits on an arrow, does not start at 0 and is not upside down
pub record Proper (arrows : List (List ℕ)) (r : Range) : Type 0 where
  pub on : OnArrow arrows r.cell
  pub least : 1 ≤ r.lowest
  pub order : r.lowest ≤ r.highest

-- each range is such a one, and their cells rise
pub record GoodSizes (p : Puzzle) (sizes : List Range) : Type 0 where
  pub rising : Rising (sized_cells sizes)
  pub each : (r : Range) → Memᴰ r sizes → Proper p.arrows r

-- ranges as numbers: cell, lowest and highest for each
unfoldable pub numbers_of : List Range → List ℕ
numbers_of = flat_map (λ (r : Range). r.cell ∷ r.lowest ∷ r.highest ∷ [])

-- a list of 16-bit numbers, as a slice of u16 holds them
abbrev pub Words : List ℕ → Type 0
Words ns = (x : ℕ) → Memᴰ x ns → x < 65536

-- the range of the cell i, where the lowest and the highest sizes of the cells are these; a lowest size of 0 is none
unfoldable pub kept_at : (ℕ → ℕ) → (ℕ → ℕ) → ℕ → List Range
kept_at low high i = cond (eqb (low i) 0) [] (record { cell = i; lowest = low i; highest = high i } ∷ [])

-- the ranges of the first n cells, rising
unfoldable pub kept_by : (ℕ → ℕ) → (ℕ → ℕ) → ℕ → List Range
kept_by low high n = flat_map (kept_at low high) (upto n)

-- the ranges that two arrays keep for the first n cells
abbrev pub kept_ranges : List ℕ → List ℕ → ℕ → List Range
kept_ranges lows highs = kept_by (λ i. get_or lows i 0) (λ i. get_or highs i 0)
