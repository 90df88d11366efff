-- Sizes as a board keeps them: the lowest and the highest of each cell in two arrays, with 0 at every cell that has none.
-- Assumes nothing.
use Rattle.std.specs.Prelude.{ℕ, ◌≡◌, cond, List, [], ◌∷◌, map, eqb}
use Rattle.grid.specs.Lists.{upto}
use Rattle.record.specs.Leaf.{Range}
use Rattle.sizes.specs.declared.CellSizes.{CellSizes}

-- one end of the range beside the cell i, 0 where no range has it
unfoldable pub size_at : (Range → ℕ) → List Range → ℕ → ℕ
size_at end [] i = 0
size_at end (r ∷ rs) i = cond (eqb r.cell i) (end r) (size_at end rs i)

-- the same for every cell, in an array
unfoldable pub size_array : (Range → ℕ) → List Range → List ℕ
size_array end rs = map (size_at end rs) (upto 1024)

-- the lowest sizes, and the highest
abbrev pub lowest_of : List Range → List ℕ
lowest_of = size_array (λ (r : Range). r.lowest)

abbrev pub highest_of : List Range → List ℕ
highest_of = size_array (λ (r : Range). r.highest)

-- the two arrays keep the ranges
abbrev pub Keeps : List Range → CellSizes → Type 0
Keeps rs sizes = (sizes.lowest ≡ lowest_of rs) × (sizes.highest ≡ highest_of rs)
