-- Which arrays keep sizes that may stand (a part of refusal 6): in meaning, and as a test.
-- Assumes nothing.
use Rattle.std.specs.Prelude.{ℕ, ◌<◌, ◌⊎◌, ◌≡◌, Bool, cond, ◌&&◌, List, eqb, leb, length, get_or}
use Rattle.grid.specs.Lists.{all, upto}
use Rattle.record.specs.Leaf.{range_at}
use Rattle.record.specs.Sizes.{Proper}
use Rattle.form.specs.Form.{long}

-- each cell has no size, or a range that is proper: on an arrow, not from 0 and not upside down
pub record SizeArrays (arrows : List (List ℕ)) (lowest highest : List ℕ) : Type 0 where
  pub lowest_long : length lowest ≡ 1024
  pub highest_long : length highest ≡ 1024
  pub each : (i : ℕ) → i < 1024 → ((get_or lowest i 0 ≡ 0) × (get_or highest i 0 ≡ 0)) ⊎ Proper arrows (range_at i (get_or lowest i 0) (get_or highest i 0))

-- the same as a test: of one cell, by the arrow cells
unfoldable pub sized_cell : (ℕ → Bool) → List ℕ → List ℕ → ℕ → Bool
sized_cell on lowest highest i = cond (eqb (get_or lowest i 0) 0) (eqb (get_or highest i 0) 0) (leb (get_or lowest i 0) (get_or highest i 0) && on i)

-- of all cells
unfoldable pub sizes_formed : (ℕ → Bool) → List ℕ → List ℕ → Bool
sizes_formed on lowest highest = (long lowest && long highest) && all (sized_cell on lowest highest) (upto 1024)
