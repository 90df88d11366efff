-- What is asked of the arrays of a leaf that is lent: its arrows and its sizes.
-- Assumes nothing.
use Rattle.std.specs.Prelude.{ℕ, ◌≤◌, ◌<◌, ◌≡◌, true, List, length, get_or, take}
use Rattle.record.specs.Problem.{arrow_cells}
use Rattle.groups.specs.Arrows.{on_arrow}
use Rattle.groups.specs.Arrays.{lines_of, Drawn}

-- the arrays hold the arrows of a board of n cells; together the arrows have `total` cells, which stand first in the array
pub record ArrowArrays (n : ℕ) (arrows ends : List ℕ) (number total : ℕ) : Type 0 where
  pub drawn : Drawn n arrows ends number
  pub within : total ≤ 1024
  pub cells_are : take total arrows ≡ arrow_cells (lines_of arrows ends number)

-- the slices hold sizes for cells of a board of n cells with these arrows: each sized cell is an arrow cell, and no range is upside down
pub record SizesOn (n : ℕ) (lines : List (List ℕ)) (lows highs : List ℕ) : Type 0 where
  pub few : length lows ≤ n
  pub both : length highs ≡ length lows
  pub are_on_arrow : (i : ℕ) → i < length lows → (get_or lows i 0 ≡ 0 → ⊥) → on_arrow lines i ≡ true
  pub order : (i : ℕ) → i < length lows → get_or lows i 0 ≤ get_or highs i 0
