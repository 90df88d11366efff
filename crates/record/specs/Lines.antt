-- Arrows in arrays: their cells one after another in a line, and for each the place where it ends.
-- Assumes nothing.
use Rattle.std.specs.Prelude.{ℕ, zero, suc, ◌*◌, ◌≤◌, ◌<◌, List, get_or}

-- where arrow k starts: where the one before it ends
unfoldable pub start_at : List ℕ → ℕ → ℕ
start_at ends zero = 0
start_at ends (suc k) = get_or ends k 0

-- `count` arrows of a grid stand in the line, and each has a cell
pub record Lines (height width : ℕ) (line ends : List ℕ) (count : ℕ) : Type 0 where
  pub tall : height ≤ 32
  pub some : 0 < width
  pub wide : width ≤ 32
  pub few : count ≤ 1024
  pub rising : (k : ℕ) → k < count → start_at ends k < get_or ends k 0
  pub room : (k : ℕ) → k < count → get_or ends k 0 ≤ 1024
  pub cells : (k : ℕ) → k < count → (j : ℕ) → j < get_or ends k 0 → get_or line j 0 < height * width
