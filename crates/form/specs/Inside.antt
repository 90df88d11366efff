-- What the inner steps of the tests of arrays promise each other.
-- Assumes nothing.
use Rattle.std.specs.Prelude.{ℕ, ◌%◌, ◌≤◌, ◌<◌, true, cond, ◌≡◌, List, eqb, length, get_or}
use Rattle.grid.specs.Lists.{last}
use Rattle.form.specs.Form.{rises}

-- 1,024 places with 0 in each
pub record Blank (l : List ℕ) : Type 0 where
  pub long : length l ≡ 1024
  pub each : (i : ℕ) → get_or l i 0 ≡ 0

-- of the first n cells, 1 at those that begin a row of w, 0 at every other
pub record RowStarts (n w : ℕ) (l : List ℕ) : Type 0 where
  pub long : length l ≡ 1024
  pub each : (i : ℕ) → i < n → get_or l i 0 ≡ cond (eqb (i % w) 0) 1 0

-- the ends es rise, and the arrows that end there lie in an array, on n cells
pub record Cut (n : ℕ) (es l : List ℕ) : Type 0 where
  pub rise : rises 0 es ≡ true
  pub few : last 0 es ≤ 1024
  pub on_grid : (i : ℕ) → i < last 0 es → get_or l i 0 < n
