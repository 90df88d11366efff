-- Arrays of marks.
-- Assumes nothing.
use Rattle.std.specs.Prelude.{ℕ, ◌<◌, ◌≡◌, Bool, cond, List, length, get_or}

-- an array of marks: 1 where the test passes, and 0 elsewhere
pub record Marks (marks : List ℕ) (test : ℕ → Bool) : Type 0 where
  pub long : length marks ≡ 1024
  pub at : (m : ℕ) → m < 1024 → get_or marks m 0 ≡ cond (test m) 1 0
