-- Cells of an arrow that count, by a closure that says which.
-- Assumes nothing.
use Rattle.std.specs.Prelude.{ℕ, ◌<◌, ◌≡◌, Bool, List, leb, length}
use Rattle.grid.specs.Lists.{filter}

-- what its calls answer is this test of the cell
abbrev pub Tells : (ℕ → Bool → Type 0) → (ℕ → Bool) → Type 0
Tells post test = (i : ℕ) → i < 1024 → (told : Bool) → post i told → told ≡ test i

-- two cells or more of the arrow a pass the test
abbrev pub two_of : (ℕ → Bool) → List ℕ → Bool
two_of test a = leb 2 (length (filter test a))
