-- Two puzzles in arrays, side by side: what the functions of the crate promise each other.
-- Assumes nothing.
use Rattle.std.specs.Prelude.{ℕ, ◌+◌, ◌/◌, ◌%◌, ◌≤◌, ◌<◌, ◌≡◌, List, ◌++◌, map, length, get_or}
use Rattle.grid.specs.Lists.{array_of}
use Rattle.record.specs.declared.Problem.{Problem}
use Rattle.join.specs.Join.{code_beside}

-- grids of these sizes can stand side by side
pub record SideBySide (height left right : ℕ) : Type 0 where
  pub tall : height ≤ 32
  pub wide : left + 1 + right ≤ 32

-- a row and a column of them
pub record Spot (left right y x : ℕ) : Type 0 where
  pub row : y < 32
  pub column : x < left + 1 + right
  pub wide : left + 1 + right ≤ 32

-- the cell i of a grid of w columns has a place among m columns, from the column d on
pub record Placing (d w m i : ℕ) : Type 0 where
  pub some : 0 < w
  pub row : i / w < 32
  pub inside : d + w ≤ m
  pub wide : m ≤ 32

-- the code of the cell j of the joined grid, from the arrays of two problems
abbrev pub code_on : Problem → Problem → ℕ → ℕ
code_on l r j = code_beside l.cells l.width r.cells r.width (j / (l.width + 1 + r.width)) (j % (l.width + 1 + r.width))

-- what stands in the relation R to a number of the list is G of that number
abbrev pub Gives : (ℕ → ℕ → Type 0) → (ℕ → ℕ) → List ℕ → Type 0
Gives R G list = (k y : ℕ) → k < length list → R (get_or list k 0) y → y ≡ G (get_or list k 0)

-- G of each number of the list is put behind the first `at` places
abbrev pub Behind : ℕ → (ℕ → ℕ) → List ℕ → List ℕ → List ℕ → Type 0
Behind at G list entry exit = (l : List ℕ) → length l ≡ at → entry ≡ array_of 0 l → exit ≡ array_of 0 (l ++ map G list)
