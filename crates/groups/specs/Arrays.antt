-- The arrays of the code: the groups of all cells, marks of cells, and the arrows.
-- Assumes nothing.
use Rattle.std.specs.Prelude.{ℕ, ◌+◌, ◌≤◌, ◌<◌, ◌≡◌, Bool, cond, eqb, length, get_or, take}
use mathlib.Core.List.{List, map, Memᴰ}
use Rattle.grid.specs.Grid.{Grid, size, cells_of}
use Rattle.grid.specs.Lists.{filter, array_of}
use Rattle.grid.specs.Cells.{square, potential}
use Rattle.record.specs.Problem.{arrows_from}
use Rattle.record.specs.Record.{Puzzle}
use Rattle.groups.specs.declared.Members.{Members}
use Rattle.groups.specs.declared.Members.TheVariants.{Potential, Squares}
use Rattle.groups.specs.Groups.{labels, group, names}
use Rattle.groups.specs.Arrows.{on_arrow}

-- the number that stands for no group
abbrev pub no_group : ℕ
no_group = 1024

-- the first cell of the group of cell i, or that it has none
unfoldable pub label_at : Grid → (ℕ → Bool) → ℕ → ℕ
label_at g p i = cond (p i) (get_or (labels g p) i 0) no_group

-- the same for every cell, in an array
unfoldable pub label_array : Grid → (ℕ → Bool) → List ℕ
label_array g p = array_of no_group (map (label_at g p) (cells_of g))

-- the cells that count: for potential groups those that aren't empty, for blocks the squares
unfoldable pub counts : Members → List ℕ → ℕ → Bool
counts Potential = potential
counts Squares = square

-- 1 for each cell that passes the test and 0 for each other, in an array
unfoldable pub mask_of : Grid → (ℕ → Bool) → List ℕ
mask_of g p = array_of 0 (map (λ i. cond (p i) 1 0) (cells_of g))

-- cell i has a mark in an array
unfoldable pub marked : List ℕ → ℕ → Bool
marked marks i = eqb (get_or marks i 0) 1

-- how many cells of the group named f pass the test t: 0 where no group has that name
abbrev pub tally_of : Grid → (ℕ → Bool) → (ℕ → Bool) → ℕ → ℕ
tally_of g p t f = length (filter t (group g p (labels g p) f))

-- an array has this number at each cell of the grid
pub record Counted (g : Grid) (p t : ℕ → Bool) (counts : List ℕ) : Type 0 where
  pub long : length counts ≡ 1024
  pub at : (f : ℕ) → f < size g → get_or counts f 0 ≡ tally_of g p t f

-- what the grouping step tells of the groups of the cells that pass: the name of each cell's group, which is its first cell; the first cells of all
-- groups, rising, with their number; and by first cell how many squares and how many arrow cells each group has
pub record GroupTable (g : Grid) (p sq arrow : ℕ → Bool) (groups firsts squares arrowed : List ℕ) (number : ℕ) : Type 0 where
  pub groups_are : groups ≡ label_array g p
  pub firsts_long : length firsts ≡ 1024
  pub firsts_are : take number firsts ≡ names g p (labels g p)
  pub number_is : number ≡ length (names g p (labels g p))
  pub squares_are : Counted g p sq squares
  pub arrowed_are : Counted g p arrow arrowed

-- the first c of 1024 places have names below 1024
pub record Names (names : List ℕ) (c : ℕ) : Type 0 where
  pub long : length names ≡ 1024
  pub few : c ≤ 1024
  pub small : (k : ℕ) → k < c → get_or names k 0 < 1024

-- the table of a board's groups: of the cells that pass the test
abbrev pub TableOf : Puzzle → List ℕ → (ℕ → Bool) → List ℕ → List ℕ → List ℕ → List ℕ → ℕ → Type 0
TableOf p cells test = GroupTable p.grid test (square cells) (on_arrow p.arrows)

-- an array of cells
pub record CellArray (a : List ℕ) : Type 0 where
  pub long : length a ≡ 1024
  pub cells : (k : ℕ) → get_or a k 0 < 1024

-- all arrows as they stand in arrays
abbrev pub lines_of : List ℕ → List ℕ → ℕ → List (List ℕ)
lines_of arrows ends count = arrows_from arrows 0 (take count ends)

-- the arrays hold the arrows of a board of n cells: their cells one after another, and where each of `number` arrows ends
pub record Drawn (n : ℕ) (arrows ends : List ℕ) (number : ℕ) : Type 0 where
  pub places : CellArray arrows
  pub many : number ≤ 1024
  pub ends_long : number ≤ length ends
  pub ends_low : (a : ℕ) → a < number → get_or ends a 0 ≤ 1024
  pub ends_rise : (a : ℕ) → a + 1 < number → get_or ends a 0 ≤ get_or ends (a + 1) 0
  pub inside : (a : List ℕ) → Memᴰ a (lines_of arrows ends number) → (i : ℕ) → Memᴰ i a → i < n
  pub few : (a : List ℕ) → Memᴰ a (lines_of arrows ends number) → length a ≤ n
