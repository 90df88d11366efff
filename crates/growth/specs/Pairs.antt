-- The search along the arrows for reasons 3 and 4, on arrays.
-- Assumes nothing.
use Rattle.std.specs.Prelude.{ℕ, ◌+◌, ◌-◌, ◌*◌, ◌≤◌, ◌<◌, ◌≡◌, true, false, List, length, get_or, take}
use Rattle.std.proofs.Math.Seq.{slice}
use Rattle.grid.specs.Side.{sized}
use Rattle.grid.specs.Cells.{square}
use Rattle.groups.specs.Arrows.{on_arrow, Pair}
use Rattle.groups.specs.Arrays.{lines_of, Drawn}
use Rattle.kinds.specs.Kinds.{View, view}
use Rattle.kinds.specs.declared.BoardInfo.{BoardInfo}
use Rattle.kinds.specs.Board.{cell_count}
use Rattle.reach.specs.Near.{SquaresOf}
use Rattle.kinds.specs.Inside.{puzzle_with, Held}

-- the pair of the squares at two places of the arrows
unfoldable pub pair_at : List ℕ → ℕ → ℕ → Pair
pair_at arrows last cur = record { last = get_or arrows last 0; between = slice (last + 1) cur arrows; cur = get_or arrows cur 0 }

-- the same of the first and the last of these cells
abbrev pub pair_in : List ℕ → Pair
pair_in cells = pair_at cells 0 (length cells - 1)

-- r is the first place from `from` on that holds a square, or `to` if none before it does
pub record NextSquare (cells arrows : List ℕ) (from to r : ℕ) : Type 0 where
  pub low : from ≤ r
  pub high : r ≤ to
  pub none : (k : ℕ) → from ≤ k → k < r → square cells (get_or arrows k 0) ≡ false
  pub some : r < to → square cells (get_or arrows r 0) ≡ true

-- the board of an h by w grid with the arrows `lines`, whose cells stand in an array
abbrev pub view_on : ℕ → ℕ → List (List ℕ) → List ℕ → View
view_on h w lines cells = view (puzzle_with (sized h w) lines) (take (h * w) cells)

-- the arrays hold the kinds of that board, and these cells stand on its arrows, no more of them than the grid has
pub record Stretch (h w : ℕ) (lines : List (List ℕ)) (cells arrow kinds owners : List ℕ) : Type 0 where
  pub held : Held (view_on h w lines cells) kinds owners
  pub few : length arrow ≤ h * w
  pub inside : (k : ℕ) → k < length arrow → get_or arrow k 0 < h * w
  pub are_on_arrow : (k : ℕ) → k < length arrow → on_arrow lines (get_or arrow k 0) ≡ true

-- the kinds are those of some board
pub record Shown (h w : ℕ) (cells kinds owners : List ℕ) : Type 0 where
  pub lines : List (List ℕ)
  pub held : Held (view_on h w lines cells) kinds owners

-- the same of a board that is lent
abbrev pub IsShown : BoardInfo → Type 0
IsShown info = Shown info.grid.height info.grid.width info.cells.now info.kinds.now info.owners.now

-- there is room for any reason on the board
abbrev pub HasRoom : BoardInfo → List ℕ → Type 0
HasRoom info buffer = 3 * cell_count info + 1 ≤ length buffer

-- the size of each arrow block, at its name
abbrev pub Blocks : List ℕ → List ℕ → ℕ → List ℕ → Type 0
Blocks kinds owners n squares = (f : ℕ) → f < 1024 → get_or kinds f 0 ≡ 1 → SquaresOf kinds owners n squares f

-- the same of a board that is lent
abbrev pub BlockSizes : BoardInfo → List ℕ → Type 0
BlockSizes info = Blocks info.kinds.now info.owners.now (cell_count info)

-- each is a place of an array
pub record ArePlaces (arrow : List ℕ) : Type 0 where
  pub small : (k : ℕ) → k < length arrow → get_or arrow k 0 < 1024

-- the kinds are those of some board, and these cells stand on its arrows
pub record Line (h w : ℕ) (cells arrow kinds owners : List ℕ) : Type 0 where
  pub lines : List (List ℕ)
  pub stretch : Stretch h w lines cells arrow kinds owners
  pub places : ArePlaces arrow

-- the same, and the first and the last of the cells are two squares
pub record Squares (h w : ℕ) (cells arrow kinds owners : List ℕ) : Type 0 where
  pub line : Line h w cells arrow kinds owners
  pub two : 1 < length arrow
  pub first : square cells (get_or arrow 0 0) ≡ true
  pub second : square cells (get_or arrow (length arrow - 1) 0) ≡ true

-- the arrays hold a board with its arrows and its kinds
pub record Whole (h w : ℕ) (cells arrows ends kinds owners : List ℕ) (number : ℕ) : Type 0 where
  pub held : Held (view_on h w (lines_of arrows ends number) cells) kinds owners
  pub drawn : Drawn (h * w) arrows ends number
