-- A board by what is lent of it: its grid, the states of its cells, and their kinds and owners. Its arrows are not lent.
-- Assumes nothing.
use Rattle.std.specs.Prelude.{ℕ, ◌*◌, ◌≡◌, List, get_or, take}
use Rattle.grid.specs.Grid.{neighbours}
use Rattle.grid.specs.Side.{sized}
use Rattle.kinds.specs.Kinds.{View, view}
use Rattle.kinds.specs.Inside.{puzzle_with, Held}
use Rattle.kinds.specs.declared.BoardInfo.{BoardInfo}

-- how many cells it has
abbrev pub cell_count : BoardInfo → ℕ
cell_count info = info.grid.height * info.grid.width

-- the states of its cells, which stand first in their array
abbrev pub states_of : BoardInfo → List ℕ
states_of info = take (cell_count info) info.cells.now

-- the cells next to cell i
abbrev pub beside : BoardInfo → ℕ → List ℕ
beside info = neighbours (sized info.grid.height info.grid.width)

-- a board on its grid with these arrows and these states of the cells
abbrev pub board_with : BoardInfo → List (List ℕ) → List ℕ → View
board_with info arrows = view (puzzle_with (sized info.grid.height info.grid.width) arrows)

-- the board itself, if these are its arrows
abbrev pub board_of : BoardInfo → List (List ℕ) → View
board_of info arrows = board_with info arrows (states_of info)

-- its kinds and owners are those of the board v
abbrev pub KindsAre : BoardInfo → View → Type 0
KindsAre info v = Held v info.kinds.now info.owners.now

-- its kinds and owners are those that it has with these arrows
abbrev pub HasArrows : BoardInfo → List (List ℕ) → Type 0
HasArrows info arrows = KindsAre info (board_of info arrows)

-- an arrow block has the name f
abbrev pub NamesBlock : BoardInfo → ℕ → Type 0
NamesBlock info f = get_or info.kinds.now f 0 ≡ 1
