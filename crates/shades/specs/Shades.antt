-- The shades of a board: for each cell the first cell of its block and the block's count of squares.
-- Assumes nothing.
use Rattle.std.specs.Prelude.{ℕ, ◌≡◌, false, cond, length, get_or, drop, replicate}
use mathlib.Core.List.{List, [], ◌∷◌, ◌++◌, Memᴰ}
use Rattle.grid.specs.Lists.{Rising, flat_map}
use Rattle.grid.specs.Grid.{Grid, cells_of}
use Rattle.grid.specs.Cells.{square}
use Rattle.record.specs.Problem.{grid_of, Answer, Done, Refused}
use Rattle.refusal.specs.Refusals.{Outcome, ok, refused}
use Rattle.board.specs.Form.{well_formed}
use Rattle.board.specs.Kept.{cells_on}
use Rattle.board.specs.declared.Board.{Board}
use Rattle.groups.specs.Groups.{Joined, labels, group}

-- ---- the shade of a cell

module _ (g : Grid) (cells : List ℕ) (i : ℕ) where
  -- the first cell of its block
  unfoldable pub block_first : ℕ
  block_first = get_or (labels g (square cells)) i 0

  -- how many squares its block has
  unfoldable pub block_count : ℕ
  block_count = length (group g (square cells) (labels g (square cells)) block_first)

  -- the two numbers; 0 and 0 for a cell that is not square
  unfoldable pub shade_of : List ℕ
  shade_of = cond (square cells i) (block_first ∷ block_count ∷ []) (0 ∷ 0 ∷ [])

  -- ---- the same in meaning

  -- the list has the cells of i's block, rising: the squares that a chain of squares joins to i
  pub record Block (block : List ℕ) : Type 0 where
    pub rises : Rising block
    pub joined : (j : ℕ) → Memᴰ j block → Joined g (square cells) i j
    pub whole : (j : ℕ) → Joined g (square cells) i j → Memᴰ j block

  -- the first cell of i's block and how many cells the block has, or 0 and 0
  pub data Shade : List ℕ → Type 0 where
    not_square : square cells i ≡ false → Shade (0 ∷ 0 ∷ [])
    in_block : {first : ℕ} {rest : List ℕ} → Block (first ∷ rest) → Shade (first ∷ length (first ∷ rest) ∷ [])

-- ---- the shades of a board

-- the two numbers of each cell, in row order
unfoldable pub shades_on : Grid → List ℕ → List ℕ
shades_on g cells = flat_map (shade_of g cells) (cells_of g)

-- numbers kept in an array of 2,048 places: 0 stands behind them
unfoldable pub in_places : List ℕ → List ℕ
in_places l = l ++ drop (length l) (replicate 2048 0)

-- an answer with shades: numbers in an array of 2,048 places, which are all 0 where the answer is a refusal
pub record Shaded : Type 0 where
  pub answer : Answer
  pub shades : List ℕ

-- the shades where the answer is Done, else the refusal
abbrev pub told : Answer → List ℕ → Outcome (List ℕ)
told Done shades = ok shades
told (Refused k) shades = refused k

abbrev pub shaded_as : Shaded → Outcome (List ℕ)
shaded_as s = told s.answer s.shades

-- what `shades` answers: 6 for a board that no list of calls could leave
unfoldable pub shades_of : Board → Shaded
shades_of b = cond (well_formed b) (record { answer = Done; shades = in_places (shades_on (grid_of b.problem) (cells_on b)) }) (record { answer = Refused 6; shades = in_places [] })
