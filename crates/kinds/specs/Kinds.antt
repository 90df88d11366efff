-- Kinds of cells, the reach of an arrow block and its fence.
-- Assumes nothing.
use Rattle.std.specs.Prelude.{ℕ, Bool, true, false, cond, ◌&&◌, ◌||◌, not, List, [], ◌∷◌, map, eqb, get_or}
use Rattle.grid.specs.Lists.{any, filter, once, flat_map}
use Rattle.grid.specs.Grid.{Grid, cells_of, neighbours, touches}
use Rattle.record.specs.Record.{Puzzle}
use Rattle.grid.specs.Cells.{Literal, empty, square, undecided}
use Rattle.groups.specs.Groups.{labels}
use Rattle.groups.specs.Arrows.{on_arrow}

-- empty; barrier: undecided, touches two arrow blocks or more; floating; in the arrow block f; neighbour: undecided, touches the arrow block f only
pub data Kind : Type 0 where
  vacant barrier floating : Kind
  in_block neighbour : ℕ → Kind

-- the kind is floating
unfoldable pub is_floating : Kind → Bool
is_floating vacant = false
is_floating barrier = false
is_floating floating = true
is_floating (in_block f) = false
is_floating (neighbour f) = false

-- the kind is in the arrow block f
unfoldable pub is_in : ℕ → Kind → Bool
is_in f vacant = false
is_in f barrier = false
is_in f floating = false
is_in f (in_block e) = eqb e f
is_in f (neighbour e) = false

-- the kind is neighbour of the arrow block f
unfoldable pub is_neighbour : ℕ → Kind → Bool
is_neighbour f vacant = false
is_neighbour f barrier = false
is_neighbour f floating = false
is_neighbour f (in_block e) = false
is_neighbour f (neighbour e) = eqb e f

-- an undecided cell, by the arrow blocks that it touches
unfoldable pub kind_touching : List ℕ → Kind
kind_touching [] = floating
kind_touching (f ∷ []) = neighbour f
kind_touching (f ∷ e ∷ es) = barrier

-- blocks: the name of each square's block
module _ (p : Puzzle) (cells blocks : List ℕ) where
  -- the block named f has an arrow cell
  unfoldable pub arrow_block : ℕ → Bool
  arrow_block f = any (λ i. square cells i && eqb (get_or blocks i 0) f && on_arrow p.arrows i) (cells_of p.grid)

  -- the arrow blocks that cell i touches, each once
  unfoldable pub blocks_touched : ℕ → List ℕ
  blocks_touched i = once (map (λ j. get_or blocks j 0) (filter (λ j. square cells j && arrow_block (get_or blocks j 0)) (neighbours p.grid i)))

  -- the kind of cell i
  unfoldable pub kind_at : ℕ → Kind
  kind_at i =
      cond (empty cells i) vacant
      (cond (square cells i) (cond (arrow_block (get_or blocks i 0)) (in_block (get_or blocks i 0)) floating)
      (kind_touching (blocks_touched i)))

  -- the kinds of all cells
  unfoldable pub kinds_of : List Kind
  kinds_of = map kind_at (cells_of p.grid)

-- a test on the kind of a cell
unfoldable pub has : (Kind → Bool) → List Kind → ℕ → Bool
has p kinds i = p (get_or kinds i vacant)

-- the board with its groups and kinds
pub record View : Type 0 where
  pub grid : Grid
  pub arrows : List (List ℕ)
  pub cells : List ℕ
  pub blocks : List ℕ
  pub kinds : List Kind
  pub floats : List ℕ

-- a view from its blocks and kinds
unfoldable pub view_with : Puzzle → List ℕ → List ℕ → List Kind → View
view_with p cells blocks kinds =
    record { grid = p.grid; arrows = p.arrows; cells = cells; blocks = blocks; kinds = kinds; floats = labels p.grid (has is_floating kinds) }

-- the view of a board
unfoldable pub view : Puzzle → List ℕ → View
view p cells =
    let blocks = labels p.grid (square cells) in
    view_with p cells blocks (kinds_of p cells blocks)

module _ (v : View) where
  -- the cells of the arrow block f
  unfoldable pub block : ℕ → List ℕ
  block f = filter (has (is_in f) v.kinds) (cells_of v.grid)

  -- the floating group m touches a neighbour of f
  unfoldable pub float_near : ℕ → ℕ → Bool
  float_near f m =
      any (λ i. has (is_neighbour f) v.kinds i
      && any (λ j. has is_floating v.kinds j && eqb (get_or v.floats j 0) m) (neighbours v.grid i))
      (cells_of v.grid)

  -- cell i is in the reach of the arrow block f
  unfoldable pub in_reach : ℕ → ℕ → Bool
  in_reach f i =
      has (is_in f) v.kinds i
      || has (is_neighbour f) v.kinds i
      || (has is_floating v.kinds i && float_near f (get_or v.floats i 0))

  -- the reach of the arrow block f
  unfoldable pub reach : ℕ → List ℕ
  reach f = filter (in_reach f) (cells_of v.grid)

  -- some cell of the arrow block e is beside an undecided cell that touches the reach r
  unfoldable pub disturbing : List ℕ → ℕ → Bool
  disturbing r e =
      any (λ j. has (is_in e) v.kinds j
      && any (λ u. undecided v.cells u && touches v.grid r u) (neighbours v.grid j))
      (cells_of v.grid)

  -- what the fence of f, whose reach is r, says of a cell of this kind at i
  unfoldable pub fence_at : ℕ → List ℕ → ℕ → Kind → List Literal
  fence_at f r i vacant = cond (touches v.grid r i) ((i, 0) ∷ []) []
  fence_at f r i barrier = []
  fence_at f r i floating = []
  fence_at f r i (in_block e) = cond (not (eqb e f) && disturbing r e) ((i, 1) ∷ []) []
  fence_at f r i (neighbour e) = []

  -- the fence of the arrow block f, rising
  unfoldable pub fence : ℕ → List Literal
  fence f =
      let r = reach f in
      flat_map (λ i. fence_at f r i (get_or v.kinds i vacant)) (cells_of v.grid)
