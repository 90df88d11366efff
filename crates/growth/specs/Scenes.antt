-- The search along the arrows for reasons 3 and 4, on the scene and the cells that are lent.
-- Assumes nothing.
use Rattle.std.specs.Prelude.{ℕ, List}
use Rattle.record.specs.declared.Problem.{Problem}
use Rattle.groups.specs.Arrows.{Pair}
use Rattle.groups.specs.Arrays.{lines_of}
use Rattle.kinds.specs.Kinds.{View}
use Rattle.kinds.specs.Board.{board_of, states_of}
use Rattle.growth.specs.Pairs.{pair_in, Stretch, Line, Squares, Whole}
use Rattle.growth.specs.declared.Scene.{Scene}
use Rattle.growth.specs.declared.SquarePair.{SquarePair}

-- the arrows of a problem
abbrev pub arrows_of : Problem → List (List ℕ)
arrows_of q = lines_of q.arrows q.ends q.count

-- the two squares, with the cells between
abbrev pub pair_of : SquarePair → Pair
pair_of pair = pair_in pair.cells.now

module _ (scene : Scene) where
  -- its board, if these are the arrows
  abbrev pub scene_board : List (List ℕ) → View
  scene_board = board_of scene.linked.info

  -- the states of its cells
  abbrev pub scene_cells : List ℕ
  scene_cells = states_of scene.linked.info

  -- it has the board with the arrows `lines`, and these cells stand on them, no more of them than the grid has
  abbrev pub HasStretch : List (List ℕ) → List ℕ → Type 0
  HasStretch lines arrow = let info = scene.linked.info in Stretch info.grid.height info.grid.width lines info.cells.now arrow info.kinds.now info.owners.now

  -- the same from the first of two squares to the second
  abbrev pub HasPair : List (List ℕ) → SquarePair → Type 0
  HasPair lines pair = HasStretch lines pair.cells.now

  -- it has some board, and these cells stand on its arrows
  abbrev pub HasLine : List ℕ → Type 0
  HasLine arrow = let info = scene.linked.info in Line info.grid.height info.grid.width info.cells.now arrow info.kinds.now info.owners.now

  -- it has some board, and the pair two squares of one of its arrows
  abbrev pub HasSquares : SquarePair → Type 0
  HasSquares pair = let info = scene.linked.info in Squares info.grid.height info.grid.width info.cells.now pair.cells.now info.kinds.now info.owners.now

  -- it has the board with the arrows of the problem
  abbrev pub HasProblem : Problem → Type 0
  HasProblem q = let info = scene.linked.info in Whole info.grid.height info.grid.width info.cells.now q.arrows q.ends info.kinds.now info.owners.now q.count
