-- The search for a reason on the leaf that is lent.
-- Assumes nothing.
use Rattle.std.specs.Prelude.{ℕ, ◌+◌, ◌*◌, ◌≤◌, ◌≡◌, List, length, take}
use Rattle.grid.specs.Cells.{square}
use Rattle.grid.specs.Side.{sized}
use Rattle.grid.specs.declared.Grid.{Grid}
use Rattle.groups.specs.Arrays.{TableOf}
use Rattle.groups.specs.declared.Groups.{Groups}
use Rattle.kinds.specs.Kinds.{View}
use Rattle.kinds.specs.Inside.{puzzle_with}
use Rattle.literals.specs.Literals.{Found, or_else}
use Rattle.growth.specs.Growth.{reason34}
use Rattle.growth.specs.Pairs.{view_on}
use Rattle.growth.specs.Scenes.{arrows_of}
use Rattle.sized.specs.Sized.{reason5}
use Rattle.sizes.specs.LeafOf.{leaf_of}
use Rattle.sizes.specs.declared.LentLeaf.{LentLeaf}

module _ (leaf : LentLeaf) where
  -- how many cells its board has
  abbrev pub cell_count : ℕ
  cell_count = leaf.problem.now.height * leaf.problem.now.width

  -- its arrows
  abbrev pub leaf_arrows : List (List ℕ)
  leaf_arrows = arrows_of leaf.problem.now

  -- its grid
  abbrev pub HasGrid : Grid → Type 0
  HasGrid grid = (grid.height ≡ leaf.problem.now.height) × (grid.width ≡ leaf.problem.now.width)

  -- the states of its cells, which stand first in an array
  abbrev pub leaf_cells : List ℕ → List ℕ
  leaf_cells = take cell_count

  -- its board, with the states of its cells in an array
  abbrev pub leaf_board : List ℕ → View
  leaf_board = view_on leaf.problem.now.height leaf.problem.now.width leaf_arrows

  -- the blocks of its board stand in the table
  abbrev pub HasBlocks : List ℕ → Groups → Type 0
  HasBlocks cells blocks =
      TableOf (puzzle_with (sized leaf.problem.now.height leaf.problem.now.width) leaf_arrows) (leaf_cells cells) (square (leaf_cells cells))
      blocks.labels blocks.firsts blocks.squares blocks.arrowed blocks.count

  -- there is room for any reason on its board
  abbrev pub HasRoom : List ℕ → Type 0
  HasRoom buffer = 3 * cell_count + 1 ≤ length buffer

  -- reasons 3 and 4, else 5, on a board
  abbrev pub arrow_reasons : View → Found
  arrow_reasons v = or_else (reason34 leaf.edition v) (reason5 v (leaf_of leaf).sizes)
