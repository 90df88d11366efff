-- Two puzzles on one leaf: a full board of the joined puzzle is finished exactly when the column between is empty and each half is finished on its own.
-- Assumes nothing.
use Rattle.std.specs.Prelude.{ℕ, ◌↔◌, ◌≡◌, List, []}
use Rattle.record.specs.Record.{Puzzle, ok}
use Rattle.record.specs.Leaf.{in_edition, leaf_of}
use Rattle.board.specs.Board.{Full}
use Rattle.finished.specs.Finished.{Finished}
use Rattle.join.specs.Join.{joined_grid, joined, left_half, right_half, ColumnEmpty}

-- the cells of a board of the joined puzzle, in the edition e: the column between is empty, and each half is finished on its own
pub record HalvesFinished (e : ℕ) (p q : Puzzle) (cells : List ℕ) : Type 0 where
  pub column : ColumnEmpty p q cells
  pub left : Finished (in_edition e p) (left_half p q cells)
  pub right : Finished (in_edition e q) (right_half p q cells)

-- the records s and t, and the record r that they are joined to, all three opened in the edition e: r is the leaf of the joined puzzle, and a full board of it is finished
-- exactly when its halves are
pub record JoinedLeaf (e : ℕ) (s t r : List ℕ) : Type 0 where
  pub left : Puzzle
  pub right : Puzzle
  pub opens_left : leaf_of s e [] ≡ ok (in_edition e left)
  pub opens_right : leaf_of t e [] ≡ ok (in_edition e right)
  pub opens : leaf_of r e [] ≡ ok (in_edition e (joined left right))
  pub finished : (cells : List ℕ) → Full (joined_grid left right) cells → Finished (in_edition e (joined left right)) cells ↔ HalvesFinished e left right cells
