-- What the parts of reason 2 ask of the arrays that they are lent: the blocks, the arrow cells of each, and the ends of the path.
-- Assumes nothing.
use Rattle.std.specs.Prelude.{ℕ, ◌*◌, ◌≡◌, Bool, ◌&&◌, List, eqb, leb, get_or, take, Option, Some, None}
use Rattle.std.proofs.Math.Option.{none, some}
use Rattle.grid.specs.Grid.{Grid}
use Rattle.grid.specs.Side.{sized}
use Rattle.record.specs.Record.{Puzzle}
use Rattle.grid.specs.Cells.{square}
use Rattle.groups.specs.Groups.{Joined}
use Rattle.groups.specs.Arrows.{on_arrow}
use Rattle.groups.specs.Arrays.{mask_of, TableOf}
use Rattle.literals.specs.Literals.{Found, each}
use Rattle.paths.specs.Paths.{way, reason2}
use Rattle.kinds.specs.Inside.{puzzle_with}

-- the table of the blocks of the cells, and the arrow cells
pub record BlockTable (p : Puzzle) (cells blocks onarrow names squares arrowed : List ℕ) (number : ℕ) : Type 0 where
  pub table : TableOf p cells (square cells) blocks names squares arrowed number
  pub arrows_are : onarrow ≡ mask_of p.grid (on_arrow p.arrows)

-- the block named f has two arrow cells or more, by their counts
unfoldable pub crossed : List ℕ → ℕ → Bool
crossed arrowed f = leb 2 (get_or arrowed f 0)

-- cell i is an arrow cell of the block named f
unfoldable pub arrow_cell_of : List ℕ → List ℕ → ℕ → ℕ → Bool
arrow_cell_of blocks onarrow f i = eqb (get_or blocks i 0) f && eqb (get_or onarrow i 0) 1

-- the reason with the path from a to b, or none
unfoldable pub found_way : Grid → List ℕ → Option (ℕ × ℕ) → Found
found_way g cells None = none
found_way g cells (Some (a, b)) = some (each 1 (way g cells a b))

-- a and b, if there are any, are squares of one block
unfoldable pub EndsJoined : Grid → List ℕ → Option (ℕ × ℕ) → Type 0
EndsJoined g cells None = Unit {0}
EndsJoined g cells (Some (a, b)) = Joined g (square cells) b a

-- the ends of the path of reason 2
pub record Crossing (p : Puzzle) (cells : List ℕ) (ends : Option (ℕ × ℕ)) : Type 0 where
  pub reason : reason2 p cells ≡ found_way p.grid cells ends
  pub joined : EndsJoined p.grid cells ends

-- the blocks are those of some arrows
pub record Blocked (h w : ℕ) (cells blocks onarrow names arrowed : List ℕ) (number : ℕ) : Type 0 where
  pub arrows : List (List ℕ)
  pub squares : List ℕ
  pub held : BlockTable (puzzle_with (sized h w) arrows) (take (h * w) cells) blocks onarrow names squares arrowed number
