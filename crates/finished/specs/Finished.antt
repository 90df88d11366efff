-- Finished: every cell is decided, black cells are empty, given squares are square, the block rules hold, and two squares or more stand on every arrow.
-- Assumes nothing.
use Rattle.std.specs.Prelude.{ℕ, ◌<◌, ◌≡◌, Bool, true, cond, ◌&&◌, eqb, leb, ltb, length, get_or}
use mathlib.Core.List.{List, Memᴰ}
use Rattle.grid.specs.Lists.{upto, all, filter}
use Rattle.grid.specs.Grid.{size}
use Rattle.grid.specs.Cells.{square}
use Rattle.record.specs.Record.{Puzzle}
use Rattle.record.specs.Leaf.{Leaf}
use Rattle.board.specs.Board.{Full}
use Rattle.groups.specs.Rules.{SameBlock, BlockRules, rules_test}

-- black and given cells are kept: black cells are empty, and given squares are square
pub record KeepsGiven (p : Puzzle) (cells : List ℕ) : Type 0 where
  pub black : (i : ℕ) → i < size p.grid → get_or p.given i 0 ≡ 1 → get_or cells i 0 ≡ 0
  pub given : (i : ℕ) → i < size p.grid → get_or p.given i 0 ≡ 2 → get_or cells i 0 ≡ 1

-- two cells of the arrow a that are Apart, both square
pub record TwoOn (Apart : ℕ → ℕ → Type 0) (cells a : List ℕ) : Type 0 where
  pub first : ℕ
  pub second : ℕ
  pub on : Memᴰ first a × Memᴰ second a
  pub squares : (square cells first ≡ true) × (square cells second ≡ true)
  pub apart : Apart first second

-- two squares or more stand on the arrow a
abbrev pub TwoSquares : List ℕ → List ℕ → Type 0
TwoSquares = TwoOn (λ i j. ¬ (i ≡ j))

-- the arrow a passes two different blocks or more
abbrev pub TwoBlocks : Puzzle → List ℕ → List ℕ → Type 0
TwoBlocks p cells = TwoOn (λ i j. ¬ SameBlock p.grid cells i j) cells

-- the cells of a finished board
pub record Finished (l : Leaf) (cells : List ℕ) : Type 0 where
  pub decided : Full l.puzzle.grid cells
  pub kept : KeepsGiven l.puzzle cells
  pub rules : BlockRules l cells
  pub two : (a : List ℕ) → Memᴰ a l.puzzle.arrows → TwoSquares cells a

-- the same as a test

-- a cell with the code c and the state v is decided; empty where it is black, square where that is given
unfoldable pub keeps : ℕ → ℕ → Bool
keeps c v = cond (eqb c 1) (eqb v 0) (cond (eqb c 2) (eqb v 1) (ltb v 2))

-- so it is at every cell
unfoldable pub keeps_all : ℕ → List ℕ → List ℕ → Bool
keeps_all n codes cells = all (λ i. keeps (get_or codes i 0) (get_or cells i 0)) (upto n)

-- two squares or more stand on the arrow a, which has no cell twice
unfoldable pub two_squares : List ℕ → List ℕ → Bool
two_squares cells a = leb 2 (length (filter (square cells) a))

-- all that is asked of a finished board but the block rules
unfoldable pub all_but_rules : Puzzle → List ℕ → Bool
all_but_rules p cells = keeps_all (size p.grid) p.given cells && all (two_squares cells) p.arrows

-- all that is asked of it
unfoldable pub finished_test : Leaf → List ℕ → Bool
finished_test l cells = all_but_rules l.puzzle cells && rules_test l cells
