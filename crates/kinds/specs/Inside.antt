-- What the inner functions of kinds promise each other, and the grid and views that the crates above speak of.
-- Assumes nothing.
use Rattle.std.specs.Prelude.{ℕ, ◌≤◌, ◌≡◌, Bool, true, false, cond, ◌&&◌, not, eqb, ltb, get_or, Option, Some, None}
use mathlib.Core.List.{List, [], map, Memᴰ}
use Rattle.grid.specs.Lists.{upto, filter, once, array_of}
use Rattle.grid.specs.Grid.{Grid, neighbours}
use Rattle.record.specs.Record.{Puzzle}
use Rattle.grid.specs.Cells.{square}
use Rattle.groups.specs.Arrows.{on_arrow}
use Rattle.groups.specs.Arrays.{no_group, label_array, Counted}
use Rattle.groups.specs.Flood.{unlabelled}
use Rattle.kinds.specs.Kinds.{Kind, vacant, barrier, floating, in_block, neighbour, kind_touching, View}
use Rattle.kinds.specs.Arrays.{kind_code, owner_by, kind_array, owner_array}
use Rattle.kinds.specs.declared.Touched.{Touched}
use Rattle.kinds.specs.declared.Touched.TheVariants.{Nobody, One, Many}
use Rattle.kinds.specs.declared.DetailedCellKind.{DetailedCellKind}
use Rattle.kinds.specs.declared.DetailedCellKind.TheVariants.{Empty, ArrowBlock, ArrowBlockNeighbor, Barrier, Floating}

-- a grid of at most 32 by 32 cells
pub record Limits (h w : ℕ) : Type 0 where
  pub tall : h ≤ 32
  pub wide : w ≤ 32

-- a puzzle with this grid and these arrows. The codes of its cells do not matter here: kinds, reach, fence and reasons go by the grid and the arrows alone,
-- which are all that the inner functions are lent of a puzzle
abbrev pub puzzle_with : Grid → List (List ℕ) → Puzzle
puzzle_with g arrows = record { grid = g; given = []; arrows = arrows }

-- what the arrays hold: the names of the blocks of a board, and by name how many arrow cells each block has
pub record Given (p : Puzzle) (cells blocks arrowed : List ℕ) : Type 0 where
  pub named : blocks ≡ label_array p.grid (square cells)
  pub counted : Counted p.grid (square cells) (on_arrow p.arrows) arrowed

-- the arrays hold the kinds and the owners of a view
pub record Held (v : View) (kinds owners : List ℕ) : Type 0 where
  pub kind : kinds ≡ kind_array v
  pub owner : owners ≡ owner_array v

-- cell i is in the arrow block f, by the arrays of kinds and owners
abbrev pub of_block : List ℕ → List ℕ → ℕ → ℕ → Bool
of_block kinds owners f i = eqb (get_or kinds i 0) 1 && eqb (get_or owners i 0) f

-- ---- kinds

-- the kind that an answer stands for
unfoldable pub kind_from : DetailedCellKind → Kind
kind_from Empty = vacant
kind_from (ArrowBlock f) = in_block f
kind_from (ArrowBlockNeighbor f) = neighbour f
kind_from Barrier = barrier
kind_from Floating = floating

-- one more arrow block is met
unfoldable pub meet_of : Touched → ℕ → Touched
meet_of Nobody f = One f
meet_of (One e) f = elim (eqb e f) [ true ↦ One e | false ↦ Many ]
meet_of Many f = Many

-- the names l have no member, one member (however often), or two or more
pub data Owned (l : List ℕ) : Touched → Type 0 where
  nobody : ((x : ℕ) → Memᴰ x l → ⊥) → Owned l Nobody
  one : {f : ℕ} → Memᴰ f l → ((x : ℕ) → Memᴰ x l → x ≡ f) → Owned l (One f)
  many : {e f : ℕ} → Memᴰ e l → Memᴰ f l → (e ≡ f → ⊥) → Owned l Many

-- the name of a block, if it is one: 1024 stands for none
unfoldable pub block_named : ℕ → Option ℕ
block_named f = cond (ltb f 1024) (Some f) None

module _ (blocks arrowed : List ℕ) where
  -- the name of the arrow block of cell j, 1024 where it is in none
  unfoldable pub arrow_block_at : ℕ → ℕ
  arrow_block_at j = cond (ltb (get_or blocks j 0) 1024 && not (eqb (get_or arrowed (get_or blocks j 0) 0) 0)) (get_or blocks j 0) 1024

  -- the names of the arrow blocks of the cells js
  unfoldable pub arrow_blocks_at : List ℕ → List ℕ
  arrow_blocks_at js = filter (λ f. ltb f 1024) (map arrow_block_at js)

  -- the kind of cell i, whose value is in cells
  unfoldable pub kind_in : Grid → List ℕ → ℕ → Kind
  kind_in g cells i =
      cond (eqb (get_or cells i 0) 0) vacant
      (cond (eqb (get_or cells i 0) 1) (cond (ltb (arrow_block_at i) 1024) (in_block (arrow_block_at i)) floating)
      (kind_touching (once (arrow_blocks_at (neighbours g i)))))

-- the kinds of the first k cells by their numbers, in an array
unfoldable pub codes_in : List ℕ → List ℕ → Grid → List ℕ → ℕ → List ℕ
codes_in blocks arrowed g cells k = array_of 0 (map (λ i. kind_code (kind_in blocks arrowed g cells i)) (upto k))

-- stands for the name of a floating group that has none yet
abbrev pub unnamed : ℕ
unnamed = unlabelled

-- their arrow blocks; floating groups have no name yet
unfoldable pub owners_in : List ℕ → List ℕ → Grid → List ℕ → ℕ → List ℕ
owners_in blocks arrowed g cells k = array_of no_group (map (λ i. owner_by unnamed (kind_in blocks arrowed g cells i)) (upto k))
