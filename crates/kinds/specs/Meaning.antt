-- What the kinds, the reach and the fence mean: in terms of cells that are linked. The tests of Kinds say the same (proofs/Bridge.antt, KindLaws.antt, Fence.antt, FenceMeaning.antt).
-- Assumes nothing.
use Rattle.std.specs.Prelude.{ℕ, ◌⊎◌, List}
use Rattle.std.proofs.Math.Bool.{So}
use Rattle.grid.specs.Link.{Linked}
use Rattle.grid.specs.Grid.{Adjacent}
use Rattle.grid.specs.Cells.{ValidCells, empty, square, undecided}
use Rattle.record.specs.Record.{Puzzle}
use Rattle.record.specs.Valid.{ValidArrows}
use Rattle.groups.specs.Arrows.{OnArrow}

-- a partial board: which cells share a side, which are on an arrow, and what each cell is
pub record PartialBoard : Type 1 where
  pub Adj : ℕ → ℕ → Type 0
  pub Arrow : ℕ → Type 0
  pub Empty : ℕ → Type 0
  pub Square : ℕ → Type 0
  pub Undecided : ℕ → Type 0

-- a puzzle with the arrows of a record, and the cells of a board
pub record Setting : Type 0 where
  pub puzzle : Puzzle
  pub lines : ValidArrows puzzle.grid puzzle.arrows
  pub cells : List ℕ
  pub valid : ValidCells puzzle.grid cells

-- the partial board of a puzzle and cells
abbrev pub partial_in : Puzzle → List ℕ → PartialBoard
partial_in p cells = record {
  Adj = Adjacent p.grid;
  Arrow = OnArrow p.arrows;
  Empty = λ c. So (empty cells c);
  Square = λ c. So (square cells c);
  Undecided = λ c. So (undecided cells c);
}

-- the partial board of these
abbrev pub partial_of : Setting → PartialBoard
partial_of set = partial_in set.puzzle set.cells

module _ (B : PartialBoard) where
  open B use {Adj, Arrow, Empty, Square, Undecided}

  -- block: the squares that are linked to a
  abbrev pub Block : ℕ → ℕ → Type 0
  Block a c = Linked Adj Square a c

  -- arrow block: c lies in a block with an arrow cell
  abbrev pub InArrow : ℕ → Type 0
  InArrow c = (d : ℕ) × Arrow d × Block d c

  -- c touches the block of d
  abbrev pub Touch : ℕ → ℕ → Type 0
  Touch d c = (y : ℕ) × Adj c y × Block d y

  -- c touches an arrow block other than a's
  abbrev pub Foreign : ℕ → ℕ → Type 0
  Foreign a c = (d : ℕ) × Arrow d × (¬ Block a d) × Touch d c

  -- neighbour: an undecided cell that touches a's block and no other arrow block
  abbrev pub Neighbour : ℕ → ℕ → Type 0
  Neighbour a c = Undecided c × Touch a c × ¬ Foreign a c

  -- floating: a square of no arrow block, or an undecided cell that touches none
  abbrev pub Floating : ℕ → Type 0
  Floating c = (Square c × ¬ InArrow c) ⊎ (Undecided c × ¬ ((d : ℕ) × Arrow d × Touch d c))

  -- reach: the block of a, its neighbours, and each floating group that touches one of those neighbours
  abbrev pub Reach : ℕ → ℕ → Type 0
  Reach a c = Block a c ⊎ Neighbour a c ⊎ ((m f : ℕ) × Neighbour a m × Adj m f × Linked Adj Floating f c)

  -- barrier: an undecided cell that touches two arrow blocks or more
  abbrev pub Barrier : ℕ → Type 0
  Barrier c = Undecided c × ((d e : ℕ) × Arrow d × Arrow e × Touch d c × Touch e c × ¬ Block d e)

  -- an empty cell that touches the reach of a's block: the fence has it as 0
  abbrev pub Shut : ℕ → ℕ → Type 0
  Shut a i = Empty i × ((r : ℕ) × Adj i r × Reach a r)

  -- a cell of another arrow block with some cell beside an undecided cell that touches the reach of a's block: the fence has it as 1
  abbrev pub Disturbing : ℕ → ℕ → Type 0
  Disturbing a i = (d u r : ℕ) × Arrow d × (¬ Block a d) × Block d i × Undecided u × Touch d u × Adj u r × Reach a r
