-- What the fence goes by, on a board that is lent.
-- Assumes nothing.
use Rattle.std.specs.Prelude.{ℕ, Bool, List}
use Rattle.grid.specs.Lists.{any}
use Rattle.grid.specs.Side.{sized}
use Rattle.kinds.specs.declared.BoardInfo.{BoardInfo}
use Rattle.kinds.specs.Inside.{of_block}
use Rattle.kinds.specs.Board.{beside}
use Rattle.fence.specs.Inside.{Whole, in_disturbing, touched, adds, adds_among}

module _ (info : BoardInfo) where
  -- cell i is in the arrow block e
  abbrev pub is_in : ℕ → ℕ → Bool
  is_in = of_block info.kinds.now info.owners.now

  -- with a cell of an arrow block all its cells pass
  abbrev pub HasWhole : (ℕ → Bool) → Type 0
  HasWhole = Whole info.kinds.now info.owners.now

  -- cell j is in an arrow block other than f, and x is in the same
  abbrev pub disturbs : ℕ → ℕ → ℕ → Bool
  disturbs = in_disturbing info.kinds.now info.owners.now

  -- so it is with a neighbour of cell i
  abbrev pub disturbs_beside : ℕ → ℕ → ℕ → Bool
  disturbs_beside f i x = any (λ j. disturbs f j x) (beside info i)

  module _ (marks : List ℕ) where
    -- a neighbour of cell i is marked
    abbrev pub is_touched : ℕ → Bool
    is_touched = touched marks (sized info.grid.height info.grid.width)

    -- cell i brings x into the fence of f, whose reach is marked
    abbrev pub brings : ℕ → ℕ → ℕ → Bool
    brings = adds info.cells.now info.kinds.now info.owners.now marks (sized info.grid.height info.grid.width)

    -- so it is with one of the first k cells
    abbrev pub brought : ℕ → ℕ → ℕ → Bool
    brought = adds_among info.cells.now info.kinds.now info.owners.now marks (sized info.grid.height info.grid.width)
