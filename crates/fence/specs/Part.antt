-- The fence in the front of the part that is lent for it.
-- Assumes nothing.
use Rattle.std.specs.Prelude.{ℕ, ◌*◌, ◌≡◌, Bool, List}
use Rattle.std.specs.Borrow.{MutBor}
use Rattle.kinds.specs.declared.BoardInfo.{BoardInfo}
use Rattle.fence.specs.Inside.{Inserted, Ordered, Whole}
use Rattle.fence.specs.declared.Fence.{Fence}

-- x stands at its place among the fence's literals, or its index did so already; the part is the same one
pub record Put (before : Fence) (x : ℕ) (after : Fence) : Type 0 where
  pub same : after.part.ghost_name ≡ before.part.ghost_name
  pub inserted : Inserted before.part.now before.count x after.count after.part.now

-- the fence's literals are those of the board's cells that pass the test, rising, in the part that was lent; behind them it is as it was lent
pub record Filled (info : BoardInfo) (lent : MutBor (List ℕ)) (test : ℕ → Bool) (fence : Fence) : Type 0 where
  pub same : fence.part.ghost_name ≡ lent.ghost_name
  pub ordered : Ordered info.kinds.now (info.grid.height * info.grid.width) lent.now test fence.part.now fence.count

-- with room for the literals of all cells
pub record Room (info : BoardInfo) (fence : Fence) : Type 0 where
  pub lent : MutBor (List ℕ)
  pub test : ℕ → Bool
  pub filled : Filled info lent test fence
  pub whole : Whole info.kinds.now info.owners.now test
