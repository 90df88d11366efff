-- Literals in the front of a buffer that is lent for them.
-- Assumes nothing.
use Rattle.std.specs.Prelude.{ℕ, ◌≡◌, List}
use Rattle.std.specs.Borrow.{MutBor}
use Rattle.grid.specs.Cells.{Literal}
use Rattle.literals.specs.Inside.{Wrote}
use Rattle.literals.specs.declared.Literals.{Literals}

-- these literals were written into the buffer that was lent, and nothing behind them
pub record Holds (lent : MutBor (List ℕ)) (written : List Literal) (literals : Literals) : Type 0 where
  pub same : literals.out.ghost_name ≡ lent.ghost_name
  pub wrote : Wrote written lent.now literals.out.now literals.count
