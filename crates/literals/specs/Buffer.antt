-- The answer of find, and what it leaves in the lent buffer.
-- Assumes nothing.
use Rattle.std.specs.Prelude.{ℕ, zero, suc, List, ◌++◌, map, length, drop}
use Rattle.grid.specs.Cells.{word}
use Rattle.std.proofs.Math.Option.{none, some}
use Rattle.literals.specs.Literals.{Found}

-- the answer of find: no reason applies, the number of literals that stand in the buffer, or a refusal by its number
pub data Finding : Type 0 where
  Nothing : Finding
  Reason : ℕ → Finding
  Refused : ℕ → Finding

-- the answer by its refusal and what was found
unfoldable pub finding_by : ℕ → Found → Finding
finding_by zero none = Nothing
finding_by zero (some r) = Reason (length r)
finding_by (suc k) f = Refused (suc k)

-- the buffer by the refusal and what was found: a literal is one number, and stands at its place; behind them nothing changes
unfoldable pub buffer_by : ℕ → Found → List ℕ → List ℕ
buffer_by zero none buffer = buffer
buffer_by zero (some r) buffer = map word r ++ drop (length r) buffer
buffer_by (suc k) f buffer = buffer
