-- `record::Problem::new` meets its contract.
-- Assumes nothing.
use mathlib.Core.Path.{ap}
use mathlib.Core.List.{List}
use Prim.Native.Nat.{ℕ}
use Rattle.record.proofs.CellLaws.{zeros}
use Rattle.record.proofs.Problem.new.Goals as goal

pub returns : goal.returns
returns c = ap (λ (l : List ℕ). record { height = 0; width = 0; cells = l; arrows = l; ends = l; count = 0 }) zeros
