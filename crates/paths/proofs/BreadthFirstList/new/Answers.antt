-- `paths::BreadthFirstList::new` meets its contract: no more cells are not listed than there are places.
-- Assumes nothing.
use native.Mathlib.Omega.{arith}
use Prim.Native.Nat.{ℕ}
use lib.ListN.{replicate, length-replicate}
use Rattle.grid.proofs.ArrayLaws.{how_many-le}
use Rattle.paths.proofs.BreadthFirstList.new.Goals as goal

pub invariant_of-result : goal.invariant_of-result
invariant_of-result c = record { room = rw c.new.ensures (omega (arith, how_many-le 1024 (replicate 1024 1024), length-replicate {A = ℕ} 1024 1024)) }
