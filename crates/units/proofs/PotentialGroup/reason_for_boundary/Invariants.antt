-- What holds at each turn of the loop of `units::PotentialGroup::reason_for_boundary`.
-- Assumes nothing.
use mathlib.Core.Bool.{Bool, ◌&&◌}
use mathlib.Core.List.{List}
use Prim.Native.Nat.{ℕ}
use lib.Dec.{eqb}
use lib.ListN.{get_or}
use Rattle.grid.specs.Lists.{any, filter, upto}
use Rattle.grid.specs.Grid.{Grid, neighbours}
use Rattle.grid.specs.Side.{sized}
use Rattle.literals.specs.Literals.{each}
use Rattle.literals.specs.Held.{Holds}
use Rattle.units.proofs.PotentialGroup.reason_for_boundary.Given as goal

-- cell i is empty and touches the group named f
abbrev pub test : List ℕ → List ℕ → Grid → ℕ → ℕ → Bool
test cells labels g f i = eqb (get_or cells i 0) 0 && any (λ j. eqb (get_or labels j 0) f) (neighbours g i)

-- the empty cells below i that touch the group are written
abbrev pub invariant-loop-i : goal.invariant-loop-i
invariant-loop-i l = Holds l.initial.boundary.out (each 0 (filter (test l.self.cells.now l.self.labels.now (sized l.self.grid.height l.self.grid.width) l.self.name) (upto l.i))) l.boundary
