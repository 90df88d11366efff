-- What the parts of reason 1 ask of the arrays that they are lent.
-- Assumes nothing.
use Rattle.std.specs.Prelude.{ℕ, Bool, ◌&&◌, not, List, eqb, get_or, Option, Some, None}
use Rattle.std.proofs.Math.Option.{none, some}
use Rattle.grid.specs.Grid.{Grid}
use Rattle.record.specs.Record.{Puzzle}
use Rattle.grid.specs.Cells.{Literal, potential}
use Rattle.groups.specs.Groups.{labels, group}
use Rattle.groups.specs.Arrays.{TableOf}
use Rattle.literals.specs.Literals.{Found}
use Rattle.units.specs.Units.{boundary}

-- the table of the potential groups of the cells
abbrev pub PotentialTable : Puzzle → List ℕ → List ℕ → List ℕ → List ℕ → List ℕ → ℕ → Type 0
PotentialTable p cells = TableOf p cells (potential cells)

-- the group named f has a square and no arrow cell, by the counts of both
unfoldable pub stranded : List ℕ → List ℕ → ℕ → Bool
stranded squares arrowed f = not (eqb (get_or squares f 0) 0) && eqb (get_or arrowed f 0) 0

-- the reason r f of the group named f, or none
unfoldable pub found_at : (ℕ → List Literal) → Option ℕ → Found
found_at r None = none
found_at r (Some f) = some (r f)

-- the literals of reason 1 for the potential group named f
abbrev pub boundary_of : Grid → List ℕ → ℕ → List Literal
boundary_of g cells f = boundary g cells (group g (potential cells) (labels g (potential cells)) f)
