-- The potential groups of a board that is lent, and one of them.
-- Assumes nothing.
use Rattle.std.specs.Prelude.{ℕ, ◌≡◌, Bool, ◌&&◌, List, eqb, get_or}
use Rattle.grid.specs.Lists.{any, filter, upto, last}
use Rattle.grid.specs.Grid.{neighbours}
use Rattle.grid.specs.Side.{sized, towards}
use Rattle.grid.specs.Cells.{Literal, potential}
use Rattle.groups.specs.Arrays.{label_array}
use Rattle.groups.specs.declared.Groups.{Groups}
use Rattle.grid.specs.declared.Grid.{Grid}
use Rattle.units.specs.Arrays.{PotentialTable, boundary_of}
use Rattle.units.specs.Lent.{cells_in, puzzle_on, states_on}
use Rattle.units.specs.declared.PotentialGroup.{PotentialGroup}

-- they stand in the table
abbrev pub HasPotentials : Grid → List (List ℕ) → List ℕ → Groups → Type 0
HasPotentials grid lines cells groups =
    PotentialTable (puzzle_on grid lines) (states_on grid cells) groups.labels groups.firsts groups.squares groups.arrowed groups.count

module _ (group : PotentialGroup) where
  -- cell j is in it
  abbrev pub has_cell : ℕ → Bool
  has_cell j = eqb (get_or group.labels.now j 0) group.name

  -- cell i is one of its squares
  abbrev pub has_square : ℕ → Bool
  has_square i = has_cell i && eqb (get_or group.cells.now i 0) 1

  -- its last square, 0 if there is none
  abbrev pub last_square : ℕ
  last_square = last 0 (filter has_square (upto (cells_in group.grid)))

  -- the neighbour of cell i in direction k, if there is one, is in it
  abbrev pub touched_toward : ℕ → ℕ → Bool
  touched_toward i k = any has_cell (towards (sized group.grid.height group.grid.width) i k)

  -- cell i touches it
  abbrev pub touched : ℕ → Bool
  touched i = any has_cell (neighbours (sized group.grid.height group.grid.width) i)

  -- cell i is empty and touches it
  abbrev pub on_boundary : ℕ → Bool
  on_boundary i = eqb (get_or group.cells.now i 0) 0 && touched i

  -- the labels are those of the potential groups
  abbrev pub HasLabels : Type 0
  HasLabels = group.labels.now ≡ label_array (sized group.grid.height group.grid.width) (potential (states_on group.grid group.cells.now))

  -- the literals of reason 1 for it
  abbrev pub boundary : List Literal
  boundary = boundary_of (sized group.grid.height group.grid.width) (states_on group.grid group.cells.now) group.name
