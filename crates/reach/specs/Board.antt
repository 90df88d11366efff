-- The reach on a board, by what is lent of it.
-- Assumes nothing.
use Rattle.std.specs.Prelude.{ℕ, Bool, ◌&&◌, List, eqb, get_or}
use Rattle.grid.specs.Side.{sized}
use Rattle.kinds.specs.declared.BoardInfo.{BoardInfo}
use Rattle.kinds.specs.Board.{cell_count, beside}
use Rattle.reach.specs.Chains.{Chains}
use Rattle.reach.specs.Inside.{float_among, near_at, near_among}
use Rattle.reach.specs.Near.{Sizes, SquaresOf}

-- one of the cells js is in the floating group m
abbrev pub has_float : BoardInfo → List ℕ → ℕ → Bool
has_float info = float_among info.kinds.now info.owners.now

-- cell i is a neighbour of its owner, and touches the floating group m
abbrev pub touches_float : BoardInfo → ℕ → ℕ → Bool
touches_float info i m = eqb (get_or info.kinds.now i 0) 2 && has_float info (beside info i) m

-- cell i is a neighbour of f, and touches the floating group m
abbrev pub float_beside : BoardInfo → ℕ → ℕ → ℕ → Bool
float_beside info f i = near_at info.kinds.now info.owners.now f i (beside info i)

-- a neighbour of f touches the floating group m
abbrev pub is_float_near : BoardInfo → ℕ → ℕ → Bool
is_float_near info f = near_among info.kinds.now info.owners.now (sized info.grid.height info.grid.width) f (cell_count info)

-- its cells are linked
abbrev pub CellsLinked : BoardInfo → List ℕ → List ℕ → Type 0
CellsLinked info head next = Chains info.owners.now head next (cell_count info)

-- how many of its cells each owner has beside the squares of arrow blocks
abbrev pub OwnerSizes : BoardInfo → List ℕ → Type 0
OwnerSizes info = Sizes info.kinds.now info.owners.now (cell_count info)

-- how many squares the arrow block f has
abbrev pub BlockSize : BoardInfo → List ℕ → ℕ → Type 0
BlockSize info = SquaresOf info.kinds.now info.owners.now (cell_count info)
