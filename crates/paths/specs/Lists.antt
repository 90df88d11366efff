-- The breadth-first list of reason 2, on a board that is lent.
-- Assumes nothing.
use Rattle.std.specs.Prelude.{ℕ, ◌≡◌, List, [], ◌++◌, replicate}
use Rattle.grid.specs.Side.{sized}
use Rattle.grid.specs.declared.Grid.{Grid}
use Rattle.units.specs.Lent.{cells_in, states_on}
use Rattle.paths.specs.Paths.{Entry, appended, list_from}
use Rattle.paths.specs.Search.{Listing, Offered}
use Rattle.paths.specs.declared.BreadthFirstList.{BreadthFirstList}

-- no cell is listed
abbrev pub IsEmpty : BreadthFirstList → Type 0
IsEmpty list = (list.order.items ≡ []) × (list.from ≡ replicate 1024 1024)

-- cell j was offered with the parent p: it is listed if it is a square and was not
abbrev pub Offers : List ℕ → BreadthFirstList → ℕ → ℕ → BreadthFirstList → Type 0
Offers cells old j p new = Offered cells old.from old.order.items j p new.from new.order.items

-- the entries cs are listed
abbrev pub Lists : Grid → BreadthFirstList → List Entry → Type 0
Lists grid list = Listing (cells_in grid) list.order.items list.from

-- the entries cs, and behind them those that cell c appends
abbrev pub with_neighbours : Grid → List ℕ → List Entry → ℕ → List Entry
with_neighbours grid cells cs c = cs ++ appended (sized grid.height grid.width) (states_on grid cells) cs c

-- the list that starts at b
abbrev pub listed_from : Grid → List ℕ → ℕ → List Entry
listed_from grid cells = list_from (sized grid.height grid.width) (states_on grid cells)
