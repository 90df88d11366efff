-- What stands in the arrays of a board's groups and kinds.
-- Assumes nothing.
use Prim.Native.Nat.{ℕ, ◌≤◌, ◌<◌}
use mathlib.Core.Path.{◌≡◌, refl}
use mathlib.Core.Bool.{◌&&◌}
use mathlib.Core.List.{List}
use lib.Dec.{eqb}
use lib.ListN.{get_or}
use Rattle.grid.specs.Lists.{upto, filter}
use Rattle.grid.specs.Grid.{size, cells_of}
use Rattle.grid.proofs.ListLaws.{map-upto_at, map-upto_past}
use Rattle.grid.proofs.FilledLaws.{filled_at}
use Rattle.grid.proofs.AppendLaws.{filter-upto}
use Rattle.record.specs.Record.{Puzzle}
use Rattle.kinds.specs.Inside.{Held, of_block}
use Rattle.kinds.specs.Kinds.{View, Kind, vacant, barrier, floating, in_block, neighbour, is_in, has, block, kind_at, kinds_of}
use Rattle.kinds.specs.Arrays.{kind_code, owner_by, kind_array, owner_array}

-- the kind of a cell of the grid, and what stands behind them
module _ (p : Puzzle) (cells blocks : List ℕ) (i : ℕ) where
  pub kind_get : i < size p.grid → get_or (kinds_of p cells blocks) i vacant ≡ kind_at p cells blocks i
  unfolding kinds_of cells_of
  kind_get = map-upto_at (kind_at p cells blocks) (size p.grid) i vacant

  pub kind_past : size p.grid ≤ i → get_or (kinds_of p cells blocks) i vacant ≡ vacant
  unfolding kinds_of cells_of
  kind_past = map-upto_past (kind_at p cells blocks) (size p.grid) i vacant

-- a cell is in the arrow block f by the numbers of its kind and its group
pub in_by : (k : Kind) (m f : ℕ) → (eqb (kind_code k) 1 && eqb (owner_by m k) f) ≡ is_in f k
unfolding kind_code owner_by is_in
in_by vacant m f = refl
in_by barrier m f = refl
in_by floating m f = refl
in_by (in_block e) m f = refl
in_by (neighbour e) m f = refl

module _ (v : View) where
  -- is cell i in the arrow block f?
  pub block_test : (f i : ℕ) → i < size v.grid → (eqb (get_or (kind_array v) i 0) 1 && eqb (get_or (owner_array v) i 0) f) ≡ has (is_in f) v.kinds i
  unfolding kind_array owner_array has cells_of
  block_test f i h =
      rw (filled_at 0 (λ j. kind_code (get_or v.kinds j vacant)) (size v.grid) i h, filled_at 1024 (λ j. owner_by (get_or v.floats j 0) (get_or v.kinds j vacant)) (size v.grid) i h)
      (in_by (get_or v.kinds i vacant) (get_or v.floats i 0) f)

  -- the cells of the arrow block f
  pub block_by : (f : ℕ) (kinds owners : List ℕ) (n : ℕ) → Held v kinds owners → n ≡ size v.grid
      → filter (of_block kinds owners f) (upto n) ≡ block v f
  unfolding block cells_of
  block_by f kinds owners n k e = rw (e, k.kind, k.owner) (filter-upto _ (has (is_in f) v.kinds) (size v.grid) (λ i h. block_test f i h))
