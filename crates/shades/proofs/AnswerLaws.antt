-- What `shades` answers of a board: 6, or the shades in the first places of its array.
-- Assumes nothing.
use Prim.Native.Nat.{◌*◌}
use mathlib.Core.Path.{◌≡◌, refl}
use mathlib.Core.Bool.{true, false}
use mathlib.Core.List.{List}
use Prim.Native.Nat.{ℕ}
use lib.ListN.{take}
use Rattle.grid.specs.Grid.{size}
use Rattle.grid.specs.Side.{sized}
use Rattle.record.specs.Problem.{grid_of}
use Rattle.refusal.specs.Refusals.{ok, refused}
use Rattle.board.specs.Form.{well_formed}
use Rattle.board.specs.Kept.{cells_on}
use Rattle.board.specs.declared.Board.{Board}
use Rattle.shades.specs.Shades.{shades_on, in_places, shades_of, shaded_as}

-- 6
pub shades_ill : (b : Board) → well_formed b ≡ false → refused 6 ≡ shaded_as (shades_of b)
unfolding shades_of
shades_ill b h = rw h refl

-- the shades, and 0 behind them
pub shades_well : (b : Board) {l : List ℕ} → well_formed b ≡ true
    → l ≡ in_places (shades_on (sized b.problem.height b.problem.width) (take (b.problem.height * b.problem.width) b.cells)) → ok l ≡ shaded_as (shades_of b)
unfolding shades_of cells_on grid_of size
shades_well b h e = rw (h, e) refl
