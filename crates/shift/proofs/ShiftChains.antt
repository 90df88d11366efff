-- The shift test over the chains of a block and of the floating groups near it.
-- Assumes nothing.
use Prim.Native.Nat.{ℕ, ◌*◌, ◌/◌, ◌%◌}
use mathlib.Core.Path.{◌≡◌, refl, sym, subst, ◌∙◌}
use mathlib.Core.Bool.{Bool, ◌||◌}
use mathlib.Core.List.{List}
use lib.ListN.{get_or, take}
use Rattle.grid.specs.Lists.{any}
use Rattle.grid.specs.Grid.{size, row, col}
use Rattle.grid.specs.Side.{sized}
use Rattle.grid.proofs.AppendLaws.{any_agree}
use Rattle.groups.specs.Rules.{fits}
use Rattle.kinds.specs.Kinds.{View, view, view_with, block, reach}
use Rattle.reach.specs.Chains.{cells_from}
use Rattle.kinds.specs.Inside.{Limits, puzzle_with, Held}
use Rattle.reach.specs.Inside.{reaches_at}
use Rattle.reach.specs.Near.{NearFloats}
use Rattle.reach.proofs.NearReach.{reached_is, reach-any}
use Rattle.shift.specs.Fits.{shift_fits}
use Rattle.shift.specs.Shift.{block_in, BlockPlaces, fits_at}
use Rattle.kinds.proofs.BlockArrays.{block_by}
use Rattle.shift.proofs.Shifts.{fits_test, reach_inside, reach-Tells}

module _ (h w : ℕ) (limits : Limits h w) (lines : List (List ℕ)) (cells : List ℕ) {kinds owners near groups : List ℕ} {total : ℕ} (e f : ℕ)
    (held : Held (view (puzzle_with (sized h w) lines) cells) kinds owners) (floats : NearFloats (view (puzzle_with (sized h w) lines) cells) e near groups total)
    (arrow : get_or kinds e 0 ≡ 1) {rows columns : List ℕ} (places : BlockPlaces w (block (view (puzzle_with (sized h w) lines) cells) f) rows columns) where
  abbrev v : View
  v = view (puzzle_with (sized h w) lines) cells

  -- the shift to t lies in the reach
  abbrev test : ℕ → Bool
  test = fits_at h w rows columns (reaches_at kinds owners near e) (f / w) (f % w)

  test_is : (t : ℕ) → test t ≡ fits v.grid (block v f) (reach v e) f t
  unfolding view view_with row col size
  test_is t = fits_test v.grid (block v f) (reach v e) f (reaches_at kinds owners near e) places (reach_inside v e) (λ d l. reached_is h w limits lines cells kinds owners held e near groups total floats d l ∙ reach-Tells v e d l) t

  -- some shift to a cell of the block's chain fits, or to one of a floating group's
  pub chains_are : (any test (cells_from owners (h * w) e 0) || any (λ m. any test (cells_from owners (h * w) m 0)) (take total groups)) ≡ shift_fits v f e
  chains_are = sym (reach-any h w limits lines cells kinds owners held e near groups total floats arrow test) ∙ any_agree test (fits v.grid (block v f) (reach v e) f) (reach v e) (λ t _. test_is t)

-- the gathered cells of a block are those of the board
pub gathered_view : (h w : ℕ) (lines : List (List ℕ)) (cells : List ℕ) {kinds owners : List ℕ} → Held (view (puzzle_with (sized h w) lines) cells) kinds owners
    → (f : ℕ) {rows columns : List ℕ} → BlockPlaces w (block_in kinds owners (h * w) f) rows columns → BlockPlaces w (block (view (puzzle_with (sized h w) lines) cells) f) rows columns
unfolding block_in size view view_with
gathered_view h w lines cells {kinds} {owners} held f {rows} {columns} s =
    subst (λ (b : List ℕ). BlockPlaces w b rows columns) (block_by (view (puzzle_with (sized h w) lines) cells) f kinds owners (h * w) held refl) s
