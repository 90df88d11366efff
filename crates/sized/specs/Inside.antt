-- The search for reason 5 on arrays.
-- Assumes nothing.
use Rattle.std.specs.Prelude.{ℕ, ◌*◌, ◌≤◌, ◌<◌, cond, List, eqb, get_or}
use Rattle.std.proofs.Math.Option.{none}
use Rattle.grid.specs.Cells.{square}
use Rattle.record.specs.Leaf.{Range, range_at}
use Rattle.sizes.specs.Lent.{SizesOn}
use Rattle.kinds.specs.Kinds.{View}
use Rattle.kinds.specs.Inside.{Held}
use Rattle.literals.specs.Literals.{Found}
use Rattle.growth.specs.Pairs.{view_on}
use Rattle.sized.specs.Sized.{reason5_at}
use Rattle.sized.specs.declared.Measure.{Measure}
use Rattle.sized.specs.declared.Measure.TheVariants.{Within, Low, High}

-- how a block of so many cells and its reach meet a lowest and a highest size
pub data Measured (low high reach size : ℕ) : Measure → Type 0 where
  too_low : reach < low → Measured low high reach size Low
  too_high : low ≤ reach → high < size → Measured low high reach size High
  within : low ≤ reach → size ≤ high → Measured low high reach size Within

-- the range of the cell i in two arrays
abbrev pub range_in : List ℕ → List ℕ → ℕ → Range
range_in lows highs i = range_at i (get_or lows i 0) (get_or highs i 0)

-- reason 5 for the cell i, if it has sizes and is square
unfoldable pub reason5_in : View → List ℕ → List ℕ → ℕ → Found
reason5_in v lows highs i = cond (eqb (get_or lows i 0) 0) none (cond (square v.cells i) (reason5_at v (range_in lows highs i)) none)

-- the arrays hold the kinds of the board with the arrows `lines`, and the slices its sizes
pub record Board (h w : ℕ) (lines : List (List ℕ)) (lows highs cells kinds owners : List ℕ) : Type 0 where
  pub held : Held (view_on h w lines cells) kinds owners
  pub sizes : SizesOn (h * w) lines lows highs

-- they are those of some board
pub record SizedBoard (h w : ℕ) (lows highs cells kinds owners : List ℕ) : Type 0 where
  pub lines : List (List ℕ)
  pub board : Board h w lines lows highs cells kinds owners
