-- What holds at each turn of the loop of `sized::check_sizes`.
-- Assumes nothing.
use Prim.Native.Nat.{ℕ}
use mathlib.Core.Path.{◌≡◌}
use mathlib.Core.List.{List}
use lib.ListN.{length}
use Rattle.growth.specs.Pairs.{view_on}
use Rattle.sized.specs.Inside.{Board}
use Rattle.sized.proofs.SizeLaws.{ahead}
use Rattle.sized.proofs.check_sizes.Given as goal

-- the cells before i give no reason, and the buffer is as it was
pub record Amid (h w : ℕ) (lows highs cells kinds owners buffer₀ buffer : List ℕ) (i : ℕ) : Type 0 where
  pub same : buffer ≡ buffer₀
  pub passed : (lines : List (List ℕ)) → Board h w lines lows highs cells kinds owners
      → ahead (view_on h w lines cells) lows highs (length lows) 0 ≡ ahead (view_on h w lines cells) lows highs (length lows) i

abbrev pub invariant-loop-i : goal.invariant-loop-i
invariant-loop-i l =
    let info = l.scene.linked.info in
    Amid info.grid.height info.grid.width l.sizes.lowest.now l.sizes.highest.now info.cells.now info.kinds.now info.owners.now l.initial.buffer l.buffer l.i
