-- What holds at each turn of the loop of `pairs::search_arrow`, and what falls from turn to turn.
-- Assumes nothing.
use Prim.Native.Nat.{ℕ, ◌-◌, ◌*◌, ◌<◌}
use mathlib.Core.Path.{◌≡◌}
use mathlib.Core.Bool.{true}
use mathlib.Core.List.{List}
use lib.ListN.{length, get_or, take}
use Rattle.grid.specs.Cells.{square}
use Rattle.groups.specs.Arrows.{Pair, pairs}
use Rattle.kinds.specs.Kinds.{View}
use Rattle.literals.specs.Literals.{Found, first_found_of}
use Rattle.growth.specs.Pairs.{view_on, Stretch}
use Rattle.pairs.proofs.PairSearch.{ahead}
use Rattle.pairs.proofs.search_arrow.Given as goal

-- the pairs before `last`, which holds a square, give no reason, and the buffer is as it was
pub record Amid (finds : View → Pair → Found) (cells arrow kinds owners : List ℕ) (h w : ℕ) (buffer₀ buffer : List ℕ) (last : ℕ) : Type 0 where
  pub within : last < length arrow
  pub first : square cells (get_or arrow last 0) ≡ true
  pub same : buffer ≡ buffer₀
  pub passed : (lines : List (List ℕ)) → Stretch h w lines cells arrow kinds owners
      → first_found_of (finds (view_on h w lines cells)) (pairs (take (h * w) cells) arrow) ≡ ahead finds h w lines cells arrow last

abbrev pub invariant-loop-cur : goal.invariant-loop-cur
invariant-loop-cur g l =
    let info = l.scene.linked.info in
    Amid (g.R.PairReason.finds l.by) l.cells l.arrow info.kinds.now info.owners.now info.grid.height info.grid.width l.initial.buffer l.buffer l.last

abbrev pub decreases-loop-cur : goal.decreases-loop-cur
decreases-loop-cur g l = length l.arrow - l.last
