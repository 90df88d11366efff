-- What holds at each turn of the loop of `fence::touches_marked`.
-- Assumes nothing.
use Prim.Native.Nat.{ℕ}
use mathlib.Core.Path.{◌≡◌}
use mathlib.Core.Bool.{false}
use mathlib.Core.List.{List}
use lib.Dec.{eqb}
use lib.ListN.{get_or}
use Rattle.grid.specs.Lists.{any}
use Rattle.grid.specs.Side.{sized}
use Rattle.grid.proofs.AroundLaws.{gathered}
use Rattle.fence.proofs.touches_marked.Given as goal

-- none of the cells is marked
abbrev pub Untouched : List ℕ → List ℕ → Type 0
Untouched marks l = any (λ j. eqb (get_or marks j 0) 1) l ≡ false

abbrev pub invariant-loop-k : goal.invariant-loop-k
invariant-loop-k l = Untouched l.marks (gathered (sized l.info.grid.height l.info.grid.width) l.i l.k)
