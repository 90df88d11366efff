-- What holds at each turn of the loop of `reach::mark_floats_beside`.
-- Assumes nothing.
use Prim.Native.Nat.{ℕ}
use mathlib.Core.Bool.{Bool, ◌||◌}
use mathlib.Core.List.{List}
use Rattle.reach.specs.Inside.{float_among}
use Rattle.grid.specs.Marks.{Marks}
use Rattle.grid.specs.Side.{sized}
use Rattle.grid.proofs.AroundLaws.{gathered}
use Rattle.reach.proofs.mark_floats_beside.Given as goal

-- the floating groups of the cells js are marked too
abbrev pub Near : List ℕ → List ℕ → List ℕ → List ℕ → (ℕ → Bool) → List ℕ → Type 0
Near kinds owners near₀ near t js = Marks near₀ t → Marks near (λ m. t m || float_among kinds owners js m)

abbrev pub invariant-loop-k : goal.invariant-loop-k
invariant-loop-k l = (t : ℕ → Bool) → Near l.info.kinds.now l.info.owners.now l.initial.near l.near t (gathered (sized l.info.grid.height l.info.grid.width) l.i l.k)
