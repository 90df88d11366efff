-- What holds at each turn of the loop of `reach::near::Floats::list_floats_beside`.
-- Assumes nothing.
use Prim.Native.Nat.{ℕ}
use mathlib.Core.Bool.{Bool, ◌||◌}
use mathlib.Core.List.{List}
use Rattle.grid.specs.Side.{sized}
use Rattle.grid.proofs.AroundLaws.{gathered}
use Rattle.reach.specs.Near.{Listed}
use Rattle.reach.specs.Inside.{float_among}
use Rattle.reach.specs.declared.near.Floats.{Floats}
use Rattle.reach.proofs.near.Floats.list_floats_beside.Given as goal

-- the floating groups of the cells js are listed too
abbrev pub Passed : List ℕ → List ℕ → Floats → ℕ → Floats → ℕ → (ℕ → Bool) → List ℕ → Type 0
Passed kinds owners before count after total t js =
    Listed t before.near.now before.groups.now count → Listed (λ m. t m || float_among kinds owners js m) after.near.now after.groups.now total

abbrev pub invariant-loop-k : goal.invariant-loop-k
invariant-loop-k l =
    (t : ℕ → Bool) → Passed l.info.kinds.now l.info.owners.now l.initial.self l.count l.self l.total t (gathered (sized l.info.grid.height l.info.grid.width) l.i l.k)
