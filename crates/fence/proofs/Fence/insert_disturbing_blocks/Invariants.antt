-- What holds at each turn of the loop of `fence::Fence::insert_disturbing_blocks`.
-- Assumes nothing.
use Prim.Native.Nat.{ℕ}
use mathlib.Core.Bool.{Bool, ◌||◌}
use mathlib.Core.List.{List}
use Rattle.grid.specs.Side.{sized}
use Rattle.grid.proofs.AroundLaws.{gathered}
use Rattle.std.specs.Borrow.{MutBor}
use Rattle.kinds.specs.declared.BoardInfo.{BoardInfo}
use Rattle.fence.specs.declared.Fence.{Fence}
use Rattle.fence.specs.Inside.{Whole}
use Rattle.fence.specs.Part.{Filled}
use Rattle.fence.proofs.Fences.{in_disturbing_among}
use Rattle.fence.proofs.Fence.insert_disturbing_blocks.Given as goal

-- the other arrow blocks of the cells js are inserted too
abbrev pub Added : BoardInfo → MutBor (List ℕ) → Fence → ℕ → (ℕ → Bool) → Fence → List ℕ → Type 0
Added info lent before f t after js = Filled info lent t before → Filled info lent (λ x. t x || in_disturbing_among info.kinds.now info.owners.now f js x) after

abbrev pub invariant-loop-k : goal.invariant-loop-k
invariant-loop-k l =
    (lent : MutBor (List ℕ)) (t : ℕ → Bool) → Whole l.info.kinds.now l.info.owners.now t → Added l.info lent l.initial.self l.f t l.self (gathered (sized l.info.grid.height l.info.grid.width) l.i l.k)
