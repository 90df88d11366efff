-- What holds at each turn of the loop of `turn::Move::codes`.
-- Assumes nothing.
use Prim.Native.Nat.{ℕ}
use mathlib.Core.Path.{◌≡◌}
use mathlib.Core.List.{map}
use lib.ListN.{get_or}
use Rattle.grid.specs.Lists.{upto, array_of}
use Rattle.grid.specs.Side.{sized}
use Rattle.turn.specs.Inside.{step_of}
use Rattle.turn.proofs.Move.codes.Given as goal

-- the codes of the cells below j have come
abbrev pub invariant-loop-j : goal.invariant-loop-j
invariant-loop-j l = l.moved ≡ array_of 0 (map (λ (k : ℕ). get_or l.cells ((step_of l.self (sized l.grid.height l.grid.width)).from k) 0) (upto l.j))
