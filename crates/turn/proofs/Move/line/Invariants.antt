-- What holds at each turn of the loop of `turn::Move::line`.
-- Assumes nothing.
use mathlib.Core.Path.{◌≡◌}
use mathlib.Core.List.{map}
use lib.ListN.{take}
use Rattle.grid.specs.Lists.{array_of}
use Rattle.grid.specs.Side.{sized}
use Rattle.turn.specs.Inside.{step_of}
use Rattle.turn.proofs.Move.line.Given as goal

-- the first t cells are moved
abbrev pub invariant-loop-t : goal.invariant-loop-t
invariant-loop-t l = l.moved ≡ array_of 0 (map (step_of l.self (sized l.grid.height l.grid.width)).to (take l.t l.line))
