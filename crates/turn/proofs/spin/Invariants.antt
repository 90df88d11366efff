-- What holds at each turn of the loop of `turn::spin`.
-- Assumes nothing.
use mathlib.Core.Path.{◌≡◌}
use Rattle.turn.specs.Inside.{spun}
use Rattle.turn.proofs.spin.Given as goal

abbrev pub invariant-loop : goal.invariant-loop
invariant-loop l = l.puzzle ≡ spun l.counter l.initial.puzzle
