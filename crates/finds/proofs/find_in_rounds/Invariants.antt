-- What holds at each turn of the loop of `finds::find_in_rounds`.
-- Assumes nothing.
use mathlib.Core.Path.{◌≡◌}
use Rattle.refusal.specs.Refusals.{outcome_of}
use Rattle.finds.proofs.find_in_rounds.Given as goal

abbrev pub invariant-loop-i : goal.invariant-loop-i
invariant-loop-i l = (l.buffer ≡ l.initial.buffer) × (outcome_of l.found ≡ outcome_of l.initial.found)
