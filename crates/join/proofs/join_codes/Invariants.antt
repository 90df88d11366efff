-- What holds at each turn of the loop of `join::join_codes`.
-- Assumes nothing.
use mathlib.Core.Path.{◌≡◌}
use mathlib.Core.List.{map}
use Rattle.grid.specs.Lists.{upto, array_of}
use Rattle.join.specs.Inside.{code_on}
use Rattle.join.proofs.join_codes.Given as goal

abbrev pub invariant-loop-j : goal.invariant-loop-j
invariant-loop-j l = l.codes ≡ array_of 0 (map (code_on l.left l.right) (upto l.j))
