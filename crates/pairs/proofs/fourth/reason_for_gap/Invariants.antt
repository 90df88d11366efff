-- What holds at each turn of the loop of `pairs::fourth::reason_for_gap`.
-- Assumes nothing.
use lib.ListN.{take}
use Rattle.grid.specs.Lists.{filter}
use Rattle.grid.specs.Cells.{empty}
use Rattle.literals.specs.Literals.{each}
use Rattle.literals.specs.Held.{Holds}
use Rattle.pairs.proofs.fourth.reason_for_gap.Given as goal

-- the empty cells among those that were passed are written
abbrev pub invariant-loop-index : goal.invariant-loop-index
invariant-loop-index l = Holds l.initial.literals.out (each 0 (filter (empty l.cells) (take l.index-index l.gap))) l.literals
