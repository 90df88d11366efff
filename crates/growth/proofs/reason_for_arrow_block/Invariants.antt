-- What holds at each turn of the loop of `growth::reason_for_arrow_block`.
-- Assumes nothing.
use Rattle.grid.specs.Lists.{filter, upto}
use Rattle.literals.specs.Literals.{each}
use Rattle.literals.specs.Held.{Holds}
use Rattle.kinds.specs.Inside.{of_block}
use Rattle.growth.proofs.reason_for_arrow_block.Given as goal

-- the cells of the block below i are written
abbrev pub invariant-loop-i : goal.invariant-loop-i
invariant-loop-i l = Holds l.initial.squares.out (each 1 (filter (of_block l.kinds l.owners l.f) (upto l.i))) l.squares
