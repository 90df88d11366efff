-- What holds at each turn of the loop of `unique::base_cells`.
-- Assumes nothing.
use Rattle.std.proofs.Common.{◌≡◌, map, get_or}
use Rattle.grid.specs.Lists.{upto, array_of}
use Rattle.unique.specs.Unique.{base_cell}
use Rattle.unique.proofs.base_cells.Given as goal

abbrev pub invariant-loop-i : goal.invariant-loop-i
invariant-loop-i l = l.cells ≡ array_of 2 (map (λ k. base_cell (get_or l.leaf.problem.now.cells k 0)) (upto l.i))
