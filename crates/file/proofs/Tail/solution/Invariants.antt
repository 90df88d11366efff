-- What holds at each turn of the loop of `file::Tail::solution`.
-- Assumes nothing.
use mathlib.Core.Path.{◌≡◌}
use lib.ListN.{drop}
use Rattle.grid.specs.Lists.{array_of}
use Rattle.file.specs.File.{solution_in}
use Rattle.file.proofs.Tail.solution.Given as goal

abbrev pub invariant-loop-i : goal.invariant-loop-i
invariant-loop-i l = l.cells ≡ array_of 0 (solution_in (drop l.self.from l.self.file.now) l.i)
