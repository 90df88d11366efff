-- What holds at each turn of the loop of `clauses::squares`.
-- Assumes nothing.
use mathlib.Core.Path.{◌≡◌}
use mathlib.Core.List.{◌++◌, map}
use lib.ListN.{take, drop}
use Rattle.grid.specs.Cells.{word}
use Rattle.clauses.proofs.squares.Given as goal

-- the cells so far have become literals
abbrev pub invariant-loop-literal : goal.invariant-loop-literal
invariant-loop-literal l = l.literal-items ≡ map (λ j. word (j, 1)) (take l.literal-index l.cells) ++ drop l.literal-index l.cells
