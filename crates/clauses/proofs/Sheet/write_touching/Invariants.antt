-- What holds at each turn of the loop of `clauses::Sheet::write_touching`.
-- Assumes nothing.
use Rattle.grid.specs.Lists.{flat_map, upto}
use Rattle.grid.specs.Side.{sized}
use Rattle.clauses.specs.Clauses.{touching_at, clauses_bytes}
use Rattle.clauses.specs.Inside.{Pushed, marked}
use Rattle.clauses.proofs.Sheet.write_touching.Given as goal

-- the clauses of the cells below i are written
abbrev pub invariant-loop-i : goal.invariant-loop-i
invariant-loop-i l = Pushed l.initial.self l.self (clauses_bytes (flat_map (touching_at (marked l.marks) (sized l.grid.height l.grid.width)) (upto l.i)))
