-- What holds at each turn of the loop of `clauses::Sheet::write_given`.
-- Assumes nothing.
use lib.ListN.{get_or}
use Rattle.grid.specs.Lists.{flat_map, upto}
use Rattle.clauses.specs.Clauses.{given_at, clauses_bytes}
use Rattle.clauses.specs.Inside.{Pushed}
use Rattle.clauses.proofs.Sheet.write_given.Given as goal

-- the clauses of the cells below i are written
abbrev pub invariant-loop-i : goal.invariant-loop-i
invariant-loop-i l = Pushed l.initial.self l.self (clauses_bytes (flat_map (λ i. given_at (get_or l.codes i 0) i) (upto l.i)))
