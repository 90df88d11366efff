-- What holds at each turn of the loops of `clauses::Sheet::between_at`.
-- Assumes nothing.
use mathlib.Core.List.{map}
use Rattle.grid.specs.Lists.{flat_map, upto}
use Rattle.clauses.specs.Clauses.{between, clauses_bytes}
use Rattle.clauses.specs.Inside.{Pushed}
use Rattle.clauses.proofs.Sheet.between_at.Given as goal

-- the clauses with the later cell at a place below a are written
abbrev pub invariant-loop-a : goal.invariant-loop-a
invariant-loop-a l = Pushed l.initial.self l.self (clauses_bytes (flat_map (λ a. map (between l.i l.cells a) (upto a)) (upto l.a)))

-- and of those with the one at place a those with the earlier cells so far
abbrev pub invariant-loop-before : goal.invariant-loop-before
invariant-loop-before l = Pushed l.initial.self l.self (clauses_bytes (map (between l.i l.cells l.a) (upto l.before-index)))
