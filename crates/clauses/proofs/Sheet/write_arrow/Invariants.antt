-- What holds at each turn of the loop of `clauses::Sheet::write_arrow`.
-- Assumes nothing.
use Prim.Native.Nat.{ℕ}
use mathlib.Core.Path.{◌≡◌}
use mathlib.Core.List.{List, map}
use Rattle.grid.specs.Lists.{upto}
use Rattle.grid.specs.Cells.{word}
use Rattle.clauses.specs.Clauses.{others_of, clauses_bytes}
use Rattle.clauses.specs.Inside.{Pushed}
use Rattle.clauses.proofs.Sheet.write_arrow.Given as goal

-- the clauses of the cells at the places below k are written
abbrev pub invariant-loop-k : goal.invariant-loop-k
invariant-loop-k l = (arrow : List ℕ) → l.squares ≡ map (λ j. word (j, 1)) arrow → Pushed l.initial.self l.self (clauses_bytes (map (others_of arrow) (upto l.k)))
