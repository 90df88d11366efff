-- What holds at each turn of the loop of `clauses::Sheet::write_arrows`.
-- Assumes nothing.
use Prim.Native.Nat.{◌<◌, ◌≤◌}
use mathlib.Core.Path.{◌≡◌}
use lib.ListN.{get_or, take}
use Rattle.grid.specs.Lists.{flat_map, last}
use Rattle.groups.specs.Arrays.{lines_of}
use Rattle.clauses.specs.Clauses.{arrow_clauses, clauses_bytes}
use Rattle.clauses.specs.Inside.{Pushed}
use Rattle.clauses.proofs.Sheet.write_arrows.Given as goal

-- the arrows so far are written, and the next one starts at `from`
abbrev pub invariant-loop-end : goal.invariant-loop-end
invariant-loop-end l = record {
  start : l.from ≡ last 0 (take l.end-index l.problem.ends);
  order : l.end-index < l.problem.count → l.from ≤ get_or l.problem.ends l.end-index 0;
  written : Pushed l.initial.self l.self (clauses_bytes (flat_map arrow_clauses (lines_of l.problem.arrows l.problem.ends l.end-index)));
}
