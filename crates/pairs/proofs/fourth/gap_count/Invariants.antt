-- What holds at each turn of the loop of `pairs::fourth::gap_count`.
-- Assumes nothing.
use mathlib.Core.Path.{◌≡◌}
use mathlib.Core.Bool.{false}
use Prim.Native.Nat.{◌+◌, ◌≤◌}
use lib.ListN.{drop}
use Rattle.growth.specs.Growth.{most_apart}
use Rattle.pairs.proofs.fourth.gap_count.Given as goal

-- what is counted and the most of what is left make the most of all
abbrev pub invariant-loop-i : goal.invariant-loop-i
invariant-loop-i l = record {
  all : l.count + most_apart l.cells l.counted (drop l.i-index l.gap) ≡ most_apart l.cells false l.gap;
  few : l.count ≤ l.i-index;
}
