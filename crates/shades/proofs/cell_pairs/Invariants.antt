-- What holds at each turn of the loop of `shades::cell_pairs`.
-- Assumes nothing.
use Prim.Native.Nat.{◌*◌}
use mathlib.Core.Path.{◌≡◌}
use mathlib.Core.List.{◌++◌}
use lib.ListN.{drop, replicate}
use Rattle.shades.specs.Inside.{pairs_by}
use Rattle.shades.proofs.cell_pairs.Given as goal

abbrev pub invariant-loop-i : goal.invariant-loop-i
invariant-loop-i l = l.shades ≡ pairs_by l.groups l.squares l.i ++ drop (2 * l.i) (replicate 2048 0)
