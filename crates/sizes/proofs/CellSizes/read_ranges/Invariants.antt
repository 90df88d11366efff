-- What holds at each turn of the loop of `sizes::CellSizes::read_ranges`.
-- Assumes nothing.
use Prim.Native.Nat.{ℕ, ◌*◌}
use mathlib.Core.Path.{◌≡◌}
use mathlib.Core.List.{List}
use lib.ListN.{length, drop}
use Rattle.groups.specs.Arrays.{marked}
use Rattle.record.specs.Record.{ok}
use Rattle.record.specs.Leaf.{ranges_from}
use Rattle.sizes.proofs.ReadLaws.{Amid}
use Rattle.sizes.proofs.CellSizes.read_ranges.Given as goal

abbrev pub invariant-loop-k : goal.invariant-loop-k
invariant-loop-k g l =
    (ns : List ℕ)
    × (g.N.Numbers.numbers l.numbers ≡ ok ns)
    × (length ns ≡ l.count)
    × Amid (ranges_from (marked l.marks) 0 ns) (ranges_from (marked l.marks) l.from (drop (3 * l.k) ns)) l.from l.sizes.lowest l.sizes.highest
