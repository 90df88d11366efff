-- What holds at each turn of the loop of `exported::write_numbers`.
-- Assumes nothing.
use Prim.Native.Nat.{◌*◌}
use mathlib.Core.Path.{◌≡◌}
use mathlib.Core.List.{◌++◌}
use lib.ListN.{take, drop}
use Rattle.exported.specs.Written.{bytes_of}
use Rattle.exported.proofs.write_numbers.Given as goal

abbrev pub invariant-loop-k : goal.invariant-loop-k
invariant-loop-k l = l.output ≡ bytes_of (take l.k l.numbers) ++ drop (2 * l.k) l.initial.output
