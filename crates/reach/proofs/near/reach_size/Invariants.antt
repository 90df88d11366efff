-- What holds at each turn of the loop of `reach::near::reach_size`.
-- Assumes nothing.
use Prim.Native.Nat.{◌+◌, ◌*◌, ◌<◌}
use mathlib.Core.Path.{◌≡◌}
use lib.ListN.{get_or, take}
use Rattle.reach.proofs.NearLaws.{total}
use Rattle.reach.proofs.near.reach_size.Given as goal

abbrev pub invariant-loop-m : goal.invariant-loop-m
invariant-loop-m l = (l.total < (l.m-index + 2) * 65536) × (l.total ≡ get_or l.squares l.fn.f 0 + get_or l.sizes l.fn.f 0 + total (λ m. get_or l.sizes m 0) (take l.m-index l.names))
