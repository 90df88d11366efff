-- What holds at each turn of the loop of `record::Line::read_arrows`.
-- Assumes nothing.
use Prim.Native.Nat.{◌≤◌}
use lib.ListN.{length}
use Rattle.grid.specs.Side.{sized}
use Rattle.record.proofs.ArrowsLaws.{ArrowsSoFar}
use Rattle.record.proofs.Line.read_arrows.Given as goal

abbrev pub invariant-loop-i : goal.invariant-loop-i
invariant-loop-i l = (length l.self ≤ 1024) × ArrowsSoFar l.initial.bits (sized l.grid.height l.grid.width) l.arrows l.i l.self l.ends l.bits
