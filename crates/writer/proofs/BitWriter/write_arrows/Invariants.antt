-- What holds at each turn of the loop of `writer::BitWriter::write_arrows`.
-- Assumes nothing.
use Prim.Native.Nat.{◌+◌, ◌*◌}
use lib.ListN.{take}
use Rattle.grid.specs.Lists.{flat_map}
use Rattle.grid.specs.Side.{sized}
use Rattle.record.specs.Problem.{arrows_from}
use Rattle.record.specs.Lines.{start_at}
use Rattle.record.specs.Write.{arrow_bits}
use Rattle.writer.specs.Wrote.{Appends}
use Rattle.writer.proofs.BitWriter.write_arrows.Given as goal

-- the first k arrows are written
abbrev pub invariant-loop-k : goal.invariant-loop-k
invariant-loop-k l =
    Appends (18 * l.k + 2 * start_at l.problem.ends l.k) (flat_map (arrow_bits (sized l.problem.height l.problem.width)) (arrows_from l.problem.arrows 0 (take l.k l.problem.ends))) l.initial.self l.self
