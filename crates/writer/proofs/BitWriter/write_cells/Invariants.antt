-- What holds at each turn of the loop of `writer::BitWriter::write_cells`.
-- Assumes nothing.
use Prim.Native.Nat.{◌*◌}
use lib.ListN.{take}
use Rattle.grid.specs.Lists.{flat_map}
use Rattle.record.specs.Write.{bits_of}
use Rattle.writer.specs.Wrote.{Appends}
use Rattle.writer.proofs.BitWriter.write_cells.Given as goal

-- the codes so far are written
abbrev pub invariant-loop-code : goal.invariant-loop-code
invariant-loop-code l = Appends (2 * l.code-index) (flat_map (λ c. bits_of c 2) (take l.code-index l.codes)) l.initial.self l.self
