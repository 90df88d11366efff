-- What holds at each turn of the loop of `writer::BitWriter::write_steps`.
-- Assumes nothing.
use Prim.Native.Nat.{◌-◌, ◌*◌, ◌≤◌, ◌<◌}
use mathlib.Core.Path.{◌≡◌}
use lib.ListN.{length, get_or, take, drop}
use Rattle.std.specs.Slice.Iter.{windows_size, windows_rest}
use Rattle.grid.specs.Side.{sized}
use Rattle.record.specs.Write.{step_bits}
use Rattle.writer.specs.Wrote.{Appends}
use Rattle.writer.proofs.BitWriter.write_steps.Given as goal

-- the steps before that of the cell i are written
abbrev pub invariant-loop-step : goal.invariant-loop-step
invariant-loop-step l =
    let rest = windows_rest l.step-iterator in
    let i = length l.arrow - length rest in
    (windows_size l.step-iterator ≡ 2) × (0 < length rest) × (length rest ≤ length l.arrow) × (rest ≡ drop i l.arrow)
    × Appends (2 * i) (step_bits (sized l.grid.height l.grid.width) (get_or l.arrow 0 0) (take i (drop 1 l.arrow))) l.initial.self l.self
