-- What holds at each turn of the loop of `record::Line::read_steps`.
-- Assumes nothing.
use Prim.Native.Nat.{◌+◌, ◌*◌, ◌<◌}
use Rattle.grid.specs.Side.{sized}
use Rattle.record.proofs.ArrowLaws.{StepsSoFar}
use Rattle.record.proofs.Line.read_steps.Given as goal

abbrev pub invariant-loop : goal.invariant-loop
invariant-loop l =
    (l.place.row < l.grid.height)
    × (l.place.col < l.grid.width)
    × StepsSoFar l.initial.bits (sized l.grid.height l.grid.width) l.initial.self (l.fn.from.row * l.grid.width + l.fn.from.col) l.steps l.counter (l.place.row * l.grid.width + l.place.col) l.self l.bits
