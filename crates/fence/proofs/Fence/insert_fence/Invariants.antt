-- What holds at each turn of the loop of `fence::Fence::insert_fence`.
-- Assumes nothing.
use Rattle.grid.specs.Side.{sized}
use Rattle.fence.specs.Inside.{adds_among}
use Rattle.fence.specs.Part.{Filled}
use Rattle.fence.proofs.Fence.insert_fence.Given as goal

abbrev pub invariant-loop-i : goal.invariant-loop-i
invariant-loop-i l = Filled l.info l.initial.self.part (adds_among l.info.cells.now l.info.kinds.now l.info.owners.now l.marks (sized l.info.grid.height l.info.grid.width) l.f l.i) l.self
