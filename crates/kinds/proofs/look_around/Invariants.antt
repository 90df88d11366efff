-- What holds at each turn of the loop of `kinds::look_around`.
-- Assumes nothing.
use Rattle.grid.specs.Side.{sized}
use Rattle.grid.proofs.AroundLaws.{gathered}
use Rattle.kinds.specs.Inside.{Owned, arrow_blocks_at}
use Rattle.kinds.proofs.look_around.Given as goal

abbrev pub invariant-loop-k : goal.invariant-loop-k
invariant-loop-k l = Owned (arrow_blocks_at l.blocks.labels l.blocks.arrowed (gathered (sized l.grid.height l.grid.width) l.i l.k)) l.touched
