-- What holds at each turn of the loop of `kinds::compute_cell_kinds`.
-- Assumes nothing.
use mathlib.Core.Path.{◌≡◌}
use Rattle.grid.specs.Side.{sized}
use Rattle.kinds.specs.Inside.{codes_in, owners_in}
use Rattle.kinds.proofs.compute_cell_kinds.Given as goal

abbrev pub invariant-loop-i : goal.invariant-loop-i
invariant-loop-i l = (l.kinds ≡ codes_in l.blocks.labels l.blocks.arrowed (sized l.grid.height l.grid.width) l.cells l.i) × (l.owners ≡ owners_in l.blocks.labels l.blocks.arrowed (sized l.grid.height l.grid.width) l.cells l.i)
