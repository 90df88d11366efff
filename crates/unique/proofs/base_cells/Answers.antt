-- `unique::base_cells` meets its contract: the codes of all cells are passed.
-- Assumes nothing.
use native.Mathlib.Omega.{arith}
use mathlib.Core.Path.{◌≡◌}
use Rattle.grid.proofs.FilledLaws.{filled_none, filled_more}
use Rattle.unique.proofs.LentLaws.{base_is}
use Rattle.unique.proofs.base_cells.Goals as goal

pub loop-i-init : goal.loop-i-init
loop-i-init c = filled_none 2 _

pub loop-i-preserved : goal.loop-i-preserved
loop-i-preserved c = rw c.loop-i.invariant (filled_more 2 _ c.loop-i.i c.base_cell.result (omega arith) c.base_cell.ensures)

pub returns : goal.returns
returns c =
    let q = c.args.leaf.now.problem.now in
    let all : c.loop-i.i ≡ c.size-i-end.result = omega arith in
    base_is c.args.leaf.now (rw (all, c.size-i-end.ensures.value, c.grid.ensures.0, c.grid.ensures.1) at c.loop-i.invariant)
