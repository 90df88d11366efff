-- `paths::BreadthFirstList::list_from` meets its contract: the cells before place t have appended theirs, so that what is left makes the whole list.
-- Assumes nothing.
use native.Mathlib.Omega.{arith}
use Rattle.grid.specs.Grid.{size}
use Rattle.grid.specs.Side.{sized}
use Rattle.grid.proofs.GridLaws.{size_most}
use Rattle.paths.proofs.Breadth.{Run-first, run_cell, run_below, Run-more, Run-done}
use Rattle.paths.proofs.BreadthFirstList.list_from.Goals as goal

pub loop-p-init : goal.loop-p-init
unfolding size
loop-p-init c =
    let g = c.args.grid in
    Run-first (sized g.height g.width) c.args.cells.now c.args.b c.requires.square.1 c.requires.square.0 (size_most (sized g.height g.width) g.tall g.wide)
    (rw (c.requires.empty.0, c.requires.empty.1) at c.list_cell.ensures)

pub list_neighbours-requires : goal.list_neighbours-requires
unfolding size
list_neighbours-requires c =
    let g = c.args.grid in
    let x = (rw c.deref.ensures.0 at c.in-Some.ensures.lookup).3 in
    rw (x.1 0) (run_cell (sized g.height g.width) c.args.cells.now c.args.b c.loop-p.invariant x.0)

pub loop-p-smaller : goal.loop-p-smaller
unfolding size
loop-p-smaller c =
    let g = c.args.grid in
    let x = (rw c.deref.ensures.0 at c.in-Some.ensures.lookup).3 in
    omega (arith, run_below (sized g.height g.width) c.args.cells.now c.args.b c.loop-p.invariant x.0)

pub loop-p-preserved : goal.loop-p-preserved
unfolding size
loop-p-preserved c =
    let g = c.args.grid in
    let x = (rw c.deref.ensures.0 at c.in-Some.ensures.lookup).3 in
    Run-more (sized g.height g.width) c.args.cells.now c.args.b c.loop-p.invariant x.0 (rw (x.1 0) at c.list_neighbours.ensures)

pub returns : goal.returns
unfolding size
returns c =
    let g = c.args.grid in
    Run-done (sized g.height g.width) c.args.cells.now c.args.b c.loop-p.invariant (rw c.deref.ensures.0 at c.in_default.ensures.lookup).3
