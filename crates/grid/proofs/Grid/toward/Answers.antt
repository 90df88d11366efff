-- `grid::Grid::toward` meets its contract: the neighbour is a cell of the grid.
-- Assumes nothing.
use Rattle.grid.proofs.SideLaws.{column_left, leads_in, leads_small}
use Rattle.grid.proofs.Grid.toward.Goals as goal

pub returns-clause-inside : goal.returns-clause-inside
returns-clause-inside c =
    let g = c.args.self in
    leads_in g.height g.width c.args.i _ _ c.requires.cell c.row-y.ensures.value (column_left g.width c.args.i _ c.row-y.ensures.value) c.args.k c.requires.direction _ c.shifted.ensures

pub returns-clause-small : goal.returns-clause-small
returns-clause-small c =
    let g = c.args.self in
    leads_small g.height g.width c.args.i _ _ c.requires.cell c.row-y.ensures.value (column_left g.width c.args.i _ c.row-y.ensures.value) c.args.k c.requires.direction _ c.shifted.ensures g.tall g.wide
