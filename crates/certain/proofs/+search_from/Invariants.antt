-- What falls from call to call of `certain::search_from`.
-- Assumes nothing.
use Rattle.grid.specs.Lists.{how_many}
use Rattle.certain.proofs.+search_from.Given as goal

abbrev pub decreases-search_from : goal.decreases-search_from
decreases-search_from l = how_many 2 l.cells.now
