-- `reach::near::count_cells` meets its contract: the cells passed are counted.
-- Assumes nothing.
use Rattle.reach.proofs.NearLaws.{Sizes-none}
use Rattle.reach.proofs.near.count_cells.Goals as goal

pub loop-i-init : goal.loop-i-init
loop-i-init c = rw c.requires.fresh.1 (Sizes-none _ _)
