-- What holds at each turn of the loop of `paths::BreadthFirstList::list_neighbours`.
-- Assumes nothing.
use Prim.Native.Nat.{◌*◌}
use lib.ListN.{take}
use Rattle.grid.specs.Side.{sized}
use Rattle.paths.proofs.Listings.{Amid}
use Rattle.paths.proofs.BreadthFirstList.list_neighbours.Given as goal

abbrev pub invariant-loop-k : goal.invariant-loop-k
invariant-loop-k l =
    Amid (sized l.grid.height l.grid.width) (take (l.grid.height * l.grid.width) l.cells) l.p l.initial.self.from l.initial.self.order.items l.self.from l.self.order.items l.k
