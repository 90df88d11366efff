-- `reach::near::count_cell` meets its contract: a cell with an owner is counted for it.
-- Assumes nothing.
use Prim.Native.Nat.{◌%◌}
use native.Mathlib.Omega.{arith}
use lib.ListN.{get_or}
use Rattle.reach.proofs.NearLaws.{Sizes-either, size_few}
use Rattle.reach.proofs.near.count_cell.Goals as goal

pub overflow_add-size : goal.overflow_add-size
overflow_add-size c = rw c.from-slot.ensures (omega (arith, size_few c.requires.1 (get_or c.args.owners.now c.args.i 0 % 1024) (omega arith), c.requires.0))

pub returns : goal.returns
returns c = rw (c.pick.ensures, c.from-slot.ensures) (Sizes-either c.requires.1)
