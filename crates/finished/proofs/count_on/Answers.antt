-- `finished::count_on` meets its contract: the cells counted so far and those from here on are all of them.
-- Assumes nothing.
use native.Mathlib.Omega.{arith}
use mathlib.Core.Path.{◌≡◌, refl}
use lib.ListN.{length}
use lib.Seq.{take-length}
use Rattle.grid.specs.Lists.{filter}
use Rattle.grid.proofs.ArrowSquares.{ahead, none_ahead}
use Rattle.finished.proofs.count_on.Goals as goal

pub returns : goal.returns
returns g c = λ test h.
    let arrow = c.args.arrow.now in
    let all : ahead test arrow (length arrow) 0 ≡ length (filter test arrow) = rw (take-length arrow) refl in
    omega (arith, all, c.loop-cell.invariant.0 test h, none_ahead test arrow (length arrow) c.loop-cell.cell-index (omega arith))
