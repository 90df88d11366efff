-- `growth::reason_for_cell` meets its contract: the reach is marked, the arrow cell is written, and the fence in the rest of the buffer.
-- Assumes nothing.
use Prim.Native.Nat.{◌*◌, ◌≤◌}
use native.Mathlib.Omega.{arith}
use mathlib.Core.List.{[], ◌∷◌}
use lib.ListN.{length, take, set}
use Rattle.literals.specs.Inside.{Wrote}
use Rattle.literals.specs.Literals.{each}
use Rattle.literals.proofs.BufferLaws.{Wrote-none}
use Rattle.literals.proofs.Findings.{lent, Wrote-part}
use Rattle.growth.proofs.PairChecks.{fence-Wrote, cell_Wrote}
use Rattle.growth.proofs.reason_for_cell.Goals as goal

pub returns : goal.returns
returns c =
    let a = c.args in
    let g = a.info.now.grid in
    let one-fits : 1 ≤ length a.buffer.now = omega arith in
    let first : Wrote (each 1 (a.i ∷ [])) a.buffer.now (set a.buffer.now 0 c.from.result) 1 = rw c.from.ensures (cell_Wrote (Wrote-none a.buffer.now) a.i (omega arith)) in
    λ lines k.
    Wrote-part first one-fits
    (rw (lent first one-fits) at (fence-Wrote (c.reason_for_adjacent_floating_boundary-more.ensures lines k (c.compute_reach-reach.ensures lines (take (g.height * g.width) a.info.now.cells.now) k).marked)))
