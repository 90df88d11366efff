-- `reach::chain_cells` meets its contract: the cells from i on are linked.
-- Assumes nothing.
use Prim.Native.Nat.{◌+◌, ◌-◌}
use mathlib.Core.Path.{◌≡◌}
use native.Mathlib.Omega.{arith}
use Rattle.reach.proofs.ChainLaws.{chains_none}
use Rattle.reach.proofs.chain_cells.Goals as goal

pub loop-i-init : goal.loop-i-init
loop-i-init c = rw (c.requires.fresh.1, c.requires.fresh.2) (chains_none c.args.owners.now c.args.n c.requires.fresh.0)

pub loop-i-preserved : goal.loop-i-preserved
loop-i-preserved c =
    let e : c.loop-i.i - 1 + 1 ≡ c.loop-i.i = omega (arith, c.loop-i-test.true) in
    c.chain_cell.ensures _ (omega (arith, c.loop-i-test.true, c.loop-i.auto.i)) (rw e c.loop-i.invariant)
