-- `join::append` meets its contract: what is made of the first k numbers stands behind the others.
-- Assumes nothing.
use native.Mathlib.Omega.{arith}
use Rattle.join.proofs.PieceLaws.{Behind-more}
use Rattle.join.proofs.append.Goals as goal

pub loop-k-preserved : goal.loop-k-preserved
loop-k-preserved g c =
    λ G h.
    Behind-more c.args.at c.loop-k.k c.each.result G c.args.list.now c.args.line.now c.loop-k.line (omega arith) (omega (arith, c.requires.0))
    (h c.loop-k.k c.each.result (omega arith) c.each.ensures) (c.loop-k.invariant G h)
