-- `certificate::Certificate::claimed_cells` meets its contract: the cells that were passed have the values that are claimed.
-- Assumes nothing.
use native.Mathlib.Omega.{arith}
use mathlib.Core.Path.{refl}
use Rattle.grid.proofs.FilledLaws.{filled_none, filled_more}
use Rattle.certificate.specs.Certificate.{claimed}
use Rattle.certificate.proofs.Certificate.claimed_cells.Goals as goal

pub loop-i-init : goal.loop-i-init
unfolding claimed
loop-i-init c = filled_none 2 _

pub loop-i-preserved : goal.loop-i-preserved
unfolding claimed
loop-i-preserved c = rw c.loop-i.invariant (filled_more 2 _ c.loop-i.i _ (omega arith) (rw (c.value.ensures, c.word.ensures.word) refl))
