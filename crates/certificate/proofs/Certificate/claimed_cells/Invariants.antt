-- What holds at each turn of the loop of `certificate::Certificate::claimed_cells`.
-- Assumes nothing.
use Rattle.std.proofs.Common.{◌≡◌}
use Rattle.grid.specs.Lists.{array_of}
use Rattle.certificate.specs.Certificate.{claimed}
use Rattle.certificate.proofs.Certificate.claimed_cells.Given as goal

abbrev pub invariant-loop-i : goal.invariant-loop-i
invariant-loop-i l = l.cells ≡ array_of 2 (claimed l.i l.self)
