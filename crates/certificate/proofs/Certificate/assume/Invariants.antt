-- What holds at each turn of the loop of `certificate::Certificate::assume`.
-- Assumes nothing.
use Rattle.std.proofs.Common.{◌≡◌}
use Rattle.std.proofs.Math.Seq.{slice}
use Rattle.certificate.specs.Certificate.{assume_from}
use Rattle.certificate.proofs.Certificate.assume.Given as goal

abbrev pub invariant-loop-k : goal.invariant-loop-k
invariant-loop-k l = assume_from l.n l.cells (slice l.k l.to l.self) ≡ assume_from l.n l.initial.cells (slice l.from l.to l.self)
