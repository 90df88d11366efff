-- What holds at each turn of the loop of `certificate::Certificate::follow`.
-- Assumes nothing.
use Rattle.std.proofs.Common.{◌≡◌}
use Rattle.std.proofs.Math.Seq.{slice}
use Rattle.certificate.specs.Certificate.{follow_from}
use Rattle.certificate.proofs.Certificate.follow.Given as goal

abbrev pub invariant-loop-k : goal.invariant-loop-k
invariant-loop-k l = follow_from l.self l.p l.cells (slice l.k l.to l.self) ≡ follow_from l.self l.p l.initial.cells (slice l.from l.to l.self)
