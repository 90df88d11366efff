-- What holds at each turn of the loop of `certificate::Certificate::look`.
-- Assumes nothing.
use Rattle.std.proofs.Common.{◌≡◌}
use Rattle.std.proofs.Math.Seq.{slice}
use Rattle.certificate.specs.Certificate.{look_from}
use Rattle.certificate.specs.Inside.{clause_number}
use Rattle.certificate.proofs.Certificate.look.Given as goal

abbrev pub invariant-loop-k : goal.invariant-loop-k
invariant-loop-k l = look_from l.cells (clause_number l.left) (slice l.k l.to l.self) ≡ look_from l.cells 0 (slice l.from l.to l.self)
