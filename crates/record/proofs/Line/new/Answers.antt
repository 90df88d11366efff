-- `record::Line::new` meets its contract: no cell is kept.
-- Assumes nothing.
use native.Mathlib.Omega.{arith}
use Rattle.record.proofs.KeptLaws.{Kept-none}
use Rattle.record.proofs.Line.new.Goals as goal

pub invariant_of-result : goal.invariant_of-result
invariant_of-result c = (omega arith, Kept-none)
