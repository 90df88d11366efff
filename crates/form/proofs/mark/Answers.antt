-- `form::mark` meets its contract: the cells passed are marked.
-- Assumes nothing.
use native.Mathlib.Omega.{arith}
use Rattle.form.proofs.Marking.{marking_off, marking_twice, all_fresh, all_marked}
use Rattle.form.proofs.mark.Goals as goal

pub returns-then-n-i-clause-none : goal.returns-then-n-i-clause-none
returns-then-n-i-clause-none c = marking_off c.loop-cell.invariant c.loop-cell-test.true (omega (arith, c.from-i.ensures, c.if-n-i.true))

pub returns-then-marks-i-ne0-clause-none : goal.returns-then-marks-i-ne0-clause-none
returns-then-marks-i-ne0-clause-none c =
    marking_twice c.loop-cell.invariant c.loop-cell-test.true (omega (arith, c.from-i.ensures, c.if-n-i.false)) c.requires (rw (← c.from-i.ensures) c.if-marks-i-ne0.true)

pub returns-clause-some : goal.returns-clause-some
returns-clause-some c = (all_fresh c.loop-cell.invariant (omega arith), all_marked c.loop-cell.invariant (omega arith))
