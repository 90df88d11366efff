-- `form::Rows::new` meets its contract: the rows passed are marked.
-- Assumes nothing.
use native.Mathlib.Omega.{arith}
use Rattle.form.proofs.Verdicts.{zeros_blank}
use Rattle.form.proofs.Marking.{no_row, next_row, all_rows}
use Rattle.form.proofs.Rows.new.Goals as goal
use Rattle.form.proofs.Rows.new.Goals.{else-loop-at-test, then-loop-at-test+else-at-step-at-end}

pub loop-at-init : goal.loop-at-init
loop-at-init c = no_row c.args.grid.width c.requires zeros_blank

pub loop-at-preserved : goal.loop-at-preserved
loop-at-preserved c = next_row c.requires (omega arith) c.loop-at.invariant

pub invariant_of-result : goal.invariant_of-result
invariant_of-result c = record {
  marked = elim c.loop-at-test.branch [
    | else-loop-at-test w ↦ rw w.starts-is (all_rows c.loop-at.invariant (omega arith))
    | then-loop-at-test+else-at-step-at-end w ↦ rw w.starts-is (all_rows (next_row c.requires (omega arith) c.loop-at.invariant) (omega arith))
  ];
}
