-- `clauses::Sheet::touching_at` meets its contract: below, and then to the right.
-- Assumes nothing.
use Rattle.grid.specs.Side.{sized}
use Rattle.clauses.proofs.PushLaws.{push_same, push_clauses, push_no_clause}
use Rattle.clauses.proofs.NearLaws.{touching_on, touching_off}
use Rattle.clauses.proofs.Sheet.touching_at.Goals as goal

pub returns-then-marks-i-ne-ON_ARROW : goal.returns-then-marks-i-ne-ON_ARROW
returns-then-marks-i-ne-ON_ARROW c =
    push_same (touching_off c.args.marks.now (sized c.args.grid.height c.args.grid.width) c.args.i c.if-marks-i-ne-ON_ARROW.true) (push_no_clause c.args.self.now)

pub returns : goal.returns
returns c =
    let g = c.args.grid in
    push_same (touching_on c.args.marks.now (sized g.height g.width) c.args.i c.if-marks-i-ne-ON_ARROW.false c.arrow_toward.ensures c.arrow_toward-2.ensures)
    (push_clauses _ _ c.put_touching.ensures c.put_touching-2.ensures)
