-- `fields::BitReader::read_start` meets its contract: where the three fields are there and the cell is off the grid.
-- Assumes nothing.
use Rattle.fields.proofs.ReadLaws.{row_off, col_off}
use Rattle.fields.proofs.BitReader.read_start.Goals as goal

pub returns-then-height-row-clause-value : goal.returns-then-height-row-clause-value
returns-then-height-row-clause-value c = row_off _ _ _ c.in_ok-row.ensures.value c.in_ok-row.ensures.past c.in_ok-col.ensures.value c.in_ok-col.ensures.past c.in_ok-steps.ensures.value c.if-height-row.true

pub returns-then-width-col-clause-value : goal.returns-then-width-col-clause-value
returns-then-width-col-clause-value c = col_off _ _ _ c.in_ok-row.ensures.value c.in_ok-row.ensures.past c.in_ok-col.ensures.value c.in_ok-col.ensures.past c.in_ok-steps.ensures.value c.if-height-row.false c.if-width-col.true
