-- `text::read_code` meets its contract.
-- Assumes nothing.
use Rattle.text.proofs.Codes.{count_told, refusal_told}
use Rattle.text.proofs.read_code.Goals as goal

pub returns-in-Ok : goal.returns-in-Ok
returns-in-Ok c = count_told c.args.code c.ranges.code c.in-Ok.count c.in-Ok.ensures

pub returns-in-Err : goal.returns-in-Err
returns-in-Err c = refusal_told c.args.code c.ranges.code c.unsigned_abs.result c.in-Err.ensures c.unsigned_abs.ensures.value
