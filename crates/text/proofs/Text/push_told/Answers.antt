-- `text::Text::push_told` meets its contract: a text for each case.
-- Assumes nothing.
use Prim.Native.Nat.{◌*◌}
use native.Mathlib.Omega.{arith}
use lib.Seq.{length-take-le}
use Rattle.text.proofs.ToldLaws.{refused_told, none_told, lines_room, reason_told, count_few, long_told}
use Rattle.text.proofs.Text.push_told.Goals as goal

pub push_literals-requires : goal.push_literals-requires
push_literals-requires c =
    let few = count_few c.args.found.now c.in-Ok.count c.in-Ok.is c.requires.count in
    omega (arith, lines_room c.in-Ok.count few.0 c.push_line-in-Ok.ensures c.requires.room, length-take-le (2 * c.in-Ok.count) c.args.found.now few.1)

pub returns-in-Err : goal.returns-in-Err
returns-in-Err c = refused_told c.args.found.now c.in-Err.number c.in-Err.is c.if-number-lt10000.true c.push_line.ensures

pub returns-in-Err-2 : goal.returns-in-Err-2
returns-in-Err-2 c = long_told c.args.found.now c.in-Err.number c.in-Err-2.number c.in-Err.is c.if-number-lt10000.false c.in-Err-2.is c.last_digits.ensures c.requires.room c.push.ensures c.push-in-Err-2.ensures c.push-in-Err-2-2.ensures

pub returns-in-Ok-eq0 : goal.returns-in-Ok-eq0
returns-in-Ok-eq0 c = none_told c.args.found.now c.in-Ok-eq0.field-0 c.in-Ok-eq0.is (rw c.in-Ok-eq0.is at c.in-Ok-eq0.field-0-test) _ c.push-in-Ok-eq0.ensures (omega arith)

pub returns-in-Ok : goal.returns-in-Ok
returns-in-Ok c =
    let few = count_few c.args.found.now c.in-Ok.count c.in-Ok.is c.requires.count in
    reason_told c.in-Ok.count few.0 c.push_line-in-Ok.ensures c.requires.room c.args.found.now c.in-Ok.is (rw c.in-Ok.is at c.in-Ok.count-test).1 c.push_literals.ensures
