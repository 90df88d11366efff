-- `clauses::Sheet::write_given` meets its contract: the code of a cell stands there in the array.
-- Assumes nothing.
use Prim.Native.Nat.{◌<◌}
use native.Mathlib.Omega.{arith}
use lib.ListN.{get_or}
use Rattle.std.proofs.lemmas.List.{length-take, get_or-take}
use Rattle.clauses.specs.Clauses.{given_at}
use Rattle.clauses.proofs.PushLaws.{push_more}
use Rattle.clauses.proofs.Sheet.write_given.Goals as goal

pub loop-i-preserved : goal.loop-i-preserved
loop-i-preserved c =
    let codes = c.args.codes.now in
    let i = c.loop-i.i in
    let h : i < c.args.n = omega (arith, c.loop-i-test.true, length-take c.args.n codes) in
    push_more (λ j. given_at (get_or codes j 0) j) i c.loop-i.invariant (rw (get_or-take c.args.n codes i 0 h) at c.put_given.ensures)
