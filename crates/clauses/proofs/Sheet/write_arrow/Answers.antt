-- `clauses::Sheet::write_arrow` meets its contract.
-- Assumes nothing.
use native.Mathlib.Omega.{arith}
use Rattle.clauses.specs.Clauses.{others_of}
use Rattle.clauses.proofs.PieceLaws.{others_bytes, all_others}
use Rattle.clauses.proofs.PushLaws.{push_as, push_same, push_then, push_first_one, push_one_more}
use Rattle.clauses.proofs.Sheet.write_arrow.Goals as goal

pub loop-k-init : goal.loop-k-init
loop-k-init c = λ arrow e. push_first_one (others_of arrow) c.args.self.now

pub loop-k-preserved : goal.loop-k-preserved
loop-k-preserved c = λ arrow e.
    push_one_more (others_of arrow) c.loop-k.k (c.loop-k.invariant arrow e)
    (push_as (others_bytes arrow c.args.squares.now c.loop-k.k e c.loop-k-test.true) (push_then c.put.ensures (push_then c.put-in-loop-k.ensures c.put-in-loop-k-2.ensures)))

pub returns : goal.returns
returns c = λ arrow e. push_same (all_others arrow c.args.squares.now c.loop-k.k e (omega (arith, c.loop-k.auto.k-end, c.loop-k-test.false))) (c.loop-k.invariant arrow e)
