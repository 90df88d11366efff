-- `clauses::squares` meets its contract.
-- Assumes nothing.
use native.Mathlib.Omega.{arith}
use Rattle.clauses.proofs.PieceLaws.{next_square}
use Rattle.clauses.proofs.squares.Goals as goal

pub loop-literal-preserved : goal.loop-literal-preserved
loop-literal-preserved c =
    next_square c.args.cells.now c.loop-literal.literal-items c.loop-literal.literal-index (omega (arith, c.loop-literal-test.true, c.requires.long)) c.loop-literal.invariant
