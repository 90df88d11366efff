-- What holds at each turn of the loop of `reach::chain_cells`.
-- Assumes nothing.
use Rattle.reach.specs.Chains.{ChainsFrom}
use Rattle.reach.proofs.chain_cells.Given as goal

abbrev pub invariant-loop-i : goal.invariant-loop-i
invariant-loop-i l = ChainsFrom l.owners l.head l.next l.n l.i
