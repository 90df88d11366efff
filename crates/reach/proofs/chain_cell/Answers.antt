-- `reach::chain_cell` meets its contract: a cell with an owner comes in front of its owner's chain.
-- Assumes nothing.
use Rattle.reach.proofs.ChainLaws.{chains_either}
use Rattle.reach.proofs.chain_cell.Goals as goal

pub returns : goal.returns
returns c = λ n l C. rw (c.pick.ensures, c.pick-2.ensures, c.from-slot.ensures) (chains_either c.args.owners.now n c.args.i l C)
