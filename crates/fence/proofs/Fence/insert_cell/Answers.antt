-- `fence::Fence::insert_cell` meets its contract: a cell of the arrow block is inserted.
-- Assumes nothing.
use mathlib.Core.Path.{sym, ◌∙◌}
use Rattle.fence.proofs.Fences.{cell_added}
use Rattle.fence.proofs.Fence.insert_cell.Goals as goal

pub returns-then-in_block : goal.returns-then-in_block
returns-then-in_block c =
    let info = c.args.info.now in
    λ lent t o. record {
      same = c.insert.ensures.same ∙ o.same;
      ordered = cell_added info.kinds.now info.owners.now c.args.e c.args.i (sym c.in_block.ensures ∙ c.if-in_block.true) c.requires.cell o.ordered c.insert.ensures.inserted;
    }
