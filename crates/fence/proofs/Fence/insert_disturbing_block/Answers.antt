-- `fence::Fence::insert_disturbing_block` meets its contract: the arrow block of a neighbour is none, the same, there already, or new.
-- Assumes nothing.
use mathlib.Core.Path.{sym, ◌∙◌}
use Rattle.fence.proofs.Fences.{disturbing_old, disturbing_new}
use Rattle.fence.proofs.Fence.insert_disturbing_block.Goals as goal

pub returns-then-contains : goal.returns-then-contains
returns-then-contains c =
    let info = c.args.info.now in
    λ lent t whole o.
    let there = sym (c.contains.ensures _ lent.now _ t o.ordered c.requires.cell) ∙ c.if-contains.true in
    record { same = o.same; ordered = disturbing_old info.kinds.now info.owners.now c.args.f c.args.j t whole c.if-info-j-ne-ARROW_BLOCK.false there o.ordered }

pub returns : goal.returns
returns c =
    let info = c.args.info.now in
    λ lent t whole o.
    let f = c.insert_block.ensures lent t o in
    record { same = f.same; ordered = disturbing_new info.kinds.now info.owners.now c.args.f c.args.j t c.if-info-j-ne-ARROW_BLOCK.false c.if-e-f.false f.ordered }
