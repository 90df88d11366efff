-- `fence::Fence::insert_fence_of` meets its contract: what a cell brings into the fence, by its kind and value.
-- Assumes nothing.
use mathlib.Core.Path.{sym, ◌∙◌}
use Rattle.fence.proofs.Fences.{none_added, adds_decided, adds_itself, adds_disturbing}
use Rattle.fence.proofs.Fence.insert_fence_of.Goals as goal

pub returns-then-touches_marked : goal.returns-then-touches_marked
returns-then-touches_marked c =
    let info = c.args.info.now in
    λ lent t whole o. record {
      same = c.insert.ensures.same ∙ o.same;
      ordered = adds_itself info.cells.now info.kinds.now info.owners.now c.args.marks.now _ c.args.f c.args.i t c.if-info-i-eq-VACANT.true
          (sym c.touches_marked.ensures ∙ c.if-touches_marked.true) c.requires.cell o.ordered c.insert.ensures.inserted;
    }

pub returns-then-info-i-ne-UNDECIDED : goal.returns-then-info-i-ne-UNDECIDED
returns-then-info-i-ne-UNDECIDED c =
    let info = c.args.info.now in
    λ lent t whole o. record {
      same = o.same;
      ordered = none_added t _ (adds_decided info.cells.now info.kinds.now info.owners.now c.args.marks.now _ c.args.f c.args.i c.if-info-i-eq-VACANT.false c.if-info-i-ne-UNDECIDED.true) o.ordered;
    }

pub returns-then-touches_marked-2 : goal.returns-then-touches_marked-2
returns-then-touches_marked-2 c =
    let info = c.args.info.now in
    λ lent t whole o.
    let f = c.insert_disturbing_blocks.ensures lent t whole o in
    record {
      same = f.same;
      ordered = adds_disturbing info.cells.now info.kinds.now info.owners.now c.args.marks.now _ c.args.f c.args.i t c.if-info-i-eq-VACANT.false c.if-info-i-ne-UNDECIDED.false
          (sym c.touches_marked-2.ensures ∙ c.if-touches_marked-2.true) f.ordered;
    }
