-- `fence::Fence::insert` meets its contract: the two ways out of an insertion.
-- Assumes nothing.
use mathlib.Core.Path.{◌≡◌, refl, sym, ◌∙◌}
use native.Mathlib.Omega.{arith}
use Rattle.grid.specs.Cells.{word}
use Rattle.fence.specs.Inside.{key, old}
use Rattle.fence.proofs.Insertion.{shifted_by, Inserted-new, key_index, literal_Place}
use Rattle.literals.specs.declared.Literal.{Literal}
use Rattle.fence.proofs.Fence.insert.Goals as goal
use Rattle.fence.proofs.Fence.insert.Goals.{else-p-self, then-p-self+else-from-literal}

-- the literal's own index
own_key : (l : Literal) → key (word (l.index, l.value)) ≡ l.index
own_key l = key_index l.index l.value refl l.few

pub returns-then-from-literal : goal.returns-then-from-literal
returns-then-from-literal c = record { same = refl; inserted = old (literal_Place _ _ c.args.literal.few c.place-p.ensures) c.if-p-self.true (key_index _ _ c.from.ensures c.from.result.few ∙ c.if-from-literal.true ∙ sym (own_key c.args.literal)) refl refl }

pub returns : goal.returns
returns c =
    let f = c.args.self.now in
    let l = c.args.literal in
    let place = literal_Place l.index l.value l.few c.place-p.ensures in
    record {
      same = refl;
      inserted = rw c.from-2.ensures (Inserted-new f.part.now c.copy_within.new.self c.place-p.result f.count (word (l.index, l.value)) c.requires.room place
          (λ lt e. elim c.if-p-self.branch [
            | then-p-self+else-from-literal w ↦ w.if-from-literal.false (sym (key_index _ _ w.from.ensures w.from.result.few) ∙ e ∙ own_key l)
            | else-p-self w ↦ absurd (omega (arith, w.if-p-self.false))
          ])
          (shifted_by f.part.now c.copy_within.new.self c.place-p.result f.count place.within c.copy_within.ensures.len c.copy_within.ensures.by_index));
    }
