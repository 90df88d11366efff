-- `calls::bare` meets its contract: a problem that is well formed is lent without sizes.
-- Assumes nothing.
use Prim.Native.Nat.{◌*◌}
use mathlib.Core.Path.{refl, sym, ◌∙◌}
use Rattle.groups.specs.Arrays.{lines_of}
use Rattle.board.proofs.LentSizes.{no_SizesOn, none_kept}
use Rattle.calls.proofs.Opening.{edition_not_0, formed_small, formed_arrays}
use Rattle.calls.proofs.bare.Goals as goal

pub invariant_of-result : goal.invariant_of-result
invariant_of-result c =
    let q = c.args.problem.now in
    let f = c.requires.formed in
    record {
      tall = (formed_small q f).0;
      wide = (formed_small q f).1;
      arrows = formed_arrays q f;
      played = λ z. edition_not_0 c.args.edition (sym c.number.ensures ∙ z);
      sized = no_SizesOn (q.height * q.width) (lines_of q.arrows q.ends q.count);
    }

pub returns-clause-leaf : goal.returns-clause-leaf
returns-clause-leaf c = rw (none_kept, c.number.ensures) refl
