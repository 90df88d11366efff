-- `form::zeros` meets its contract: the fold keeps whether each number so far is 0.
-- Assumes nothing.
use mathlib.Core.Path.{◌∙◌}
use mathlib.Core.Bool.{true, ◌&&◌}
use lib.Dec.{eqb}
use Rattle.std.proofs.Common.{rules}
use Rattle.std.proofs.lemmas.Iterator.{YieldsList-from_slice}
use Rattle.std.proofs.lemmas.Iterator.Consumers.{fold_from_yields_List}
use Rattle.form.proofs.Passes.{folded_behind}
use Rattle.form.proofs.zeros.Goals as goal

pub returns : goal.returns
returns c =
    fold_from_yields_List _ (λ b x. b && eqb x 0) true c.fold.result c.fold.ensures.ran (YieldsList-from_slice _ c.iter.ensures.rest) (λ a x b q k. search rules)
    ∙ folded_behind 0 c.args.from c.args.a.now c.min.ensures c.told-a
