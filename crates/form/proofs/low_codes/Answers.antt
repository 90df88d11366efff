-- `form::low_codes` meets its contract: the fold keeps whether each code so far is low.
-- Assumes nothing.
use mathlib.Core.Path.{◌∙◌}
use mathlib.Core.Bool.{true, ◌&&◌}
use lib.Dec.{ltb}
use Rattle.std.proofs.Common.{rules}
use Rattle.std.proofs.lemmas.Iterator.{YieldsList-from_slice}
use Rattle.std.proofs.lemmas.Iterator.Consumers.{fold_from_yields_List}
use Rattle.form.proofs.Passes.{folded}
use Rattle.form.proofs.low_codes.Goals as goal

pub returns : goal.returns
returns c =
    fold_from_yields_List _ (λ b x. b && ltb x 3) true c.fold.result c.fold.ensures.ran (YieldsList-from_slice c.args.codes.now c.iter.ensures.rest) (λ a x b q k. search rules)
    ∙ folded (λ x. ltb x 3) c.args.codes.now true
