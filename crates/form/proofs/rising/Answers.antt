-- `form::rising` meets its contract: the fold keeps the last end, and whether the ends so far rise.
-- Assumes nothing.
use mathlib.Core.Path.{ap, ◌∙◌}
use mathlib.Core.Bool.{Bool, true}
use Prim.Native.Nat.{ℕ}
use Rattle.std.proofs.Common.{rules}
use Rattle.std.proofs.lemmas.Iterator.{YieldsList-from_slice}
use Rattle.std.proofs.lemmas.Iterator.Consumers.{fold_from_yields_List}
use Rattle.form.proofs.Passes.{next_end, folded_rising}
use Rattle.form.proofs.rising.Goals as goal

pub returns : goal.returns
returns c =
    ap (λ (s : Bool × ℕ). s.0) (fold_from_yields_List _ next_end (true, 0) c.fold-rise.result c.fold-rise.ensures.ran (YieldsList-from_slice c.args.ends.now c.iter.ensures.rest) (λ a x b q k. search rules))
    ∙ folded_rising c.args.ends.now true 0
