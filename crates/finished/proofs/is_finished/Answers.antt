-- `finished::is_finished` meets its contract: what is asked beside the block rules is tested, and then a reason tells of them.
-- Assumes nothing.
use Prim.Native.Nat.{ℕ, ◌*◌}
use borrow.Author.Rules.{rules}
use mathlib.Core.Path.{sym, ap, ◌∙◌}
use mathlib.Core.Bool.{not, not-not}
use native.Mathlib.Omega.{arith}
use lib.ListN.{length, length-replicate}
use Rattle.record.specs.Sizes.{GoodSizes, kept_ranges}
use Rattle.record.specs.Problem.{puzzle_of}
use Rattle.form.proofs.ProblemForm.{Formed-is}
use Rattle.sized.proofs.KeptLaws.{kept_good}
use Rattle.finished.proofs.VerdictLaws.{few, fails_before, reason_tells}
use Rattle.finished.proofs.is_finished.Goals as goal

pub returns-then-not-all_but_rules : goal.returns-then-not-all_but_rules
returns-then-not-all_but_rules c =
    let l = c.args.leaf.now in
    fails_before l.problem.now (Formed-is l.problem.now c.requires.formed) l.edition (kept_ranges l.sizes.lowest.now l.sizes.highest.now (length l.sizes.lowest.now)) c.args.cells.now (search rules) (sym c.all_but_rules.ensures ∙ c.if-not-all_but_rules.true)

pub find_inconsistency-requires : goal.find_inconsistency-requires
find_inconsistency-requires c =
    let q = c.args.leaf.now.problem.now in
    record { room = omega (arith, few q (Formed-is q c.requires.formed), ap length c.no_literals-buffer.ensures, length-replicate {A = ℕ} 3073 0) }

pub returns : goal.returns
unfolding puzzle_of
returns c =
    let l = c.args.leaf.now in
    let q = l.problem.now in
    let good : GoodSizes (puzzle_of q) (kept_ranges l.sizes.lowest.now l.sizes.highest.now (length l.sizes.lowest.now)) = kept_good (puzzle_of q) (q.height * q.width) l.sizes.lowest.now l.sizes.highest.now l.sized in
    sym (ap not c.is_none.ensures ∙ not-not c.is_none.result) ∙ reason_tells q (Formed-is q c.requires.formed) l.edition (kept_ranges l.sizes.lowest.now l.sizes.highest.now (length l.sizes.lowest.now)) c.args.cells.now (search rules) good
    (sym c.all_but_rules.ensures ∙ c.if-not-all_but_rules.false) c.find_inconsistency.ensures
