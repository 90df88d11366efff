-- `board::decisions::all_right` meets its contract: the fold keeps whether each state so far is right.
-- Assumes nothing.
use Prim.Native.Nat.{ℕ}
use native.Mathlib.Omega.{arith}
use mathlib.Core.Path.{◌≡◌, ap, ◌∙◌}
use mathlib.Core.Bool.{Bool, true, cond, ◌&&◌}
use lib.Dec.{eqb, leb}
use lib.ListN.{get_or, take}
use lib.Seq.{length-take-le, get_or-take}
use Rattle.std.proofs.Common.{rules}
use Rattle.std.specs.Slice.Iter.{iter_rest}
use Rattle.std.specs.Iterator.Adapters.{zip_first, zip_second}
use Rattle.std.proofs.lemmas.Iterator.{YieldsList-from_slice, YieldsList-from_zip}
use Rattle.std.proofs.lemmas.Iterator.Consumers.{fold_from_yields_List}
use Rattle.form.specs.Form.{shown}
use Rattle.sizes.proofs.Zipped.{folded_two, alike_below}
use Rattle.board.proofs.DecisionLaws.{right_shown}
use Rattle.board.proofs.decisions.all_right.Goals as goal

-- whether a state is right for a mark
fits : ℕ × ℕ → Bool
fits x = cond (eqb x.0 0) (eqb x.1 2) (leb x.1 1)

pub returns : goal.returns
unfolding fits
returns c = λ listed m.
    let n = c.args.n in
    let marks = take n c.args.marks.now in
    let cells = take n c.args.cells.now in
    let e : iter_rest (zip_first c.zip.result) ≡ marks = ap iter_rest c.zip.ensures.first ∙ c.iter.ensures.rest in
    let f : iter_rest (zip_second c.zip.result) ≡ cells = search rules in
    fold_from_yields_List {s = c.zip.result} _ (λ b x. b && fits x) true c.fold.result c.fold.ensures.ran
    (YieldsList-from_zip (YieldsList-from_slice marks e) (YieldsList-from_slice cells f))
    (λ a x b q k. search rules)
    ∙ folded_two n marks cells (length-take-le n c.args.marks.now (omega arith)) (length-take-le n c.args.cells.now (omega arith)) fits true
    ∙ alike_below (λ i. fits (get_or marks i 0, get_or cells i 0)) (shown listed c.args.cells.now) n
    (λ i h. rw (get_or-take n c.args.marks.now i 0 h, get_or-take n c.args.cells.now i 0 h) (right_shown listed c.args.cells.now m i (omega arith)))
