-- `sizes::may_stand` meets its contract: the fold keeps whether each cell so far may have its sizes.
-- Assumes nothing.
use Prim.Native.Nat.{ℕ}
use mathlib.Core.Path.{◌≡◌, refl, sym, ap, ◌∙◌}
use mathlib.Core.Bool.{Bool, true, cond, ◌&&◌}
use mathlib.Core.List.{List}
use lib.Dec.{eqb, leb}
use lib.ListN.{get_or}
use Rattle.grid.specs.Lists.{all, upto}
use Rattle.groups.specs.Arrays.{marked}
use Rattle.record.specs.Arrows.{on_arrow}
use Rattle.std.proofs.Common.{rules}
use Rattle.std.specs.Slice.Iter.{iter_rest}
use Rattle.std.specs.Iterator.Adapters.{zip_first, zip_second}
use Rattle.std.proofs.lemmas.Iterator.{YieldsList-from_slice, YieldsList-from_zip}
use Rattle.std.proofs.lemmas.Iterator.Consumers.{fold_from_yields_List}
use Rattle.sizes.proofs.Zipped.{folded_three}
use Rattle.sizes.specs.Form.{sized_cell}
use Rattle.sizes.proofs.DrawnLaws.{drawn_few, drawn_fits, drawn_cells, drawn_Marks}
use Rattle.sizes.proofs.FormLaws.{all_bare}
use Rattle.sizes.proofs.ReadLaws.{all_marked}
use Rattle.sizes.proofs.may_stand.Goals as goal

pub returns-then-zeros : goal.returns-then-zeros
returns-then-zeros c = λ p k. c.zeros-then-zeros.ensures ∙ all_bare (on_arrow p.arrows) c.args.lowest.now c.args.highest.now c.told-lowest c.told-highest (sym c.zeros.ensures ∙ c.if-zeros.true)

pub arrow_total-requires : goal.arrow_total-requires
arrow_total-requires c = (drawn_few c.requires.drawn.0 c.requires.drawn.1).0

pub shared_ref_as_front-mark_arrow_cells : goal.shared_ref_as_front-mark_arrow_cells
shared_ref_as_front-mark_arrow_cells c = drawn_fits c.requires.drawn.0 c.requires.drawn.1 c.arrow_total.result c.arrow_total.ensures

pub mark_arrow_cells-marks-requires : goal.mark_arrow_cells-marks-requires
mark_arrow_cells-marks-requires c = record { cells = drawn_cells c.requires.drawn.0 c.requires.drawn.1 c.arrow_total.result c.arrow_total.ensures }

-- whether one cell of the three arrays may have its sizes
cell : (ℕ × ℕ) × ℕ → Bool
cell x = cond (eqb x.0.1 0) (eqb x.1 0) (leb x.0.1 x.1 && eqb x.0.0 1)

by_cells : (marks lows highs : List ℕ) → all (λ i. cell ((get_or marks i 0, get_or lows i 0), get_or highs i 0)) (upto 1024) ≡ all (sized_cell (marked marks) lows highs) (upto 1024)
unfolding sized_cell marked cell
by_cells marks lows highs = refl

pub returns : goal.returns
unfolding cell
returns c = λ p k.
    let marks = c.mark_arrow_cells-marks.result in
    let lows = c.args.lowest.now in
    let highs = c.args.highest.now in
    let first = c.zip-2.ensures.first in
    let e : iter_rest (zip_first c.zip.result) ≡ marks = ap iter_rest c.zip.ensures.first ∙ c.iter.ensures.rest in
    let f : iter_rest (zip_second c.zip.result) ≡ lows = search rules in
    let g : iter_rest (zip_second c.zip-2.result) ≡ highs = search rules in
    fold_from_yields_List {s = c.zip-2.result} _ (λ b x. b && cell x) true c.fold.result c.fold.ensures.ran
    (YieldsList-from_zip (YieldsList-from_zip (YieldsList-from_slice marks (ap (λ z. iter_rest (zip_first z)) first ∙ e)) (YieldsList-from_slice lows (ap (λ z. iter_rest (zip_second z)) first ∙ f))) (YieldsList-from_slice highs g))
    (λ a x b q k. search rules)
    ∙ folded_three 1024 marks lows c.mark_arrow_cells-marks.ensures.long c.told-lowest highs c.told-highest cell true
    ∙ by_cells marks lows highs
    ∙ all_marked lows highs (drawn_Marks p k c.arrow_total.result c.arrow_total.ensures c.mark_arrow_cells-marks.ensures)
