-- `pairs::search_arrows` meets its contract: the arrows passed give no reason, so that the first from there on is the first of all.
-- Assumes nothing.
use Prim.Native.Nat.{ℕ, ◌-◌, ◌*◌}
use mathlib.Core.Path.{◌≡◌, refl, ◌∙◌}
use mathlib.Core.List.{List}
use lib.ListN.{get_or, take, drop}
use lib.Seq.{slice}
use Rattle.grid.proofs.SliceLaws.{slice_taken}
use Rattle.record.specs.Lines.{start_at}
use Rattle.record.proofs.LinesLaws.{start_next}
use Rattle.groups.specs.Arrays.{lines_of}
use Rattle.growth.specs.Pairs.{view_on}
use Rattle.literals.proofs.Findings.{found_same, found_none, nothing_found}
use Rattle.pairs.proofs.PairSearch.{rest_end, rest_more, rest_found, sub_more, next_Stretch, next_Line, starts_low}
use Rattle.pairs.proofs.search_arrows.Goals as goal

-- an arrow as it is lent
part : (arrows ends : List ℕ) (k : ℕ) {arrow : List ℕ} → arrow ≡ take (get_or ends k 0 - start_at ends k) (drop (start_at ends k) arrows)
    → arrow ≡ slice (start_at ends k) (get_or ends k 0) arrows
part arrows ends k e = e ∙ slice_taken arrows (start_at ends k) (get_or ends k 0)

pub loop-k-init : goal.loop-k-init
unfolding start_at
loop-k-init g c = record { same = refl; sub = λ l m. m; passed = refl }

pub arrow-arrow-requires : goal.arrow-arrow-requires
arrow-arrow-requires g c =
    let whole = c.requires.whole in
    (c.loop-k-test.true, whole.drawn.many, starts_low whole c.loop-k.k c.loop-k-test.true, whole.drawn.ends_low c.loop-k.k c.loop-k-test.true)

pub search_arrow-requires-clause-line : goal.search_arrow-requires-clause-line
search_arrow-requires-clause-line g c =
    let p = c.args.problem.now in
    let k = c.loop-k.k in
    rw (part p.arrows p.ends k c.arrow-arrow.ensures) (next_Line c.requires.whole (start_at p.ends k) k c.loop-k-test.true c.loop-k.invariant.sub)

pub loop-k-preserved : goal.loop-k-preserved
loop-k-preserved g c =
    let p = c.args.problem.now in
    let whole = c.requires.whole in
    let i = c.loop-k.invariant in
    let k = c.loop-k.k in
    let within = c.loop-k-test.true in
    let none = (rw (part p.arrows p.ends k c.arrow-arrow.ensures) at c.in_default.ensures) _ (next_Stretch whole (start_at p.ends k) k within i.sub) in
    record {
      same = (nothing_found _ none).1 ∙ i.same;
      sub = λ l m. sub_more whole (start_at p.ends k) k within i.sub l (rw (start_next p.ends k) at m);
      passed = rw (start_next p.ends k) (i.passed ∙ rest_more _ _ p.arrows p.ends p.count (start_at p.ends k) k within whole.drawn.ends_long none);
    }

pub returns-in-Some : goal.returns-in-Some
returns-in-Some g c =
    let p = c.args.problem.now in
    let whole = c.requires.whole in
    let i = c.loop-k.invariant in
    let k = c.loop-k.k in
    let within = c.loop-k-test.true in
    let some = (rw (part p.arrows p.ends k c.arrow-arrow.ensures) at c.in-Some.ensures) _ (next_Stretch whole (start_at p.ends k) k within i.sub) in
    rw i.passed (found_same i.same (rest_found _ _ p.arrows p.ends p.count (start_at p.ends k) k within whole.drawn.ends_long some))

pub returns : goal.returns
returns g c =
    let info = c.args.scene.now.linked.info in
    let p = c.args.problem.now in
    let i = c.loop-k.invariant in
    rw (i.passed ∙ rest_end (g.R.PairReason.finds c.args.by.now (view_on info.grid.height info.grid.width (lines_of p.arrows p.ends p.count) info.cells.now)) (take (info.grid.height * info.grid.width) info.cells.now) p.arrows p.ends p.count (start_at p.ends c.loop-k.k) c.loop-k.k c.loop-k-test.false, i.same) (found_none c.args.buffer.now)
