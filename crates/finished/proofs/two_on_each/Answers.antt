-- `finished::two_on_each` meets its contract: what holds of the arrows from here on holds of all.
-- Assumes nothing.
use Prim.Native.Nat.{ℕ, zero, suc, ◌+◌, ◌-◌, ◌≤◌, ◌<◌}
use native.Mathlib.Numerals.{add-one}
use native.Mathlib.Omega.{arith}
use mathlib.Core.Path.{◌≡◌, refl, sym, ◌∙◌}
use mathlib.Core.Bool.{true}
use mathlib.Core.List.{List}
use lib.ListN.{length, get_or, take}
use lib.Seq.{length-take-le, get_or-take}
use borrow.Author.Tests.{le-leb, lt-leb}
use Rattle.record.specs.Lines.{start_at}
use Rattle.record.specs.declared.Problem.{Problem}
use Rattle.record.proofs.LinesLaws.{start_first, start_next}
use Rattle.form.proofs.Steps.{arrows_on, arrows_fail, arrows_end}
use Rattle.finished.specs.Counting.{two_of}
use Rattle.finished.proofs.two_on_each.Goals as goal

-- an arrow starts no later than it ends
start_low : (ends : List ℕ) (n k : ℕ) → k < n → ((a : ℕ) → a + 1 < n → get_or ends a 0 ≤ get_or ends (a + 1) 0) → start_at ends k ≤ get_or ends k 0
unfolding start_at
start_low ends n zero l rise = omega arith
start_low ends n (suc k) l rise = rw add-one at (rise k (omega arith))

-- the next end, among those of the problem and in the array
end : (q : Problem) (k : ℕ) → k < q.count → get_or (take q.count q.ends) k 0 ≡ get_or q.ends k 0
end q k h = get_or-take q.count q.ends k 0 h

pub loop-k-init : goal.loop-k-init
loop-k-init g c = λ test h. rw (start_first c.args.problem.now.ends) refl

pub arrow-requires : goal.arrow-requires
arrow-requires g c =
    let q = c.args.problem.now in
    let d = c.requires.drawn.1 in
    (c.loop-k-test.true, d.many, start_low q.ends q.count c.loop-k.k c.loop-k-test.true d.ends_rise, d.ends_low c.loop-k.k c.loop-k-test.true)

pub returns-then-count_on-lt2 : goal.returns-then-count_on-lt2
returns-then-count_on-lt2 g c = λ test h.
    let q = c.args.problem.now in
    let k = c.loop-k.k in
    sym (arrows_fail (two_of test) q.arrows (take q.count q.ends) true (start_at q.ends k) k (omega (arith, length-take-le q.count q.ends c.requires.drawn.1.ends_long, c.loop-k-test.true)) (c.loop-k.invariant test h)
    (rw (end q k c.loop-k-test.true, ← c.arrow.ensures, ← (c.count_on.ensures test h)) (sym (lt-leb 2 c.count_on.result c.if-count_on-lt2.true))))

pub loop-k-preserved : goal.loop-k-preserved
loop-k-preserved g c = λ test h.
    let q = c.args.problem.now in
    let k = c.loop-k.k in
    let e : start_at q.ends (k + 1) ≡ get_or (take q.count q.ends) k 0 = start_next q.ends k ∙ sym (end q k c.loop-k-test.true) in
    rw e
    (arrows_on (two_of test) q.arrows (take q.count q.ends) true (start_at q.ends k) k (omega (arith, length-take-le q.count q.ends c.requires.drawn.1.ends_long, c.loop-k-test.true)) (c.loop-k.invariant test h)
    (rw (end q k c.loop-k-test.true, ← c.arrow.ensures, ← (c.count_on.ensures test h)) (sym (le-leb 2 c.count_on.result c.if-count_on-lt2.false))))

pub returns : goal.returns
returns g c = λ test h.
    let q = c.args.problem.now in
    arrows_end (two_of test) q.arrows (take q.count q.ends) true (start_at q.ends c.loop-k.k) c.loop-k.k (omega (arith, length-take-le q.count q.ends c.requires.drawn.1.ends_long, c.loop-k-test.false)) (c.loop-k.invariant test h)
