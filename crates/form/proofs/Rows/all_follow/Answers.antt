-- `form::Rows::all_follow` meets its contract: what is left from the place `at` says what the whole says.
-- Assumes nothing.
use Prim.Native.Nat.{ℕ, ◌≤◌, ◌<◌, ◌-◌, ◌+◌, ◌*◌}
use native.Mathlib.Omega.{arith}
use mathlib.Core.Path.{◌≡◌, refl, sym, ◌∙◌}
use mathlib.Core.Bool.{true}
use mathlib.Core.List.{List}
use lib.ListN.{length, get_or, take, drop}
use Rattle.grid.specs.Lists.{last}
use Rattle.grid.specs.Grid.{Grid}
use Rattle.grid.specs.Side.{sized}
use Rattle.form.specs.Form.{rises, is_path}
use lib.Seq.{length-take-le, get_or-take}
use Rattle.std.proofs.Common.{rules}
use Rattle.record.specs.declared.Problem.{Problem}
use Rattle.form.proofs.ProblemForm.{rises-last}
use Rattle.form.proofs.Passes.{last_on}
use Rattle.form.proofs.Steps.{arrows_on, arrows_fail, arrows_end, next_rise, part_below}
use Rattle.record.specs.Lines.{start_at}
use Rattle.record.proofs.LinesLaws.{start_first, start_next}
use Rattle.form.proofs.Rows.all_follow.Goals as goal
use Rattle.form.proofs.Rows.all_follow.Invariants.{Amid}

-- what is known of the next end
record Next (es : List ℕ) (at k : ℕ) : Type 0 where
  above : at < get_or es k 0
  below : get_or es k 0 ≤ last 0 es
  rest : rises (get_or es k 0) (drop (k + 1) es) ≡ true
  top : last 0 es ≡ last (get_or es k 0) (drop (k + 1) es)

next : {g : Grid} {line es : List ℕ} {at k : ℕ} → Amid g line es at k → k < length es → Next es at k
next {g} {line} {es} {at} {k} m h =
    let r = next_rise es at k h m.rise in
    let t : last 0 es ≡ last (get_or es k 0) (drop (k + 1) es) = m.top ∙ last_on es at k h in
    record { above = r.0; below = omega (arith, t, rises-last (get_or es k 0) (drop (k + 1) es) r.1); rest = r.1; top = t }

-- the next end, in the array and among those of the problem
end : (q : Problem) (k : ℕ) → k < q.count → get_or (take q.count q.ends) k 0 ≡ get_or q.ends k 0
end q k h = get_or-take q.count q.ends k 0 h

many : (q : Problem) (k : ℕ) → k < q.count → q.count ≤ 1024 → length q.ends ≡ 1024 → k < length (take q.count q.ends)
many q k h few long = omega (arith, length-take-le q.count q.ends (omega arith))

pub loop-k-init : goal.loop-k-init
loop-k-init c = let q = c.args.problem.now in rw (start_first q.ends) (record { rise = c.requires.cut.rise; top = refl; same = refl })

pub arrow-requires : goal.arrow-requires
arrow-requires c =
    let q = c.args.problem.now in
    let k = c.loop-k.k in
    let n = next c.loop-k.invariant (many q k c.loop-k-test.true c.requires.few (search rules)) in
    let e = end q k c.loop-k-test.true in
    (c.loop-k-test.true, c.requires.few, omega (arith, n.above, e), omega (arith, n.below, e, c.requires.cut.few))

pub follows-requires : goal.follows-requires
follows-requires c =
    let q = c.args.problem.now in
    let k = c.loop-k.k in
    let n = next c.loop-k.invariant (many q k c.loop-k-test.true c.requires.few (search rules)) in
    rw c.arrow.ensures (part_below q.arrows (c.args.self.now.grid.height * c.args.self.now.grid.width) (start_at q.ends k) (get_or q.ends k 0) (λ i h. c.requires.cut.on_grid i (omega (arith, n.below, end q k c.loop-k-test.true, h))))

pub returns-then-not-follows : goal.returns-then-not-follows
returns-then-not-follows c =
    let q = c.args.problem.now in
    let k = c.loop-k.k in
    let test = is_path (sized c.args.self.now.grid.height c.args.self.now.grid.width) in
    let r : c.follows.result ≡ test (take (get_or (take q.count q.ends) k 0 - start_at q.ends k) (drop (start_at q.ends k) q.arrows)) = rw (end q k c.loop-k-test.true, ← c.arrow.ensures) c.follows.ensures in
    sym (arrows_fail test q.arrows (take q.count q.ends) true (start_at q.ends k) k (many q k c.loop-k-test.true c.requires.few (search rules)) c.loop-k.invariant.same (sym c.if-not-follows.true ∙ r))

pub loop-k-preserved : goal.loop-k-preserved
loop-k-preserved c =
    let q = c.args.problem.now in
    let k = c.loop-k.k in
    let m = many q k c.loop-k-test.true c.requires.few (search rules) in
    let n = next c.loop-k.invariant m in
    let e : start_at q.ends (k + 1) ≡ get_or (take q.count q.ends) k 0 = start_next q.ends k ∙ sym (end q k c.loop-k-test.true) in
    let test = is_path (sized c.args.self.now.grid.height c.args.self.now.grid.width) in
    let r : c.follows.result ≡ test (take (get_or (take q.count q.ends) k 0 - start_at q.ends k) (drop (start_at q.ends k) q.arrows)) = rw (end q k c.loop-k-test.true, ← c.arrow.ensures) c.follows.ensures in
    rw e (record { rise = n.rest; top = n.top; same = arrows_on test q.arrows (take q.count q.ends) true (start_at q.ends k) k m c.loop-k.invariant.same (sym c.if-not-follows.false ∙ r) })

pub returns : goal.returns
returns c =
    let q = c.args.problem.now in
    arrows_end (is_path (sized c.args.self.now.grid.height c.args.self.now.grid.width)) q.arrows (take q.count q.ends) true (start_at q.ends c.loop-k.k) c.loop-k.k
    (omega (arith, length-take-le q.count q.ends (search rules), c.loop-k-test.false)) c.loop-k.invariant.same
