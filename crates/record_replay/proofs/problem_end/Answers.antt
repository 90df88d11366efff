-- `record_replay::problem_end` meets its contract: it goes from one arrow to the next, as far as the list goes on.
-- Assumes nothing.
use Rattle.std.proofs.Common.{◌+◌, ◌*◌, ◌-◌, ◌≡◌}
use native.Mathlib.Omega.{arith}
use mathlib.Core.Path.{sym, ◌∙◌}
use Rattle.replay.specs.Lists.{number_at}
use Rattle.record_replay.specs.Problems.{area_at, count_at}
use Rattle.record_replay.proofs.EndLaws.{ends_behind, last_end, next_end, ends_before}
use Rattle.record_replay.proofs.problem_end.Goals as goal

pub returns-in_err-take : goal.returns-in_err-take
returns-in_err-take c =
    let list = c.args.problem.list.now in
    let at = c.args.problem.at in
    rw c.from_residual.ensures (omega (arith, c.in_err-take.ensures.short.0, c.area.ensures.0, ends_behind list (at + 4 + area_at list at) (count_at list at)))

pub returns-in_err-arrows : goal.returns-in_err-arrows
returns-in_err-arrows c =
    let list = c.args.problem.list.now in
    let at = c.args.problem.at in
    let e = c.in_ok-take.ensures in
    let short = rw e.same at c.in_err-arrows.ensures.short.0 in
    rw c.from_residual-in_err-arrows.ensures (omega (arith, short, e.taken.1, c.area.ensures.0, ends_behind list (at + 4 + area_at list at) (count_at list at)))

pub returns-in_err-cells : goal.returns-in_err-cells
returns-in_err-cells c =
    let i = c.loop-i in
    let short = rw i.invariant.0 at c.in_err-cells.ensures.short.0 in
    rw c.from_residual-in_err-cells.ensures (ends_before _ i.cursor.at (c.in_ok-arrows.arrows - i._i) _ (omega arith) i.invariant.1 (omega (arith, short)))

pub returns-in_err-take-2 : goal.returns-in_err-take-2
returns-in_err-take-2 c =
    let i = c.loop-i in
    let e = c.in_ok-cells.ensures in
    let cells = rw i.invariant.0 at e.taken.0 in
    let short = rw (e.same ∙ i.invariant.0) at c.in_err-take-2.ensures.short.0 in
    rw c.from_residual-in_err-take-2.ensures (ends_before _ i.cursor.at (c.in_ok-arrows.arrows - i._i) _ (omega arith) i.invariant.1 (omega (arith, short, cells, e.taken.2)))

pub loop-i-preserved : goal.loop-i-preserved
loop-i-preserved c =
    let i = c.loop-i in
    let list = c.args.problem.list.now in
    let k = c.in_ok-arrows.arrows - i._i in
    let e = c.in_ok-cells.ensures in
    let t = c.in_ok-take-2.ensures in
    let cells = rw i.invariant.0 at e.taken.0 in
    let place : c.take-in-loop-i.new.self.at ≡ i.cursor.at + 2 + 2 * number_at list i.cursor.at = omega (arith, t.taken.1, e.taken.2, cells) in
    let left : c.in_ok-arrows.arrows - (i._i + 1) ≡ k - 1 = omega arith in
    (t.same ∙ (e.same ∙ i.invariant.0), rw (place, left) (sym (next_end list i.cursor.at k (omega arith)) ∙ i.invariant.1))

pub returns : goal.returns
returns c = sym (last_end _ c.loop-i.cursor.at (c.in_ok-arrows.arrows - c.loop-i._i) (omega arith)) ∙ c.loop-i.invariant.1
