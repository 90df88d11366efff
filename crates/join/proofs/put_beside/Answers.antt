-- `join::put_beside` meets its contract: there is room for all, and what the loops fill is the joined puzzle.
-- Assumes nothing.
use native.Mathlib.Omega.{arith}
use Rattle.std.proofs.Common.{rules, ◌+◌}
use Rattle.form.proofs.AcceptedLaws.{kept}
use Rattle.join.specs.Join.{placed}
use Rattle.join.proofs.BesideLaws.{fit, sides, front_below, front_at, place_in, built}
use Rattle.join.proofs.put_beside.Goals as goal

pub overflow_add-width : goal.overflow_add-width
overflow_add-width c =
    let f = fit (kept c.left.inside.problem c.left.invariant c.left.view_is) (kept c.right.inside.problem c.right.invariant c.right.view_is) c.requires.level c.requires.wide in
    omega (arith, f.wide)

pub overflow_add-width-2 : goal.overflow_add-width-2
overflow_add-width-2 c =
    let f = fit (kept c.left.inside.problem c.left.invariant c.left.view_is) (kept c.right.inside.problem c.right.invariant c.right.view_is) c.requires.level c.requires.wide in
    omega (arith, f.wide)

pub overflow_add-there : goal.overflow_add-there
overflow_add-there c =
    let f = fit (kept c.left.inside.problem c.left.invariant c.left.view_is) (kept c.right.inside.problem c.right.invariant c.right.view_is) c.requires.level c.requires.wide in
    omega (arith, f.wide)

pub arrow_total-left_total-requires : goal.arrow_total-left_total-requires
arrow_total-left_total-requires c =
    let f = fit (kept c.left.inside.problem c.left.invariant c.left.view_is) (kept c.right.inside.problem c.right.invariant c.right.view_is) c.requires.level c.requires.wide in
    f.left.few

pub arrow_total-right_total-requires : goal.arrow_total-right_total-requires
arrow_total-right_total-requires c =
    let f = fit (kept c.left.inside.problem c.left.invariant c.left.view_is) (kept c.right.inside.problem c.right.invariant c.right.view_is) c.requires.level c.requires.wide in
    f.right.few

pub shared_ref_as_front-append : goal.shared_ref_as_front-append
shared_ref_as_front-append c =
    let f = fit (kept c.left.inside.problem c.left.invariant c.left.view_is) (kept c.right.inside.problem c.right.invariant c.right.view_is) c.requires.level c.requires.wide in
    omega (arith, c.arrow_total-left_total.ensures, f.left.short)

pub append-requires : goal.append-requires
append-requires c =
    let f = fit (kept c.left.inside.problem c.left.invariant c.left.view_is) (kept c.right.inside.problem c.right.invariant c.right.view_is) c.requires.level c.requires.wide in
    (omega (arith, c.arrow_total-left_total.ensures, f.left.short), λ k d h κs r z _ _ _. place_in c.left.inside.problem f.left _ _ (omega arith) f.wide _ c.arrow_total-left_total.ensures k d h)

pub shared_ref_as_front-append-2 : goal.shared_ref_as_front-append-2
shared_ref_as_front-append-2 c =
    let f = fit (kept c.left.inside.problem c.left.invariant c.left.view_is) (kept c.right.inside.problem c.right.invariant c.right.view_is) c.requires.level c.requires.wide in
    omega (arith, c.arrow_total-right_total.ensures, f.right.short)

pub append-requires-2 : goal.append-requires-2
append-requires-2 c =
    let f = fit (kept c.left.inside.problem c.left.invariant c.left.view_is) (kept c.right.inside.problem c.right.invariant c.right.view_is) c.requires.level c.requires.wide in
    (omega (arith, c.arrow_total-left_total.ensures, c.arrow_total-right_total.ensures, f.line), λ k d h κs r z _ _ _. place_in c.right.inside.problem f.right _ _ (omega arith) f.wide _ c.arrow_total-right_total.ensures k d h)

pub shared_ref_as_front-append-3 : goal.shared_ref_as_front-append-3
shared_ref_as_front-append-3 c =
    let f = fit (kept c.left.inside.problem c.left.invariant c.left.view_is) (kept c.right.inside.problem c.right.invariant c.right.view_is) c.requires.level c.requires.wide in
    omega (arith, f.right.ended)

pub overflow_cast-by : goal.overflow_cast-by
overflow_cast-by c =
    let f = fit (kept c.left.inside.problem c.left.invariant c.left.view_is) (kept c.right.inside.problem c.right.invariant c.right.view_is) c.requires.level c.requires.wide in
    omega (arith, f.left.short, c.arrow_total-left_total.ensures)

pub append-requires-3 : goal.append-requires-3
append-requires-3 c =
    let f = fit (kept c.left.inside.problem c.left.invariant c.left.view_is) (kept c.right.inside.problem c.right.invariant c.right.view_is) c.requires.level c.requires.wide in
    let q = c.right.inside.problem in (
      omega (arith, f.count),
      λ k d h κs r z _ _. omega (arith, f.left.short, c.arrow_total-left_total.ensures, front_at q.count q.ends k d h, f.ends k (front_below q.count q.ends k h)),
    )

pub join_codes-requires : goal.join_codes-requires
join_codes-requires c =
    let f = fit (kept c.left.inside.problem c.left.invariant c.left.view_is) (kept c.right.inside.problem c.right.invariant c.right.view_is) c.requires.level c.requires.wide in
    sides f

pub overflow_add-result : goal.overflow_add-result
overflow_add-result c =
    let f = fit (kept c.left.inside.problem c.left.invariant c.left.view_is) (kept c.right.inside.problem c.right.invariant c.right.view_is) c.requires.level c.requires.wide in
    omega (arith, f.count)

pub returns : goal.returns
returns c =
    let l = c.left.inside.problem in
    let r = c.right.inside.problem in
    let w = l.width + 1 + r.width in
    built (kept l c.left.invariant c.left.view_is) (kept r c.right.invariant c.right.view_is) c.requires.level c.requires.wide
    (record {
      left_total = c.arrow_total-left_total.ensures;
      right_total = c.arrow_total-right_total.ensures;
      cells = c.join_codes.ensures;
      left = c.append.ensures (placed 0 l.width w) (λ k y h s. search rules);
      right = c.append-2.ensures (placed (l.width + 1) r.width w) (λ k y h s. search rules);
      later = c.append-3.ensures (λ e. c.arrow_total-left_total.result + e) (λ k y h s. search rules);
    })
