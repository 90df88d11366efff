-- `kinds::name_floating_groups` meets its contract: the floating groups of the cells passed are named.
-- Assumes nothing.
use Prim.Native.Nat.{◌<◌, ◌*◌}
use mathlib.Core.Path.{◌≡◌}
use native.Mathlib.Omega.{arith}
use Rattle.grid.proofs.SideLaws.{area}
use Rattle.groups.proofs.LabellingLaws.{Sofar-more}
use Rattle.kinds.proofs.Traversal.{Walked-not}
use Rattle.kinds.proofs.name_floating_groups.Goals as goal
use Rattle.kinds.proofs.name_floating_groups.Goals.{else-owners-i-eq-UNLABELLED, then-owners-i-eq-UNLABELLED}

pub loop-i-preserved : goal.loop-i-preserved
loop-i-preserved c =
    let t = c.loop-i-test.true in
    λ p u.
    let S = c.loop-i.invariant p u in
    let small : c.loop-i.i < 1024 = omega (arith, area c.args.grid.height c.args.grid.width c.args.grid.tall c.args.grid.wide, t) in
    elim c.if-owners-i-eq-UNLABELLED.branch [ then-owners-i-eq-UNLABELLED v ↦ rw v.owners-is (Sofar-more S (v.traverse_grid.ensures.walked p S.only)) | else-owners-i-eq-UNLABELLED v ↦ rw v.owners-is (Sofar-more S (Walked-not small (λ _ e. v.if-owners-i-eq-UNLABELLED.false e))) ]

pub returns : goal.returns
returns c =
    let v = c.loop-i.invariant in
    let e : c.loop-i.i ≡ c.args.grid.height * c.args.grid.width = omega (arith, c.loop-i.auto.i-end, c.loop-i-test.false) in
    λ p u. rw e at (v p u)
