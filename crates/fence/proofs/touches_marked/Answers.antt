-- `fence::touches_marked` meets its contract: no neighbour in the directions passed is marked.
-- Assumes nothing.
use native.Mathlib.Omega.{arith}
use Rattle.grid.specs.Side.{sized}
use Rattle.grid.proofs.SideLaws.{cell_of}
use Rattle.grid.proofs.AroundLaws.{side_Adjacent, side_at, side_off, sides_none, sides_all}
use Rattle.fence.proofs.Fences.{touch_none, touch_more, touch_hit, touch_end}
use Rattle.fence.proofs.touches_marked.Goals as goal
use Rattle.fence.proofs.touches_marked.Invariants.{Untouched}
use Rattle.fence.proofs.touches_marked.Goals.{in-Some+else-marks-j-eq1, in_default}

pub loop-k-init : goal.loop-k-init
loop-k-init c = sides_none (Untouched c.args.marks.now) _ _ (touch_none c.args.marks.now)

pub returns-then-marks-j-eq1 : goal.returns-then-marks-j-eq1
returns-then-marks-j-eq1 c = touch_hit c.args.marks.now _ _ _ (side_Adjacent (cell_of c.args.info.now.grid c.args.i c.requires.cell) c.loop-k.k c.toward.result c.toward.ensures.neighbour _ c.in-Some.is).1 c.if-marks-j-eq1.true

pub loop-k-preserved : goal.loop-k-preserved
loop-k-preserved c =
    let marks = c.args.marks.now in
    let i = cell_of c.args.info.now.grid c.args.i c.requires.cell in
    elim c.match-toward.branch [
      | in-Some+else-marks-j-eq1 v ↦ side_at i c.loop-k.k c.toward.result c.toward.ensures.neighbour (Untouched marks) _ v.in-Some.is (touch_more marks _ _ c.loop-k.invariant v.if-marks-j-eq1.false)
      | in_default v ↦ side_off i c.loop-k.k c.toward.result c.toward.ensures.neighbour (Untouched marks) v.in_default.is c.loop-k.invariant
    ]

pub returns : goal.returns
returns c =
    let a = c.args in
    touch_end a.marks.now _ _ (sides_all (Untouched a.marks.now) (sized a.info.now.grid.height a.info.now.grid.width) a.i c.loop-k.k (omega (arith, c.loop-k.auto.k-end)) c.loop-k-test.false c.loop-k.invariant)
