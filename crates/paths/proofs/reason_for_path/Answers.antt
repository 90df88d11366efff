-- `paths::reason_for_path` meets its contract: the way so far is written, and each parent comes earlier in the list, so that it ends at b.
-- Assumes nothing.
use Prim.Native.Nat.{◌*◌}
use Rattle.std.proofs.Common.{rules}
use mathlib.Core.Path.{refl, sym, ◌∙◌}
use native.Mathlib.Omega.{arith}
use lib.Seq.{get_or-take}
use borrow.Author.Tests.{eqb-true}
use Rattle.grid.specs.Grid.{size}
use Rattle.grid.specs.Side.{sized}
use Rattle.grid.specs.Cells.{square}
use Rattle.grid.proofs.LinkLaws.{Linked-start}
use Rattle.grid.proofs.SideLaws.{area}
use Rattle.literals.proofs.HeldLaws.{holds_back, holds_count}
use Rattle.paths.proofs.Breadth.{square_inside}
use Rattle.paths.proofs.Ways.{Way-first, way_below, way_small, way_room, way_mark, Way-more, way_done}
use Rattle.paths.proofs.reason_for_path.Goals as goal

pub list_from-requires-clause-square : goal.list_from-requires-clause-square
unfolding size square
list_from-requires-clause-square c =
    let g = c.args.grid in
    let sq = Linked-start c.requires.ends in
    let on = square_inside (sized g.height g.width) c.args.cells.now c.args.b sq in
    (on, sym (get_or-take (g.height * g.width) c.args.cells.now c.args.b 0 on) ∙ eqb-true _ _ sq)

pub loop-cell-init : goal.loop-cell-init
unfolding size
loop-cell-init c = Way-first (sized c.args.grid.height c.args.grid.width) c.args.cells.now c.args.b c.args.a c.requires.ends refl refl

pub overflow_cast-cell : goal.overflow_cast-cell
unfolding size
overflow_cast-cell c =
    let g = c.args.grid in
    let small = way_small _ _ _ c.loop-cell.invariant (area g.height g.width g.tall g.wide) in
    search arith

pub invariant_of-push : goal.invariant_of-push
unfolding size
invariant_of-push c =
    let g = c.args.grid in
    let small = way_small _ _ _ c.loop-cell.invariant (area g.height g.width g.tall g.wide) in
    record { few = omega arith; bit = omega arith }

pub push-requires : goal.push-requires
unfolding size
push-requires c = way_room _ _ _ c.loop-cell.invariant c.requires.room

pub bounds-list-cell : goal.bounds-list-cell
unfolding size
bounds-list-cell c =
    let g = c.args.grid in
    omega (arith, way_small _ _ _ c.loop-cell.invariant (area g.height g.width g.tall g.wide))

pub loop-cell-smaller : goal.loop-cell-smaller
unfolding size
loop-cell-smaller c =
    let W = c.loop-cell.invariant in
    omega (arith, way_below _ _ _ W, holds_count _ W.holds (c.push.ensures.written _ _ W.holds))

pub loop-cell-preserved : goal.loop-cell-preserved
unfolding size
loop-cell-preserved c =
    let g = sized c.args.grid.height c.args.grid.width in
    let W = c.loop-cell.invariant in
    rw (c.from-cell.ensures ∙ way_mark g c.args.cells.now c.args.b W c.list_from.ensures) (Way-more g c.args.cells.now c.args.b W c.loop-cell-test.true (c.push.ensures.written _ _ W.holds))

pub overflow_cast-cell-2 : goal.overflow_cast-cell-2
unfolding size
overflow_cast-cell-2 c =
    let g = c.args.grid in
    let small = way_small _ _ _ c.loop-cell.invariant (area g.height g.width g.tall g.wide) in
    search arith

pub invariant_of-push-2 : goal.invariant_of-push-2
unfolding size
invariant_of-push-2 c =
    let g = c.args.grid in
    let small = way_small _ _ _ c.loop-cell.invariant (area g.height g.width g.tall g.wide) in
    record { few = omega arith; bit = omega arith }

pub push-requires-2 : goal.push-requires-2
unfolding size
push-requires-2 c = way_room _ _ _ c.loop-cell.invariant c.requires.room

pub returns : goal.returns
unfolding size
returns c =
    let g = sized c.args.grid.height c.args.grid.width in
    let W = c.loop-cell.invariant in
    holds_back (way_done g c.args.cells.now c.args.b W (search rules) (c.push-2.ensures.written _ _ W.holds)) (λ q. search rules)
