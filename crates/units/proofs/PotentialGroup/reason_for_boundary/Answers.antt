-- `units::PotentialGroup::reason_for_boundary` meets its contract: the empty cells passed that touch the group are written, and behind them its last square.
-- Assumes nothing.
use Rattle.std.proofs.Common.{rules}
use mathlib.Core.Path.{◌≡◌, refl, sym, ◌∙◌}
use Prim.Native.Nat.{◌*◌, ◌<◌}
use native.Mathlib.Omega.{arith}
use Rattle.grid.specs.Grid.{size}
use Rattle.grid.specs.Side.{sized}
use Rattle.literals.proofs.Pass.{cells_none, cells_room, cells_on, cells_over}
use Rattle.literals.proofs.HeldLaws.{holds_back}
use Rattle.units.proofs.Boundary.{last_cell, boundary_are}
use Rattle.units.proofs.PotentialGroup.reason_for_boundary.Goals as goal
use Rattle.units.proofs.PotentialGroup.reason_for_boundary.Goals.{then-on_boundary, else-on_boundary}

pub loop-i-init : goal.loop-i-init
loop-i-init c = cells_none _ 0 refl refl

pub push-requires : goal.push-requires
push-requires c = cells_room _ 0 c.loop-i.i c.loop-i.invariant (omega arith)

pub loop-i-preserved : goal.loop-i-preserved
loop-i-preserved c = elim c.if-on_boundary.branch [
  | then-on_boundary w ↦ rw w.boundary-is (cells_on _ 0 c.loop-i.i (w.push.ensures.written _ _ c.loop-i.invariant) (sym c.on_boundary.ensures ∙ w.if-on_boundary.true))
  | else-on_boundary w ↦ rw w.boundary-is (cells_over _ 0 c.loop-i.i c.loop-i.invariant (sym c.on_boundary.ensures ∙ w.if-on_boundary.false))
]

pub overflow_cast-last : goal.overflow_cast-last
overflow_cast-last c = let l : c.unwrap_or-last.result < 1024 = rw (c.unwrap_or-last.ensures, c.last_square.ensures) (last_cell _ _ (omega (arith, c.size-i-end.ensures.value, c.size-i-end.ensures.small))) in search arith

pub invariant_of-push-2 : goal.invariant_of-push-2
invariant_of-push-2 c = let l : c.unwrap_or-last.result < 1024 = rw (c.unwrap_or-last.ensures, c.last_square.ensures) (last_cell _ _ (omega (arith, c.size-i-end.ensures.value, c.size-i-end.ensures.small))) in record { few = omega arith; bit = omega arith }

pub push-requires-2 : goal.push-requires-2
push-requires-2 c = cells_room _ 0 c.loop-i.i c.loop-i.invariant (omega (arith, c.size-i-end.ensures.value, c.loop-i.auto.i-end))

pub returns : goal.returns
unfolding size
returns c =
    let s = c.args.self.now in
    let e : c.loop-i.i ≡ s.grid.height * s.grid.width = omega (arith, c.loop-i-test.false, c.loop-i.auto.i-end, c.size-i-end.ensures.value) in
    λ l f<. boundary_are (sized s.grid.height s.grid.width) s.cells.now s.labels.now s.name l f< (holds_back (rw e at (c.push-2.ensures.written _ _ c.loop-i.invariant)) (λ q. search rules)) (c.unwrap_or-last.ensures ∙ c.last_square.ensures)
