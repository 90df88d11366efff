-- `turn::Move::codes` meets its contract: no code is in the array at first, and all are at the end.
-- Assumes nothing.
use Prim.Native.Nat.{ℕ, ◌*◌}
use native.Mathlib.Omega.{arith}
use mathlib.Core.Path.{◌≡◌, ◌∙◌}
use lib.ListN.{get_or}
use Rattle.grid.specs.Side.{sized}
use Rattle.grid.proofs.FilledLaws.{filled_none}
use Rattle.turn.specs.Inside.{step_of}
use Rattle.turn.proofs.ArrayLaws.{all_carried}
use Rattle.turn.proofs.Move.codes.Goals as goal

pub loop-j-init : goal.loop-j-init
loop-j-init c = filled_none 0 (λ (k : ℕ). get_or c.args.cells.now ((step_of c.args.self (sized c.args.grid.height c.args.grid.width)).from k) 0)

pub returns : goal.returns
returns c =
    let g = sized c.args.grid.height c.args.grid.width in
    let e : c.loop-j.j ≡ g.height * g.width = omega (arith, c.loop-j.auto.j-end, c.loop-j-test.false, c.size-j-end.ensures.value) in
    rw e at c.loop-j.invariant ∙ all_carried c.args.self g c.args.cells.now
