-- `grid::Grid::shifted` meets its contract: the two moves, and the index of the cell that they lead to.
-- Assumes nothing.
use mathlib.Core.Path.{◌≡◌, sym}
use Prim.Native.Nat.{ℕ, ◌*◌, ◌+◌, ◌<◌}
use native.Mathlib.Omega.{arith}
use lib.IntN.{ℤ}
use mir.Syntax.{w32}
use mir.Val.{SFits, to_z, of_z}
use mir.ValLaws.{to_z-of_z}
use Rattle.std.specs.Prelude.{Option}
use Rattle.grid.specs.Side.{moved_of}
use Rattle.grid.proofs.SideLaws.{moved_to, index_small, both}
use Rattle.grid.proofs.Grid.shifted.Goals as goal
use Rattle.grid.proofs.Grid.shifted.Goals.{In_ok-to_x}

-- a move by an offset that the machine reads back from its bits
by : (a : ℕ) (d : ℤ) (limit : ℕ) {s : Option ℕ} → SFits w32 d → s ≡ moved_of a (to_z w32 (of_z w32 d)) limit → s ≡ moved_of a d limit
by a d limit f e = rw (to_z-of_z w32 d f) at e

small : (c : In_ok-to_x) → (c.in_ok-to_y.to_y * c.args.self.width < 1024) × (c.in_ok-to_y.to_y * c.args.self.width + c.in_ok-to_x.to_x < 1024)
small c =
    let a = c.args in
    index_small _ _ a.self.tall a.self.wide
    (moved_to _ a.dy _ _ (sym (by a.y a.dy a.self.height c.ranges.dy c.in_ok-to_y.ensures))).0
    (moved_to _ a.dx _ _ (sym (by a.x a.dx a.self.width c.ranges.dx c.in_ok-to_x.ensures))).0

pub overflow_mul-result : goal.overflow_mul-result
overflow_mul-result c = omega (arith, (small (goal.at.overflow_mul-result c).In_ok-to_x).0)

pub overflow_add-result : goal.overflow_add-result
overflow_add-result c = omega (arith, (small (goal.at.overflow_add-result c).In_ok-to_x).1)

pub returns : goal.returns
returns c =
    let a = c.args in
    both a.self.height a.self.width a.y a.x a.dy a.dx _ _ (by a.y a.dy a.self.height c.ranges.dy c.in_ok-to_y.ensures) (by a.x a.dx a.self.width c.ranges.dx c.in_ok-to_x.ensures)
