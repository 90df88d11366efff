-- What holds at each turn of the loop of `form::Rows::follows`.
-- Assumes nothing.
use Prim.Native.Nat.{◌+◌, ◌-◌, ◌≤◌}
use mathlib.Core.Path.{◌≡◌}
use lib.ListN.{length, get_or, drop}
use Rattle.std.specs.Slice.Iter.{windows_size, windows_rest}
use Rattle.grid.specs.Side.{sized}
use Rattle.form.specs.Form.{walks, is_path}
use Rattle.form.proofs.Rows.follows.Given as goal

-- the walk from the cell i says what the whole says
abbrev pub invariant-loop-step : goal.invariant-loop-step
invariant-loop-step l =
    let g = sized l.self.grid.height l.self.grid.width in
    let rest = windows_rest l.step-iterator in
    let i = length l.arrow - length rest in
    (windows_size l.step-iterator ≡ 2) × (length rest ≤ length l.arrow) × (rest ≡ drop i l.arrow) × (is_path g l.arrow ≡ walks g (get_or l.arrow i 0) (drop (i + 1) l.arrow))
