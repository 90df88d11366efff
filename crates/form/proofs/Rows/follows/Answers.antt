-- `form::Rows::follows` meets its contract: what is left from the cell passed last says what the whole says.
-- Assumes nothing.
use Prim.Native.Nat.{◌+◌, ◌-◌}
use native.Mathlib.Nat.{add-zero}
use native.Mathlib.Omega.{arith}
use mathlib.Core.Path.{◌≡◌, sym, ap, ◌∙◌}
use lib.ListN.{length, get_or}
use Rattle.std.proofs.Common.{rules}
use Rattle.std.specs.Slice.Iter.{windows_rest}
use Rattle.std.proofs.lemmas.Iterator.{window_more}
use Rattle.grid.specs.Lists.{member}
use Rattle.grid.specs.Grid.{neighbours}
use Rattle.grid.specs.Side.{sized}
use Rattle.form.proofs.Steps.{walk_start, walk_on, walk_fail, walk_end}
use Rattle.form.proofs.Rows.follows.Goals as goal

pub loop-step-init : goal.loop-step-init
loop-step-init c =
    let arrow = c.args.arrow.now in
    let whole : windows_rest c.into_iter-step-iterator.result ≡ arrow = search rules in
    let none : length arrow - length (windows_rest c.into_iter-step-iterator.result) ≡ 0 = omega (arith, ap length whole) in
    (search rules, omega (arith, ap length whole), rw none whole, rw none (walk_start (sized c.args.self.now.grid.height c.args.self.now.grid.width) arrow))

pub returns-then-not-are_beside : goal.returns-then-not-are_beside
returns-then-not-are_beside c =
    let arrow = c.args.arrow.now in
    let g = sized c.args.self.now.grid.height c.args.self.now.grid.width in
    let i = length arrow - length (windows_rest c.loop-step.step-iterator) in
    let turn = window_more arrow c.loop-step.step-iterator c.next.new.self _ _ c.in-Some.is c.next.ensures.steps (search rules) (search rules) (search rules) in
    let first = rw (add-zero i) at (turn.3 0 0 (search rules)) in
    let second = turn.3 1 0 (search rules) in
    let beside : c.are_beside.result ≡ member (get_or arrow (i + 1) 0) (neighbours g (get_or arrow i 0)) = rw (c.from.ensures, first, c.from-in-loop-step.ensures, second) at c.are_beside.ensures in
    walk_fail g arrow (get_or arrow i 0) (i + 1) (omega (arith, turn.0)) c.loop-step.invariant.3 (sym c.if-not-are_beside.true ∙ beside)

pub loop-step-preserved : goal.loop-step-preserved
loop-step-preserved c =
    let arrow = c.args.arrow.now in
    let g = sized c.args.self.now.grid.height c.args.self.now.grid.width in
    let i = length arrow - length (windows_rest c.loop-step.step-iterator) in
    let turn = window_more arrow c.loop-step.step-iterator c.next.new.self _ _ c.in-Some.is c.next.ensures.steps (search rules) (search rules) (search rules) in
    let first = rw (add-zero i) at (turn.3 0 0 (search rules)) in
    let second = turn.3 1 0 (search rules) in
    let beside : c.are_beside.result ≡ member (get_or arrow (i + 1) 0) (neighbours g (get_or arrow i 0)) = rw (c.from.ensures, first, c.from-in-loop-step.ensures, second) at c.are_beside.ensures in
    let next : length arrow - length (windows_rest c.next.new.self) ≡ i + 1 = omega (arith, turn.0) in
    (search rules, omega (arith, turn.0), turn.1, rw next (walk_on g arrow (get_or arrow i 0) (i + 1) (omega (arith, turn.0)) c.loop-step.invariant.3 (sym c.if-not-are_beside.false ∙ beside)))

pub returns : goal.returns
returns c =
    let arrow = c.args.arrow.now in
    let i = length arrow - length (windows_rest c.loop-step.step-iterator) in
    walk_end (sized c.args.self.now.grid.height c.args.self.now.grid.width) arrow (get_or arrow i 0) (i + 1) (search rules) c.loop-step.invariant.3
