-- `writer::BitWriter::write_steps` meets its contract.
-- Assumes nothing.
use Prim.Native.Nat.{◌+◌, ◌-◌}
use native.Mathlib.Nat.{add-zero}
use native.Mathlib.Omega.{arith}
use mathlib.Core.Path.{◌≡◌, ap}
use lib.ListN.{length}
use Rattle.std.proofs.Common.{rules}
use Rattle.std.specs.Slice.Iter.{windows_rest}
use Rattle.std.proofs.lemmas.Iterator.{window_more}
use Rattle.grid.specs.Side.{sized}
use Rattle.writer.proofs.AppendLaws.{steps_none, steps_more}
use Rattle.writer.proofs.BitWriter.write_steps.Goals as goal

pub loop-step-init : goal.loop-step-init
loop-step-init c =
    let arrow = c.args.arrow.now in
    let whole : windows_rest c.into_iter-step-iterator.result ≡ arrow = search rules in
    let none : length arrow - length (windows_rest c.into_iter-step-iterator.result) ≡ 0 = omega (arith, ap length whole) in
    (search rules, omega (arith, ap length whole, c.requires.0.some), omega (arith, ap length whole), rw none whole, rw none (steps_none (sized c.args.grid.height c.args.grid.width) arrow c.args.self.now))

pub loop-step-preserved : goal.loop-step-preserved
loop-step-preserved c =
    let arrow = c.args.arrow.now in
    let i = length arrow - length (windows_rest c.loop-step.step-iterator) in
    let turn = window_more arrow c.loop-step.step-iterator c.next.new.self _ _ c.in-Some.is c.next.ensures.steps (search rules) (search rules) (search rules) in
    let first = rw (add-zero i) at (turn.3 0 0 (search rules)) in
    let second = turn.3 1 0 (search rules) in
    let next : length arrow - length (windows_rest c.next.new.self) ≡ i + 1 = omega (arith, turn.0) in (
      search rules,
      omega (arith, turn.0),
      omega (arith, turn.0),
      turn.1,
      rw next
          (steps_more (sized c.args.grid.height c.args.grid.width) arrow i (omega (arith, turn.0)) c.loop-step.invariant.4
          (rw (c.direction.ensures, c.from.ensures, first, c.from-in-loop-step.ensures, second) at c.put.ensures)),
    )
