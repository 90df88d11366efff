-- `answer::parts` meets its contract: the tests of the input in their order.
-- Assumes nothing.
use Prim.Native.Nat.{ℕ, ◌+◌, ◌*◌}
use native.Mathlib.Omega.{arith}
use mathlib.Core.Path.{◌≡◌, ap, ◌∙◌}
use mathlib.Core.List.{List}
use lib.ListN.{get_or}
use Rattle.answer.specs.Program.{length_said}
use Rattle.answer.proofs.Inputs.{too_long, too_short, cut_apart, said_in}
use Rattle.answer.proofs.parts.Goals as goal

pub returns-then-input-gt-INPUT : goal.returns-then-input-gt-INPUT
returns-then-input-gt-INPUT c = too_long c.args.input.now c.if-input-gt-INPUT.true

pub returns-in_default : goal.returns-in_default
returns-in_default c = too_short c.args.input.now c.if-input-gt-INPUT.false c.in_default.ensures.cases

pub returns : goal.returns
returns c =
    let input = c.args.input.now in
    let cut = c.in-Some.ensures.cases in
    let n : c.from.result ≡ length_said input =
    c.from.ensures ∙ c.from_be_bytes.ensures ∙ ap (λ (l : List ℕ). get_or l 0 0 * 256 + get_or l 1 0) cut.0 ∙ said_in input in
    cut_apart input c.if-input-gt-INPUT.false c.from.result c.split_at_checked.result n (omega (arith, cut.2)) cut.1 c.split_at_checked.ensures.cases c.ok_or.ensures.value
