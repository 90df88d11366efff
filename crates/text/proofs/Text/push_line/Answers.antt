-- `text::Text::push_line` meets its contract: the word, the number, and the newline, one behind the other.
-- Assumes nothing.
use native.Mathlib.Omega.{arith}
use Rattle.text.proofs.PushLaws.{push_then, digits_short}
use Rattle.text.proofs.Text.push_line.Goals as goal

pub push_number-requires : goal.push_number-requires
push_number-requires c = omega (arith, c.requires.0, c.push.ensures.long, c.push.ensures.written.behind, digits_short c.args.n c.requires.1)

pub push-requires-2 : goal.push-requires-2
push-requires-2 c =
    omega (arith, c.requires.0, c.push.ensures.long, c.push.ensures.written.behind, c.push_number.ensures.long, c.push_number.ensures.written.behind, digits_short c.args.n c.requires.1)

pub returns : goal.returns
returns c =
    let short = digits_short c.args.n c.requires.1 in
    push_then c.push.ensures
    (push_then c.push_number.ensures c.push-2.ensures (omega (arith, c.requires.0, c.push.ensures.long, c.push.ensures.written.behind, short)))
    (omega (arith, c.requires.0))
