-- `text::Text::push_literals` meets its contract: the lines of the literals passed are written.
-- Assumes nothing.
use native.Mathlib.Omega.{arith}
use Rattle.text.proofs.PushLaws.{push_none}
use Rattle.text.proofs.LiteralLaws.{next_line, last_line}
use Rattle.text.proofs.Text.push_literals.Goals as goal

pub loop-literal-init : goal.loop-literal-init
loop-literal-init c = (push_none c.args.self.now, omega arith)

pub loop-literal-preserved : goal.loop-literal-preserved
loop-literal-preserved c =
    let before = c.loop-literal.invariant in (
      next_line c.as_chunks.result.0.now c.loop-literal.literal-index before.0 c.loop-literal-test.true c.push_literal.ensures.written
          (omega (arith, c.requires, before.0.written.behind, before.1, c.loop-literal-test.true, c.as_chunks.ensures.front_len)),
      omega (arith, before.1, c.push_literal.ensures.short),
    )

pub returns : goal.returns
returns c = last_line c.as_chunks.result.0.now c.loop-literal.literal-index c.loop-literal.invariant.0 c.args.found.now c.as_chunks.ensures.front c.loop-literal-test.false
