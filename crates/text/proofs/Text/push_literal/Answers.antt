-- `text::Text::push_literal` meets its contract: the index, the space, the value and the newline, one behind the other.
-- Assumes nothing.
use Prim.Native.Nat.{◌<◌}
use native.Mathlib.Omega.{arith}
use mathlib.Core.Path.{◌∙◌}
use lib.ListN.{get_or}
use Rattle.text.proofs.LiteralLaws.{literal_parts, index_short, value_short, literal_text}
use Rattle.text.proofs.Text.push_literal.Goals as goal

pub push_number-requires : goal.push_number-requires
push_number-requires c = omega (arith, c.requires, index_short c.from-literal.result)

pub push-requires : goal.push-requires
push-requires c = omega (arith, c.requires, c.push_number.ensures.long, c.push_number.ensures.written.behind, index_short c.from-literal.result)

pub push_number-requires-2 : goal.push_number-requires-2
push_number-requires-2 c =
    omega (
      arith,
      c.requires,
      c.push_number.ensures.long,
      c.push_number.ensures.written.behind,
      c.push.ensures.long,
      c.push.ensures.written.behind,
      index_short c.from-literal.result,
      value_short c.from-literal.result (omega (arith, c.from-literal.ensures, c.from_be_bytes.type_inv)),
    )

pub push-requires-2 : goal.push-requires-2
push-requires-2 c =
    omega (
      arith,
      c.requires,
      c.push_number.ensures.long,
      c.push_number.ensures.written.behind,
      c.push.ensures.long,
      c.push.ensures.written.behind,
      c.push_number-2.ensures.long,
      c.push_number-2.ensures.written.behind,
      index_short c.from-literal.result,
      value_short c.from-literal.result (omega (arith, c.from-literal.ensures, c.from_be_bytes.type_inv)),
    )

pub returns : goal.returns
returns c =
    let n = c.from-literal.result in
    let small : n < 65536 = omega (arith, c.from-literal.ensures, c.from_be_bytes.type_inv) in
    record {
      written = literal_text c.push_number.ensures c.push.ensures c.push_number-2.ensures c.push-2.ensures c.requires small
          (literal_parts (get_or c.args.bytes.now 0 0) (get_or c.args.bytes.now 1 0) n (c.fits-bytes 0) (c.fits-bytes 1) (c.from-literal.ensures ∙ c.from_be_bytes.ensures));
      short = omega (
        arith,
        c.push_number.ensures.written.behind,
        c.push.ensures.written.behind,
        c.push_number-2.ensures.written.behind,
        c.push-2.ensures.written.behind,
        index_short n,
        value_short n small,
      );
    }
