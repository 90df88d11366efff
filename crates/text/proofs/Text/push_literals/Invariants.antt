-- What holds at each turn of the loop of `text::Text::push_literals`.
-- Assumes nothing.
use Prim.Native.Nat.{◌+◌, ◌*◌, ◌≤◌}
use lib.ListN.{take}
use Rattle.text.specs.Pushed.{Pushed}
use Rattle.text.proofs.LiteralLaws.{lines_of}
use Rattle.text.proofs.Text.push_literals.Given as goal

abbrev pub invariant-loop-literal : goal.invariant-loop-literal
invariant-loop-literal l = Pushed l.initial.self l.self (lines_of (take l.literal-index l.literals)) × (l.self.len ≤ l.initial.self.len + 7 * l.literal-index)
