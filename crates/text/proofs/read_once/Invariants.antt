-- What holds at each turn of the loop of `text::read_once`.
-- Assumes nothing.
use mathlib.Core.Path.{◌≡◌}
use lib.ListN.{length}
use Rattle.std.specs.Io.KnownBytes.{Keeps}
use Rattle.text.proofs.read_once.Given as goal

abbrev pub invariant-loop : goal.invariant-loop
invariant-loop g l = (length l.room ≡ length l.initial.room) × Keeps (g.R.Read.remaining l.initial.input) (g.R.Read.remaining l.input)
