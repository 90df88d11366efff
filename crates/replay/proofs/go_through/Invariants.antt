-- What holds at each turn of the loop of `replay::go_through`, and what falls from turn to turn.
-- Assumes nothing.
use Rattle.std.proofs.Common.{◌-◌, length}
use Rattle.replay.specs.Tallies.{tally_of, Through}
use Rattle.replay.specs.declared.Tally.{Tally}
use Rattle.replay.proofs.go_through.Given as goal

abbrev pub invariant-loop-tally : goal.invariant-loop-tally
invariant-loop-tally g l =
    (u : Tally) → Through (g.E.Entries.counts l.entries l.list) (length l.list) l.tally u → Through (g.E.Entries.counts l.entries l.list) (length l.list) (tally_of l.list g.E.Entries.BEFORE) u

abbrev pub decreases-loop-tally : goal.decreases-loop-tally
decreases-loop-tally g l = length l.list - l.tally.at
