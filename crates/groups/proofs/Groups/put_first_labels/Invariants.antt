-- What holds at each turn of the loop of `groups::Groups::put_first_labels`.
-- Assumes nothing.
use mathlib.Core.Path.{◌≡◌}
use Rattle.groups.specs.Arrays.{counts}
use Rattle.groups.specs.Flood.{Marked}
use Rattle.groups.proofs.Groups.put_first_labels.Given as goal

abbrev pub invariant-loop-i : goal.invariant-loop-i
invariant-loop-i l = Marked (counts l.fn.members l.cells) l.i l.self.labels × (l.self ≡ record l.fn.self { labels = l.self.labels })
