-- What holds at each turn of the loop of `finished::two_on_each`.
-- Assumes nothing.
use Prim.Native.Nat.{ℕ}
use mathlib.Core.Path.{◌≡◌}
use mathlib.Core.Bool.{Bool}
use lib.ListN.{take, drop}
use Rattle.grid.specs.Lists.{all}
use Rattle.record.specs.Lines.{start_at}
use Rattle.record.specs.Problem.{arrows_from}
use Rattle.groups.specs.Arrays.{lines_of}
use Rattle.finished.specs.Counting.{Tells, two_of}
use Rattle.finished.proofs.two_on_each.Given as goal

-- what holds of the arrows from here on holds of all
abbrev pub invariant-loop-k : goal.invariant-loop-k
invariant-loop-k g l =
    let q = l.problem in
    (test : ℕ → Bool)
    → Tells (goal.F-post g l.counts) test
    → all (two_of test) (lines_of q.arrows q.ends q.count) ≡ all (two_of test) (arrows_from q.arrows (start_at q.ends l.k) (drop l.k (take q.count q.ends)))
