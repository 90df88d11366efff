-- `certain::step` meets its contract: find is asked, and then what lies beyond.
-- Assumes nothing.
use Prim.Native.Nat.{◌*◌}
use mathlib.Core.Path.{◌≡◌}
use lib.ListN.{length}
use Rattle.std.proofs.Common.{rules}
use Rattle.form.proofs.ProblemForm.{Formed-is}
use Rattle.sized.proofs.KeptLaws.{kept_good}
use Rattle.record.specs.Problem.{puzzle_of}
use Rattle.sizes.specs.LeafOf.{leaf_of}
use Rattle.certain.proofs.StepLaws.{Meets-reason, Meets-Beyond}
use Rattle.certain.proofs.step.Goals as goal

pub returns-in-None-clause-met : goal.returns-in-None-clause-met
unfolding puzzle_of
returns-in-None-clause-met c =
    let leaf = c.args.leaf.now in
    let q = leaf.problem.now in
    let good = kept_good (puzzle_of q) (q.height * q.width) leaf.sizes.lowest.now leaf.sizes.highest.now leaf.sized in
    let long : length c.args.facts.now ≡ 1024 = search rules in
    Meets-Beyond q (Formed-is q c.requires.formed) leaf.edition (leaf_of leaf).sizes c.requires.states good (rw c.in-None.is at c.find_inconsistency.ensures) long c.beyond.ensures.met

pub returns-in-Some-clause-met : goal.returns-in-Some-clause-met
returns-in-Some-clause-met c =
    let leaf = c.args.leaf.now in
    let q = leaf.problem.now in
    Meets-reason q (Formed-is q c.requires.formed) leaf.edition (leaf_of leaf).sizes c.requires.states (rw c.in-Some.is at c.find_inconsistency.ensures)
