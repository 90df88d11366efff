-- `certain::certain_cells` meets its contract: what the search leaves of the budget, and what it gathered, is the answer.
-- Assumes nothing.
use Prim.Native.Nat.{◌*◌}
use mathlib.Core.Path.{refl, ap}
use Rattle.record.specs.Sizes.{GoodSizes}
use Rattle.record.specs.Problem.{puzzle_of}
use Rattle.sizes.specs.declared.LentLeaf.{LentLeaf}
use Rattle.sizes.specs.LeafOf.{leaf_of}
use Rattle.sized.proofs.KeptLaws.{kept_good}
use Rattle.form.proofs.ProblemForm.{Formed-is}
use Rattle.certain.specs.Inside.{left_number}
use Rattle.certain.proofs.AnswerLaws.{answer_spent, rest_within, answer_none, answer_told}
use Rattle.certain.proofs.certain_cells.Goals as goal
use Rattle.certain.proofs.certain_cells.Goals.{then-facts-eq-UNKNOWN, else-facts-eq-UNKNOWN}

-- the sizes that the leaf lends may stand
good : (leaf : LentLeaf) → GoodSizes (puzzle_of leaf.problem.now) (leaf_of leaf).sizes
unfolding puzzle_of
good leaf = let q = leaf.problem.now in kept_good (puzzle_of q) (q.height * q.width) leaf.sizes.lowest.now leaf.sizes.highest.now leaf.sized

pub returns-in-None-clause-facts : goal.returns-in-None-clause-facts
returns-in-None-clause-facts c =
    let leaf = c.args.leaf.now in
    let q = leaf.problem.now in
    answer_spent q (Formed-is q c.requires.formed) leaf.edition (good leaf) c.requires.states c.args.budget c.search_from.ensures (ap left_number c.in-None.is) refl

pub overflow_sub-result : goal.overflow_sub-result
overflow_sub-result c =
    let leaf = c.args.leaf.now in
    let q = leaf.problem.now in
    rest_within q (Formed-is q c.requires.formed) leaf.edition (good leaf) c.requires.states c.args.budget c.search_from.ensures (ap left_number c.in-Some.is)

pub returns-after-facts-eq-UNKNOWN-clause-facts : goal.returns-after-facts-eq-UNKNOWN-clause-facts
returns-after-facts-eq-UNKNOWN-clause-facts c =
    let leaf = c.args.leaf.now in
    let q = leaf.problem.now in
    let none = answer_none q (Formed-is q c.requires.formed) leaf.edition (good leaf) c.requires.states c.args.budget c.search_from.ensures (ap left_number c.in-Some.is) refl in
    let told = answer_told q (Formed-is q c.requires.formed) leaf.edition (good leaf) c.requires.states c.args.budget c.search_from.ensures (ap left_number c.in-Some.is) refl in
    elim c.if-facts-eq-UNKNOWN.branch [
      | then-facts-eq-UNKNOWN w ↦ rw w.answer-is (none w.if-facts-eq-UNKNOWN.true refl)
      | else-facts-eq-UNKNOWN w ↦ rw w.answer-is (told w.if-facts-eq-UNKNOWN.false)
    ]
