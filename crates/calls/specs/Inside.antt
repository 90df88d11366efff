-- What the steps of a call promise each other.
-- Assumes nothing.
use Rattle.std.specs.Prelude.{ℕ, ◌≡◌, ◌+◌, ◌*◌, List, length}
use Rattle.std.specs.declared.result.Result.{Result}
use Rattle.refusal.specs.declared.Refusal.{Refusal}
use Rattle.refusal.specs.Refusals.{outcome_of}
use Rattle.grid.specs.Grid.{size}
use Rattle.record.specs.Record.{Outcome, ok, refused, ◌>>=◌, Puzzle}
use Rattle.record.specs.Leaf.{Leaf, leaf_with}
use Rattle.record.specs.Problem.{puzzle_of}
use Rattle.record.specs.Sizes.{kept_ranges}
use Rattle.record.specs.declared.Problem.{Problem}
use Rattle.groups.specs.Arrays.{lines_of}
use Rattle.sizes.specs.Bytes.{sizes_in}
use Rattle.sizes.specs.Lent.{SizesOn}
use Rattle.sizes.specs.declared.SizeRanges.{SizeRanges}
use Rattle.board.specs.Board.{enough}
use Rattle.literals.specs.Literals.{Found}
use Rattle.reasons.specs.Reasons.{find_on}
use Rattle.calls.specs.Call.{call_on}
use Rattle.calls.specs.Told.{Said, certain_on}

-- sizes that are lent fit a problem
abbrev pub SizesFit : Problem → SizeRanges → Type 0
SizesFit problem sizes = SizesOn (problem.height * problem.width) (lines_of problem.arrows problem.ends problem.count) sizes.lowest.now sizes.highest.now

-- its leaf in an edition with them
abbrev pub sized_leaf : Problem → ℕ → SizeRanges → Leaf
sized_leaf problem e sizes = leaf_with e (kept_ranges sizes.lowest.now sizes.highest.now (length sizes.lowest.now)) (puzzle_of problem)

-- the leaf of a puzzle in an edition with sizes that are bytes: 22 for sizes that may not stand
abbrev pub leaf_in : ℕ → List ℕ → Puzzle → Outcome Leaf
leaf_in e sizes p =
    sizes_in p sizes >>= λ rs.
    ok (leaf_with e rs p)

-- what is asked of a leaf that is opened, by the output before and after and the answer: a refusal leaves the output as it was, and else it is what F says of the leaf
abbrev pub Told : Outcome Leaf → (Leaf → List ℕ → List ℕ → Result ℕ Refusal → Type 0) → List ℕ → List ℕ → Result ℕ Refusal → Type 0
Told (ok l) F before after answer = F l before after answer
Told (refused k) F before after answer = (outcome_of answer ≡ refused k) × (after ≡ before)

-- what is found on a leaf: 11, then the decisions' refusals, then the first reason
abbrev pub leaf_finds : List ℕ → ℕ → Leaf → Outcome Found
leaf_finds decisions k = call_on (λ g. 2 * enough g) find_on decisions k

-- what is said of the cells of a leaf that are certain: 11, then the decisions' refusals, then which they are
abbrev pub leaf_certain : List ℕ → ℕ → ℕ → Leaf → Outcome Said
leaf_certain decisions budget k = call_on (λ g. 8 + size g) (certain_on budget) decisions k
