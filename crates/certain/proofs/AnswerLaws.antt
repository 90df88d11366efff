-- What `certain` answers follows from its search: on the arrays of an accepted record, and on a board.
-- Assumes nothing.
use Prim.Native.Nat.{suc, ℕ, ◌-◌, ◌*◌, ◌≤◌, ◌<◌}
use native.Mathlib.Omega.{arith}
use native.Mathlib.Nat.{mul-pos}
use native.Mathlib.Decide.{dec_lt}
use mathlib.Core.Path.{◌≡◌, refl, sym, ap, ◌∙◌}
use mathlib.Core.Bool.{true, false}
use mathlib.Core.List.{List, [], ◌∷◌, Memᴰ}
use lib.ListN.{length, get_or, take, replicate, length-replicate, get_or-replicate, get_or-eq_default}
use borrow.Author.Tests.{le-leb, lt-leb}
use Rattle.grid.specs.Lists.{array_of}
use Rattle.grid.specs.Grid.{Grid, size}
use Rattle.grid.specs.Cells.{Literal}
use Rattle.grid.proofs.ArrayLaws.{array_length, array_in, array_out}
use Rattle.grid.proofs.FilledLaws.{filled_at, filled_is}
use Rattle.record.specs.Leaf.{Range, leaf_with}
use Rattle.record.specs.Sizes.{GoodSizes}
use Rattle.record.specs.Problem.{puzzle_of, grid_of}
use Rattle.record.specs.declared.Problem.{Problem}
use Rattle.form.proofs.ProblemForm.{Formed, formed_Valid}
use Rattle.board.specs.Board.{cells_after}
use Rattle.board.specs.Form.{well_formed}
use Rattle.board.specs.Kept.{board_of}
use Rattle.board.specs.declared.Board.{Board}
use Rattle.board.proofs.BoardForm.{decisions_of, Whole-is, whole_Standing, whole_again, whole_most}
use Rattle.board.proofs.Standing.{Standing, cells_valid as standing_valid}
use Rattle.reasons.specs.Find.{leaf_on, cells_on}
use Rattle.finished.proofs.VerdictLaws.{few}
use Rattle.certain.specs.Tree.{Reached, search_of}
use Rattle.certain.specs.Facts.{fact_of, facts_in, certainty, untold, known, certain_by, certain_of}
use Rattle.certain.specs.Inside.{States, Searched}
use Rattle.certain.specs.Facts.{Told, Impossible, Spent, Facts}
use Rattle.std.specs.Prelude.{Ok, Err, IsErrAnd}
use Rattle.std.specs.declared.result.Result.{Result}
use Rattle.refusal.specs.Refusals.{outcome_of}
use Rattle.refusal.specs.declared.Refusal.{Refusal}
use Rattle.refusal.specs.declared.Refusal.TheVariants as refusals
use Rattle.certain.specs.declared.Facts.{Facts as Known}
use Rattle.certain.specs.Told.{refused_facts, told_as}
use Rattle.certain.proofs.FactLaws.{fact_none, no_boards}
use Rattle.certain.proofs.SearchLaws.{search-Solves}
use Rattle.certain.proofs.StepLaws.{cells_valid}
use Rattle.certain.proofs.WayLaws.{left_done, left_out}

module _ (n budget : ℕ) (r : Reached) where
  pub by_known : r.steps ≤ budget → certain_by n budget r ≡ known n r
  unfolding certain_by
  by_known h = rw (le-leb r.steps budget h) refl

  pub by_spent : budget < r.steps → certain_by n budget r ≡ untold Spent budget
  unfolding certain_by
  by_spent h = rw (lt-leb r.steps budget h) refl

-- the kind of an answer by its boards
certainty_none : (boards : List (List ℕ)) → boards ≡ [] → Impossible ≡ certainty boards
unfolding certainty
certainty_none boards e = rw e refl

certainty_some : (boards : List (List ℕ)) → (boards ≡ [] → ⊥) → Told ≡ certainty boards
unfolding certainty
certainty_some [] n = absurd (n refl)
certainty_some (b ∷ bs) n = refl

-- nothing is known at first
pub nothing_yet : (n : ℕ) {facts : List ℕ} → n ≤ 1024 → facts ≡ replicate 1024 3 → facts ≡ facts_in n []
unfolding facts_in
nothing_yet n {facts} h e =
    filled_is 3 (fact_of []) n facts h (ap length e ∙ length-replicate {A = ℕ} 1024 3)
    (λ i l. at i (omega arith) ∙ sym (fact_none i)) (λ i k l. at i l)
  where
    at : (i : ℕ) → i < 1024 → get_or facts i 0 ≡ 3
    at i l = rw e (get_or-replicate 1024 i 3 0 l)

-- ---- on the arrays

module _ (q : Problem) (f : Formed q) (edition : ℕ) {sizes : List Range} (good : GoodSizes (puzzle_of q) sizes) {states : List ℕ} (s : States states) (budget : ℕ) {left : ℕ} {states' before facts : List ℕ}
    (x : Searched (q.height * q.width) budget (search_of (leaf_with edition sizes (puzzle_of q)) (take (q.height * q.width) states)) left states states' before facts) where
  -- how many cells
  abbrev n : ℕ
  n = q.height * q.width

  -- the search of the definition
  abbrev r : Reached
  r = search_of (leaf_with edition sizes (puzzle_of q)) (take n states)

  some_cells : 0 < n
  unfolding grid_of
  some_cells = mul-pos f.sizes.low.0 f.sizes.low.1

  pub answer_spent : {cells : List ℕ} → left ≡ 0 → cells ≡ replicate 1024 3 → ◌≡◌ {A = Facts} (record { answer = Spent; steps = budget; cells = cells }) (certain_by n budget r)
  unfolding untold
  answer_spent e c = rw c (sym (by_spent n budget r (left_out r.steps budget x.left_is e)))

  module _ {rest : ℕ} (e : left ≡ suc rest) where
    within : (r.steps ≤ budget) × (left - 1 ≡ budget - r.steps)
    within = left_done r.steps budget x.left_is (λ z. omega (arith, e, z))

    pub rest_within : rest ≤ budget
    rest_within = omega (arith, e, within.0, within.1)

    steps_are : budget - rest ≡ r.steps
    steps_are = omega (arith, e, within.0, within.1)

    module _ (blank : before ≡ replicate 1024 3) where
      facts_are : facts ≡ facts_in n r.boards
      facts_are = x.gathers within.0 [] (nothing_yet n (few q f) blank)

      first_is : get_or facts 0 0 ≡ fact_of r.boards 0
      unfolding facts_in
      first_is = ap (λ (z : List ℕ). get_or z 0 0) facts_are ∙ filled_at 3 (fact_of r.boards) n 0 some_cells

      low : (b : List ℕ) → Memᴰ b r.boards → get_or b 0 0 ≤ 1
      low b m = (search-Solves (leaf_with edition sizes (puzzle_of q)) (formed_Valid q f) good (take n states) (cells_valid q f edition sizes s) b m).finished.decided.each 0 (unfold puzzle_of grid_of size in some_cells)

      pub answer_none : {cells : List ℕ} → get_or facts 0 0 ≡ 3 → cells ≡ replicate 1024 3 → ◌≡◌ {A = Facts} (record { answer = Impossible; steps = budget - rest; cells = cells }) (certain_by n budget r)
      unfolding known
      answer_none z c =
          let none : r.boards ≡ [] = no_boards r.boards 0 low (sym first_is ∙ z) in
          rw (steps_are, nothing_yet n (few q f) c ∙ ap (facts_in n) (sym none), certainty_none r.boards none)
          (sym (by_known n budget r within.0))

      pub answer_told : (get_or facts 0 0 ≡ 3 → ⊥) → ◌≡◌ {A = Facts} (record { answer = Told; steps = budget - rest; cells = facts }) (certain_by n budget r)
      unfolding known
      answer_told z =
          rw (steps_are, facts_are, certainty_some r.boards (λ e. z (first_is ∙ ap (λ (bs : List (List ℕ)). fact_of bs 0) e ∙ fact_none 0)))
          (sym (by_known n budget r within.0))

-- ---- on a board

-- the states of a board with standing decisions
pub Standing-States : {g : Grid} {ds : List Literal} → Standing g ds → size g ≤ 1024 → States (array_of 2 (cells_after g ds))
Standing-States {g} {ds} t few = record { long = long; three = λ i. low i (dec_lt i (length (cells_after g ds))) (dec_lt i 1024) }
  where
    long : length (array_of 2 (cells_after g ds)) ≡ 1024
    long = array_length 2 (cells_after g ds) (omega (arith, (standing_valid t).long))

    low : (i : ℕ) → Dec (i < length (cells_after g ds)) → Dec (i < 1024) → get_or (array_of 2 (cells_after g ds)) i 0 ≤ 2
    low i (yes l) _ = rw (array_in 2 (cells_after g ds) 0 i l) ((standing_valid t).three i)
    low i (no l) (yes k) = rw (array_out 2 (cells_after g ds) 0 i (omega arith) k) (omega arith)
    low i (no l) (no k) = rw (get_or-eq_default (array_of 2 (cells_after g ds)) 0 {n = i} (omega (arith, long))) (omega arith)

pub board_States : (b : Board) → well_formed b ≡ true → States b.cells
board_States b h =
    let w = Whole-is b h in
    let e : array_of 2 (cells_after (grid_of b.problem) (decisions_of b)) ≡ b.cells = (unfold board_of leaf_on puzzle_of in ap (λ (z : Board). z.cells) (whole_again b w)) in
    rw (← e) (Standing-States (whole_Standing b w) (whole_most b w))

-- 6
certain_ill : (b : Board) (budget : ℕ) → well_formed b ≡ false → refused_facts 6 ≡ certain_of b budget
unfolding certain_of
certain_ill b budget h = rw h refl

pub certain_refused : (b : Board) (budget : ℕ) (r : Result Known Refusal) {e : Refusal} → well_formed b ≡ false → IsErrAnd r (λ y. y ≡ e) → e ≡ refusals.Board → told_as (outcome_of r) ≡ certain_of b budget
certain_refused b budget (Ok x) h y f = absurd y
certain_refused b budget (Err x) h y f = rw (y, f) (certain_ill b budget h)

pub certain_well : (b : Board) (budget : ℕ) → well_formed b ≡ true → certain_of b budget ≡ certain_by (size (grid_of b.problem)) budget (search_of (leaf_on b) (cells_on b))
unfolding certain_of
certain_well b budget h = rw h refl
