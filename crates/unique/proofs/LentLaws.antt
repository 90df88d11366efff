-- The leaf that is lent, and what its arrays say of it: the cells that it decides, whether cells are refuted, and the certificate's refusals in their order.
-- Assumes nothing.
use Prim.Native.Nat.{ℕ, zero, suc, ◌*◌, ◌≤◌}
use native.Mathlib.Omega.{arith}
use mathlib.Core.Path.{◌≡◌, refl, sym, ap, ◌∙◌}
use mathlib.Core.Bool.{Bool, true, false, cond}
use mathlib.Core.List.{List, map}
use mathlib.Core.Option.{none, some}
use lib.IntN.{pos, neg_ℤ}
use lib.ListN.{get_or, take}
use lib.Seq.{get_or-take}
use Rattle.std.specs.declared.result.Result.{Result}
use Rattle.std.specs.Prelude.{Option, is_some}
use Rattle.grid.specs.Lists.{upto, all, array_of}
use Rattle.grid.specs.Grid.{size}
use Rattle.grid.proofs.ArrayLaws.{array_take}
use Rattle.grid.proofs.FilledLaws.{filled_same}
use Rattle.grid.proofs.SideLaws.{area}
use Rattle.refusal.specs.declared.Refusal.{Refusal}
use Rattle.refusal.specs.Refusals.{returned_of}
use Rattle.record.specs.Record.{Outcome, ok, refused, ◌>>=◌, unless}
use Rattle.record.specs.Problem.{puzzle_of, grid_of}
use Rattle.record.specs.Leaf.{Leaf}
use Rattle.groups.specs.Arrays.{lines_of}
use Rattle.literals.specs.Literals.{Found}
use Rattle.literals.specs.Inside.{count_of, FoundAs}
use Rattle.reasons.specs.Reasons.{find_reason}
use Rattle.sizes.specs.LeafOf.{leaf_of}
use Rattle.sizes.specs.declared.LentLeaf.{LentLeaf}
use Rattle.finished.specs.Finished.{finished_test}
use Rattle.calls.specs.Inside.{Told}
use Rattle.calls.proofs.Opening.{returned_refused}
use Rattle.certificate.specs.Certificate.{words_of, whole_words, claimed, headed, step_from}
use Rattle.unique.specs.Unique.{base_cell, base_of, two_open, lonely, has_reason, refuted, close_of, step_of, steps_of, solution_or, check_on, unique_returned}
use Rattle.unique.proofs.HeadLaws.{claimed_long}
use Rattle.unique.proofs.StepLaws.{close_clash, close_refused, close_told}

-- a refusal
pub returned_not : {o : Outcome (List ℕ)} {k : ℕ} → o ≡ refused k → neg_ℤ (pos k) ≡ unique_returned o
unfolding unique_returned
returned_not e = rw e refl

-- what the call returns, by what is told of the leaf that is opened
pub told_unique : (o : Outcome Leaf) (certificate before after : List ℕ) (answer : Result ℕ Refusal)
    → Told o (λ l before after answer. (returned_of answer ≡ unique_returned (check_on certificate l)) × (after ≡ before)) before after answer → returned_of answer ≡ unique_returned (o >>= check_on certificate)
unfolding unique_returned ◌>>=◌
told_unique (refused k) certificate before after answer t = returned_refused answer t.0
told_unique (ok l) certificate before after answer t = t.0

-- whether there is a reason, by the answer of the search
reason_is : (f : Found) → is_some (count_of f) ≡ has_reason f
unfolding has_reason count_of
reason_is none = refl
reason_is (some r) = refl

-- ---- cells

module _ (leaf : LentLeaf) where
  -- those that the leaf decides, by the codes in the array
  pub base_is : {base : List ℕ} → base ≡ array_of 2 (map (λ i. base_cell (get_or leaf.problem.now.cells i 0)) (upto (leaf.problem.now.height * leaf.problem.now.width))) → base ≡ base_of (leaf_of leaf)
  unfolding base_of puzzle_of grid_of size
  base_is b =
      let q = leaf.problem.now in
      b ∙ filled_same 2 (λ i. base_cell (get_or q.cells i 0)) (λ i. base_cell (get_or (take (q.height * q.width) q.cells) i 0)) (q.height * q.width) (area q.height q.width leaf.tall leaf.wide)
      (λ i k. ap base_cell (sym (get_or-take (q.height * q.width) q.cells i 0 k)))

  module _ (cells : List ℕ) where
    -- an arrow is short of two squares
    pub refuted_lonely : all (two_open cells) (lines_of leaf.problem.now.arrows leaf.problem.now.ends leaf.problem.now.count) ≡ false → true ≡ refuted (leaf_of leaf) cells
    unfolding refuted lonely puzzle_of
    refuted_lonely t = rw t refl

    -- none is: the reason tells
    pub refuted_by : all (two_open cells) (lines_of leaf.problem.now.arrows leaf.problem.now.ends leaf.problem.now.count) ≡ true → {b a : List ℕ} {r : Option ℕ}
        → FoundAs (find_reason (leaf_of leaf) (take (leaf.problem.now.height * leaf.problem.now.width) cells)) b a r → is_some r ≡ refuted (leaf_of leaf) cells
    unfolding refuted lonely puzzle_of grid_of size
    refuted_by t f = rw (t, f.answer) (reason_is (find_reason (leaf_of leaf) (take (leaf.problem.now.height * leaf.problem.now.width) cells)))

-- what the step at a place comes to, by what it comes to on the cells that the leaf decides
module _ (l : Leaf) {base : List ℕ} (b : base ≡ base_of l) (ws : List ℕ) (at : ℕ) {n r : ℕ} (m : n ≡ size l.puzzle.grid) {cells : List ℕ} (y : (r, cells) ≡ step_from n base ws at) where
  came : close_of l (r, cells) ≡ step_of l ws at
  unfolding step_of
  came = ap (close_of l) (y ∙ rw (b, m) refl)

  pub step_clash : r ≡ 1 → 0 ≡ step_of l ws at
  step_clash z = close_clash l (r, cells) z ∙ came

  pub step_refused : 26 ≤ r → r ≡ step_of l ws at
  step_refused z = close_refused l (r, cells) (λ q. omega arith) (λ q. omega arith) ∙ came

  pub step_told : r ≡ 0 → true ≡ refuted l cells → 0 ≡ step_of l ws at
  step_told z q = ap (λ (b : Bool). cond b 0 29) q ∙ close_told l (r, cells) z ∙ came

  pub step_open : r ≡ 0 → false ≡ refuted l cells → 29 ≡ step_of l ws at
  step_open z q = ap (λ (b : Bool). cond b 0 29) q ∙ close_told l (r, cells) z ∙ came

-- the claimed solution is finished or not
pub claimed_tested : (leaf : LentLeaf) (ws : List ℕ) {n : ℕ} → n ≡ size (leaf_of leaf).puzzle.grid → {solution : List ℕ} → solution ≡ array_of 2 (claimed n ws)
    → {t : Bool} → t ≡ finished_test (leaf_of leaf) (take (leaf.problem.now.height * leaf.problem.now.width) solution) → t ≡ finished_test (leaf_of leaf) (claimed (size (leaf_of leaf).puzzle.grid) ws)
unfolding puzzle_of grid_of size
claimed_tested leaf ws m s q =
    let n = leaf.problem.now.height * leaf.problem.now.width in
    q ∙ ap (finished_test (leaf_of leaf)) (rw (s, m) (rw (claimed_long n ws) at (array_take 2 (claimed n ws))))

-- ---- the check, refusal by refusal

module _ (l : Leaf) (c : List ℕ) where
  abbrev ws : List ℕ
  ws = words_of c

  abbrev n : ℕ
  n = size l.puzzle.grid

  pub check_23 : whole_words c ≡ false → neg_ℤ (pos 23) ≡ unique_returned (check_on c l)
  unfolding ◌>>=◌ unless unique_returned
  check_23 a = rw a refl

  module _ (a : whole_words c ≡ true) where
    pub check_24 : headed n ws ≡ false → neg_ℤ (pos 24) ≡ unique_returned (check_on c l)
    unfolding ◌>>=◌ unless unique_returned
    check_24 b = rw (a, b) refl

    module _ (b : headed n ws ≡ true) where
      pub check_25 : finished_test l (claimed n ws) ≡ false → neg_ℤ (pos 25) ≡ unique_returned (check_on c l)
      unfolding ◌>>=◌ unless unique_returned
      check_25 d = rw (a, b, d) refl

      module _ (d : finished_test l (claimed n ws) ≡ true) {r : ℕ} (s : r ≡ steps_of l ws) where
        checked : check_on c l ≡ solution_or r (claimed n ws)
        unfolding ◌>>=◌ unless
        checked = rw (a, b, d, s) refl

        pub check_refused : (r ≡ 0 → ⊥) → neg_ℤ (pos r) ≡ unique_returned (check_on c l)
        check_refused z = go r z ∙ ap unique_returned (sym checked)
          where
            go : (k : ℕ) → (k ≡ 0 → ⊥) → neg_ℤ (pos k) ≡ unique_returned (solution_or k (claimed n ws))
            go zero y = absurd (y refl)
            go (suc k) y = unfold solution_or unique_returned in refl

        pub check_accepted : r ≡ 0 → pos 1 ≡ unique_returned (check_on c l)
        unfolding solution_or unique_returned
        check_accepted z = rw (checked, z) refl
