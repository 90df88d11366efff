-- The call returns 1 exactly for a certificate that is good for the leaf, and so only where the leaf has the claimed solution and no other.
-- Assumes nothing.
use Prim.Native.Nat.{ℕ, zero, suc, ◌+◌, ◌≤◌}
use native.Mathlib.Omega.{arith}
use native.Mathlib.Decide.{ℕ_discrete}
use mathlib.Core.Logic.{◌↔◌, ◌⊎◌, inl, inr}
use mathlib.Core.Path.{◌≡◌, refl}
use mathlib.Core.Bool.{true, false, cond}
use mathlib.Core.List.{List}
use lib.Dec.{eqb, ltb}
use lib.IntN.{pos}
use lib.ListN.{length}
use borrow.Author.Tests.{eq-eqb, ne_eqb, lt-ltb, ltb-true}
use Rattle.grid.specs.Grid.{size}
use Rattle.grid.proofs.ListLaws.{split}
use Rattle.fields.proofs.OutcomeLaws.{bind_ok, unless-ok}
use Rattle.record.specs.Record.{Outcome, ok, refused, ◌>>=◌, unless}
use Rattle.record.specs.Leaf.{Leaf}
use Rattle.record.proofs.LeafLaws.{ValidLeaf}
use Rattle.finished.specs.Finished.{finished_test}
use Rattle.finished.proofs.FinishedLaws.{Finished-means}
use Rattle.calls.specs.Call.{leaf_from}
use Rattle.calls.proofs.Opened.{from_valid}
use Rattle.certificate.specs.Certificate.{words_of, whole_words, width, next, claimed, headed}
use Rattle.unique.specs.Unique.{step_of, steps_from, steps_of, solution_or, check_on, host_unique, unique_returned, OneSolution}
use Rattle.unique.proofs.HeadLaws.{claimed_long}
use Rattle.only.specs.Good.{Closes, last_step, one_step, Good, GoodFor}
use Rattle.only.proofs.OneLaws.{Good-only}

module _ (l : Leaf) (ws : List ℕ) where
  -- steps that close, with as much fuel as there are words behind them
  Closes-steps : {at : ℕ} → Closes l ws at → (fuel : ℕ) → length ws ≤ fuel + at → steps_from l ws fuel at ≡ 0
  unfolding steps_from
  Closes-steps (last_step h s z e) zero f = absurd (omega arith)
  Closes-steps {at} (last_step h s z e) (suc fuel) f = rw (lt-ltb at (length ws) h, eq-eqb (step_of l ws at) 0 s, eq-eqb (width ws at) 0 z, eq-eqb (next ws at) (length ws) e) refl
  Closes-steps (one_step h s z more) zero f = absurd (omega arith)
  Closes-steps {at} (one_step h s z more) (suc fuel) f = rw (lt-ltb at (length ws) h, eq-eqb (step_of l ws at) 0 s, ne_eqb (width ws at) 0 z) (Closes-steps more fuel (omega arith))

  steps_close : (fuel at : ℕ) → steps_from l ws fuel at ≡ 0 → Closes l ws at
  unfolding steps_from
  steps_close zero at e = absurd (omega arith)
  steps_close (suc fuel) at e = go (split (ltb at (length ws))) (ℕ_discrete (step_of l ws at) 0) (ℕ_discrete (width ws at) 0) (ℕ_discrete (next ws at) (length ws)) (steps_close fuel (next ws at)) e
    where
      go : (ltb at (length ws) ≡ true) ⊎ (ltb at (length ws) ≡ false) → Dec (step_of l ws at ≡ 0) → Dec (width ws at ≡ 0) → Dec (next ws at ≡ length ws)
          → (steps_from l ws fuel (next ws at) ≡ 0 → Closes l ws (next ws at))
          → cond (ltb at (length ws)) (cond (eqb (step_of l ws at) 0) (cond (eqb (width ws at) 0) (cond (eqb (next ws at) (length ws)) 0 30) (steps_from l ws fuel (next ws at))) (step_of l ws at)) 30 ≡ 0 → Closes l ws at
      go (inr h) a b c again x = let z : ◌≡◌ {A = ℕ} 30 0 = rw h at x in absurd (omega arith)
      go (inl h) (no a) b c again x = absurd (a (rw (h, ne_eqb _ _ a) at x))
      go (inl h) (yes a) (yes b) (no c) again x = let z : ◌≡◌ {A = ℕ} 30 0 = rw (h, eq-eqb _ _ a, eq-eqb _ _ b, ne_eqb _ _ c) at x in absurd (omega arith)
      go (inl h) (yes a) (yes b) (yes c) again x = last_step (ltb-true at (length ws) h) a b c
      go (inl h) (yes a) (no b) c again x = one_step (ltb-true at (length ws) h) a b (again (rw (h, eq-eqb _ _ a, ne_eqb _ _ b) at x))

-- a solution is given where the steps come to 0
solution_is : (k : ℕ) (cells : List ℕ) {solution : List ℕ} → solution_or k cells ≡ ok solution → (k ≡ 0) × (cells ≡ solution)
unfolding solution_or
solution_is zero cells e = (refl, cc)
solution_is (suc k) cells e = let z : ◌≡◌ {A = ℕ} 0 1 = cc in absurd (omega arith)

module _ (l : Leaf) (v : ValidLeaf l) (c : List ℕ) where
  Good-checked : Good l c → check_on c l ≡ ok (claimed (size l.puzzle.grid) (words_of c))
  unfolding ◌>>=◌ unless solution_or
  Good-checked g =
      let t = (Finished-means l v.puzzle (claimed (size l.puzzle.grid) (words_of c)) (claimed_long (size l.puzzle.grid) (words_of c))).1 g.finished in
      rw (g.whole, g.head, t, Closes-steps l (words_of c) g.steps (length (words_of c)) (omega arith)) refl

  checked_Good : {solution : List ℕ} → check_on c l ≡ ok solution → Good l c
  checked_Good e =
      let w = bind_ok (unless (whole_words c) 23) _ e in
      let h = bind_ok (unless (headed (size l.puzzle.grid) (words_of c)) 24) _ w.2 in
      let f = bind_ok (unless (finished_test l (claimed (size l.puzzle.grid) (words_of c))) 25) _ h.2 in
      record {
        whole = unless-ok (whole_words c) 23 w.1;
        head = unless-ok (headed (size l.puzzle.grid) (words_of c)) 24 h.1;
        finished = (Finished-means l v.puzzle (claimed (size l.puzzle.grid) (words_of c)) (claimed_long (size l.puzzle.grid) (words_of c))).0 (unless-ok (finished_test l (claimed (size l.puzzle.grid) (words_of c))) 25 f.1);
        steps = steps_close l (words_of c) (length (words_of c)) (size l.puzzle.grid + 2) (solution_is (steps_of l (words_of c)) (claimed (size l.puzzle.grid) (words_of c)) f.2).0;
      }

-- 1 is returned for a certificate that is accepted
returned_one : (o : Outcome (List ℕ)) → unique_returned o ≡ pos 1 → (solution : List ℕ) × (o ≡ ok solution)
unfolding unique_returned
returned_one (refused zero) e = let z : ◌≡◌ {A = ℕ} 0 1 = cc in absurd (omega arith)
returned_one (refused (suc k)) e = let z : ◌≡◌ {A = ℕ} 0 1 = cc in absurd (omega arith)
returned_one (ok solution) e = (solution, refl)

-- what is accepted is just what is good
pub accepts : (s : List ℕ) (e : ℕ) (sizes c : List ℕ) → (unique_returned (host_unique s e sizes c) ≡ pos 1) ↔ GoodFor s e sizes c
unfolding host_unique ◌>>=◌ unique_returned
accepts s e sizes c = (
  λ r. let o = returned_one (host_unique s e sizes c) r in
      let b = bind_ok (leaf_from s e sizes) (check_on c) o.1 in
      record { leaf = b.0; opens = b.1; good = checked_Good b.0 (from_valid s e sizes b.1) c b.2 },
  λ g. rw (g.opens, Good-checked g.leaf (from_valid s e sizes g.opens) c g.good) refl,
)

-- the call returns 1 only where the record is accepted, in the edition with the sizes, and its leaf has the claimed solution and no other
pub unique_only : (s : List ℕ) (e : ℕ) (sizes c : List ℕ) → unique_returned (host_unique s e sizes c) ≡ pos 1 → OneSolution s e sizes c
unique_only s e sizes c r =
    let g = (accepts s e sizes c).0 r in
    record { leaf = g.leaf; opens = g.opens; one = Good-only g.leaf (from_valid s e sizes g.opens) c g.good }
