-- The calls on a board that is lent: which edition open is asked for, that a reason has few literals, what is said of a board that is refused, and that a
-- call that is refused leaves the board, the buffer and the output as they were.
-- Assumes nothing.
use Prim.Native.Nat.{ℕ, zero, suc, ◌+◌, ◌*◌, ◌≤◌, ◌<◌}
use native.Mathlib.Omega.{arith}
use mathlib.Core.Logic.{◌⊎◌, inl, inr}
use mathlib.Core.Path.{◌≡◌, refl, sym, ap, ◌∙◌}
use mathlib.Core.Bool.{Bool, true, false, cond}
use mathlib.Core.List.{List, [], ◌∷◌}
use mathlib.Core.Option.{none, some}
use lib.Dec.{leb}
use lib.IntN.{pos, neg_ℤ}
use lib.ListN.{length}
use mir.Val.{bool_byte}
use borrow.Author.Tests.{le-leb, lt-leb, ne_eqb}
use Rattle.grid.specs.Grid.{size}
use Rattle.grid.proofs.SideLaws.{area as area_most}
use Rattle.grid.proofs.ListLaws.{split}
use Rattle.std.specs.Prelude.{Option, Some, None, Ok, Err, ⊤}
use Rattle.std.specs.Option.{unwrap_or}
use Rattle.std.specs.Result.{OkIff, IsOkAnd, ForOk, MatchResult, result_and, result_unwrap_or}
use Rattle.std.specs.declared.result.Result.{Result}
use Rattle.refusal.specs.Refusals.{outcome_of, returned_of}
use Rattle.refusal.specs.declared.Refusal.{Refusal}
use Rattle.record.specs.Record.{Outcome, ok, refused, ◌>>=◌, unless, Puzzle, read_record}
use Rattle.record.specs.Problem.{grid_of, puzzle_of}
use Rattle.record.specs.Leaf.{leaf_with, is_edition, sizes_of, leaf_of}
use Rattle.record.specs.Problem.{Answer}
use Rattle.record.specs.Problem as answers
use Rattle.board.specs.declared.Board.{Board}
use Rattle.board.specs.Answers.{Opened, done_as}
use Rattle.board.specs.Form.{well_formed}
use Rattle.board.specs.Kept.{opening, open_of, leaf_on, cells_on}
use Rattle.board.specs.Decide.{area, decide_of, undo_of}
use Rattle.board.specs.Hints.{count_of, find_refusal, after_find, hinted_by}
use Rattle.board.proofs.Unchanged.{decide_unchanged, undo_unchanged}
use Rattle.literals.specs.Literals.{Found}
use Rattle.literals.specs.Buffer.{finding_by, buffer_by, Finding}
use Rattle.literals.specs.Buffer as findings
use Rattle.reasons.specs.Find.{reason_on, find_of, found_as, buffer_after}
use Rattle.board.proofs.BoardArrays.{board_sizes, board_arrays}
use Rattle.reasons.proofs.ReasonLaws.{reason_length}
use Rattle.finished.specs.Verdicts.{Verdict, judged_as}
use Rattle.finished.specs.Verdicts as verdicts
use Rattle.certain.specs.Tree.{Reached, search_of}
use Rattle.certain.specs.Facts.{Certainty, Facts, certainty, known, untold, certain_by, certain_of}
use Rattle.certain.specs.Facts as certainties
use Rattle.certain.specs.Told.{refused_facts}
use Rattle.exported.specs.Written.{output_with}
use Rattle.calls.specs.Told.{certainty_number, certain_bytes, said_of, said_number, said_bytes}
use Rattle.host_board.specs.Lent.{answer_number, finding_number, verdict_number, count_number, opened_over, after_open, board_certain, hints_of}

-- ---- open

-- a number that is no edition is refused as every other is
no_edition : (s : List ℕ) (e : ℕ) (ns : List ℕ) → is_edition e ≡ false → open_of s e ns ≡ opening (read_record s >>= λ p. refused 16)
unfolding open_of leaf_of ◌>>=◌ unless
no_edition s e ns f = ap opening (go (read_record s))
  where
    go : (o : Outcome Puzzle) → (o >>= λ p. unless (is_edition e) 16 >>= λ _. sizes_of p ns >>= λ rs. ok (leaf_with e rs p)) ≡ (o >>= λ p. refused 16)
    go (refused k) = refl
    go (ok p) = rw f refl

-- so where an edition is too large for a byte, 0 opens the same leaf
pub narrowed : {E : Type 0} (r : Result ℕ E) (s : List ℕ) (e : ℕ) (ns : List ℕ) → OkIff r (e < 256) e → open_of s (result_unwrap_or r 0) ns ≡ open_of s e ns
unfolding is_edition
narrowed (Ok k) s e ns o = ap (λ (j : ℕ). open_of s j ns) o.1
narrowed (Err x) s e ns o =
    let one : e ≡ 1 → ⊥ = λ q. omega (arith, o, q) in
    let two : e ≡ 2 → ⊥ = λ q. omega (arith, o, q) in
    no_edition s 0 ns refl ∙ sym (no_edition s e ns (rw (ne_eqb e 1 one, ne_eqb e 2 two) refl))

-- ---- what calls return

pub answer_done : (a : Answer) → ok tt ≡ done_as a → pos 0 ≡ answer_number a
unfolding answer_number
answer_done answers.Done e = refl
answer_done (answers.Refused k) e = let z : ◌≡◌ {A = ℕ} 0 1 = cc in absurd (omega arith)

pub answer_refused : (a : Answer) {k : ℕ} → refused k ≡ done_as a → neg_ℤ (pos k) ≡ answer_number a
unfolding answer_number
answer_refused answers.Done e = let z : ◌≡◌ {A = ℕ} 0 1 = cc in absurd (omega arith)
answer_refused (answers.Refused j) {k} e = let z : j ≡ k = cc in rw z refl

pub answer_returned : (r : Result ⊤ Refusal) (s : Result ℕ Refusal) (a : Answer) → s ≡ result_and r (Ok 0) → outcome_of r ≡ done_as a → returned_of s ≡ answer_number a
answer_returned (Ok u) s a e h = rw e (answer_done a h)
answer_returned (Err k) s a e h = rw e (answer_refused a h)

few_found : (o : Option ℕ) (d : ℕ) → d < 2147483648 → ((k : ℕ) → o ≡ Some k → k < 2147483648) → unwrap_or o d < 2147483648
few_found None d l h = l
few_found (Some k) d l h = h k refl

finding_found : (f : Finding) (o : Option ℕ) → ok o ≡ found_as f → pos (unwrap_or o 0) ≡ finding_number f
unfolding finding_number
finding_found findings.Nothing o e = let z : o ≡ None = cc in rw z refl
finding_found (findings.Reason k) o e = let z : o ≡ Some k = cc in rw z refl
finding_found (findings.Refused k) o e = let z : ◌≡◌ {A = ℕ} 0 1 = cc in absurd (omega arith)

finding_refused : (f : Finding) {k : ℕ} → refused k ≡ found_as f → neg_ℤ (pos k) ≡ finding_number f
unfolding finding_number
finding_refused findings.Nothing e = let z : ◌≡◌ {A = ℕ} 0 1 = cc in absurd (omega arith)
finding_refused (findings.Reason n) e = let z : ◌≡◌ {A = ℕ} 0 1 = cc in absurd (omega arith)
finding_refused (findings.Refused j) {k} e = let z : j ≡ k = cc in rw z refl

-- the count of literals that is returned for a finding, which is small where that of each reason is
module _ (r : Result (Option ℕ) Refusal) (s : Result ℕ Refusal) (m : MatchResult r (λ o. IsOkAnd s (λ n. n ≡ unwrap_or o 0)) (λ e. s ≡ Err e)) where
  pub finding_returned : (f : Finding) → outcome_of r ≡ found_as f → returned_of s ≡ finding_number f
  finding_returned f = go r s m
    where
      go : (r : Result (Option ℕ) Refusal) (s : Result ℕ Refusal) → MatchResult r (λ o. IsOkAnd s (λ n. n ≡ unwrap_or o 0)) (λ e. s ≡ Err e) → outcome_of r ≡ found_as f → returned_of s ≡ finding_number f
      go (Ok o) (Ok n) m e = rw m (finding_found f o e)
      go (Ok o) (Err x) m e = absurd m
      go (Err x) s m e = rw m (finding_refused f e)

  pub finding_few : ((k : ℕ) → outcome_of r ≡ ok (Some k) → k < 2147483648) → ForOk s (λ n. n < 2147483648)
  finding_few = go r s m
    where
      go : (r : Result (Option ℕ) Refusal) (s : Result ℕ Refusal) → MatchResult r (λ o. IsOkAnd s (λ n. n ≡ unwrap_or o 0)) (λ e. s ≡ Err e) → ((k : ℕ) → outcome_of r ≡ ok (Some k) → k < 2147483648) → ForOk s (λ n. n < 2147483648)
      go (Ok o) (Ok n) m few = λ x e. let z : n ≡ x = cc in omega (arith, sym z, m, few_found o 0 (omega arith) (λ k q. few k (ap ok q)))
      go (Ok o) (Err y) m few = absurd m
      go (Err y) s m few = λ x e. let z : ◌≡◌ {A = ℕ} 0 1 = cc in absurd (omega arith)

pub count_returned : (r : Result ℕ Refusal) (o : Outcome ℕ) → outcome_of r ≡ o → returned_of r ≡ count_number o
unfolding count_number
count_returned (Ok n) o e = rw (← e) refl
count_returned (Err r) o e = rw (← e) refl

verdict_yes : (t : Bool) (v : Verdict) → ok t ≡ judged_as v → pos (bool_byte t) ≡ verdict_number v
unfolding verdict_number
verdict_yes t verdicts.Yes e = let z : t ≡ true = cc in rw z refl
verdict_yes t verdicts.No e = let z : t ≡ false = cc in rw z refl
verdict_yes t (verdicts.Refused k) e = let z : ◌≡◌ {A = ℕ} 0 1 = cc in absurd (omega arith)

verdict_refused : (v : Verdict) {k : ℕ} → refused k ≡ judged_as v → neg_ℤ (pos k) ≡ verdict_number v
unfolding verdict_number
verdict_refused verdicts.Yes e = let z : ◌≡◌ {A = ℕ} 0 1 = cc in absurd (omega arith)
verdict_refused verdicts.No e = let z : ◌≡◌ {A = ℕ} 0 1 = cc in absurd (omega arith)
verdict_refused (verdicts.Refused j) {k} e = let z : j ≡ k = cc in rw z refl

pub verdict_returned : (r : Result Bool Refusal) (s : Result ℕ Refusal) (v : Verdict) → MatchResult r (λ t. IsOkAnd s (λ n. n ≡ bool_byte t)) (λ e. s ≡ Err e) → outcome_of r ≡ judged_as v → returned_of s ≡ verdict_number v
verdict_returned (Ok t) (Ok n) v m e = rw m (verdict_yes t v e)
verdict_returned (Ok t) (Err x) v m e = absurd m
verdict_returned (Err x) s v m e = rw m (verdict_refused v e)

-- ---- find

-- a board that passes its test has few cells
pub cells_few : (b : Board) → well_formed b ≡ true → b.problem.height * b.problem.width ≤ 1024
cells_few b w =
    let z = board_sizes b w in
    area_most b.problem.height b.problem.width z.0 z.1

-- so a reason has few literals
pub literals_few : (b : Board) (q : ℕ) (buffer : List ℕ) {k : ℕ} → find_of b q buffer ≡ findings.Reason k → (well_formed b ≡ true) × (k ≤ 3 * area b + 1)
unfolding find_of reason_on find_refusal finding_by area leaf_on puzzle_of grid_of size
literals_few b q buffer {k} e = go (split (well_formed b))
  where
    found : well_formed b ≡ true → (refusal : ℕ) (f : Found) → reason_on b ≡ f → finding_by refusal f ≡ findings.Reason k → k ≤ 3 * area b + 1
    found w zero none g x = let z : ◌≡◌ {A = ℕ} 0 1 = cc x in absurd (omega arith)
    found w zero (some r) g x =
        let n : length r ≡ k = cc x in
        omega (arith, n, reason_length (leaf_on b) (cells_on b) (board_arrays b w).drawn.few r g)
    found w (suc j) f g x = let z : ◌≡◌ {A = ℕ} 0 1 = cc x in absurd (omega arith)

    ill : well_formed b ≡ false → find_refusal b q (length buffer) ≡ 6
    ill f = rw f refl

    go : (well_formed b ≡ true) ⊎ (well_formed b ≡ false) → (well_formed b ≡ true) × (k ≤ 3 * area b + 1)
    go (inl w) = (w, found w (find_refusal b q (length buffer)) (reason_on b) refl e)
    go (inr f) = let z : ◌≡◌ {A = ℕ} 0 1 = cc (rw (ill f) at e) in absurd (omega arith)

-- so their number is one that is returned
pub literals_fit : (b : Board) (q : ℕ) (buffer : List ℕ) {k : ℕ} → find_of b q buffer ≡ findings.Reason k → k < 2147483648
unfolding area grid_of size
literals_fit b q buffer e =
    let l = literals_few b q buffer e in
    omega (arith, l.1, cells_few b l.0)

-- ---- certain

module _ (b : Board) (budget k : ℕ) where
  pub certain_ill : well_formed b ≡ false → board_certain b budget k ≡ refused 6
  unfolding board_certain unless ◌>>=◌
  certain_ill f = rw f refl

  pub certain_short : well_formed b ≡ true → k < 8 + b.problem.height * b.problem.width → board_certain b budget k ≡ refused 11
  unfolding board_certain unless ◌>>=◌ area grid_of size
  certain_short w l = rw (w, lt-leb (8 + b.problem.height * b.problem.width) k l) refl

  pub certain_said : well_formed b ≡ true → 8 + b.problem.height * b.problem.width ≤ k → board_certain b budget k ≡ ok (said_of (b.problem.height * b.problem.width) (certain_of b budget))
  unfolding board_certain unless ◌>>=◌ area grid_of size
  certain_said w l = rw (w, le-leb (8 + b.problem.height * b.problem.width) k l) refl

  -- which is no refusal
  pub certain_made : (j : ℕ) → well_formed b ≡ true → refused_facts j ≡ certain_of b budget → ⊥
  unfolding certain_of certain_by known untold certainty
  certain_made j w e = go (leb (search_of (leaf_on b) (cells_on b)).steps budget) (search_of (leaf_on b) (cells_on b)) (ap (λ (f : Facts). f.answer) (rw w at e))
    where
      none_told : (boards : List (List ℕ)) → certainties.Refused j ≡ certainty boards → ⊥
      none_told [] q = let z : ◌≡◌ {A = ℕ} 0 1 = cc in omega arith
      none_told (x ∷ xs) q = let z : ◌≡◌ {A = ℕ} 0 1 = cc in omega arith

      go : (t : Bool) (r : Reached) → certainties.Refused j ≡ (cond t (known (size (grid_of b.problem)) r) (untold certainties.Spent budget)).answer → ⊥
      go true r q = none_told r.boards q
      go false r q = let z : ◌≡◌ {A = ℕ} 0 1 = cc in omega arith

-- ---- hints

module _ (b : Board) (q : ℕ) where
  pub hints_ill : well_formed b ≡ false → hints_of b q ≡ refused 6
  unfolding hints_of unless ◌>>=◌
  hints_ill f = rw f refl

  pub hints_stranger : well_formed b ≡ true → 3 < q → hints_of b q ≡ refused 17
  unfolding hints_of unless ◌>>=◌
  hints_stranger w m = rw (w, lt-leb q 3 m) refl

  pub hints_told : well_formed b ≡ true → q ≤ 3 → hints_of b q ≡ ok (count_of b q)
  unfolding hints_of unless ◌>>=◌
  hints_told w m = rw (w, le-leb q 3 m) refl

-- ---- a refusal leaves all as it was

-- a negative number is that of a refusal
refused_answer : (a : Answer) (k : ℕ) → answer_number a ≡ neg_ℤ (pos (suc k)) → a ≡ answers.Refused (suc k)
unfolding answer_number
refused_answer answers.Done k e = let z : ◌≡◌ {A = ℕ} 0 1 = cc e in absurd (omega arith)
refused_answer (answers.Refused zero) k e = let z : ◌≡◌ {A = ℕ} 0 1 = cc e in absurd (omega arith)
refused_answer (answers.Refused (suc j)) k e = let n : j ≡ k = cc e in rw n refl

refused_finding : (a : Finding) (k : ℕ) → finding_number a ≡ neg_ℤ (pos (suc k)) → a ≡ findings.Refused (suc k)
unfolding finding_number
refused_finding findings.Nothing k e = let z : ◌≡◌ {A = ℕ} 0 1 = cc e in absurd (omega arith)
refused_finding (findings.Reason n) k e = let z : ◌≡◌ {A = ℕ} 0 1 = cc e in absurd (omega arith)
refused_finding (findings.Refused zero) k e = let z : ◌≡◌ {A = ℕ} 0 1 = cc e in absurd (omega arith)
refused_finding (findings.Refused (suc j)) k e = let n : j ≡ k = cc e in rw n refl

-- open, decide, undo and find that return a negative number leave the board, and find the buffer
pub open_unchanged : (b : Board) (o : Opened) (k : ℕ) → answer_number o.answer ≡ neg_ℤ (pos (suc k)) → after_open b o ≡ b
unfolding after_open opened_over
open_unchanged b o k e = rw (refused_answer o.answer k e) refl

pub decided_unchanged : (b : Board) (i v k : ℕ) → answer_number (decide_of b i v).answer ≡ neg_ℤ (pos (suc k)) → (decide_of b i v).board ≡ b
decided_unchanged b i v k e = decide_unchanged b i v (suc k) (refused_answer (decide_of b i v).answer k e)

pub undone_unchanged : (b : Board) (k : ℕ) → answer_number (undo_of b).answer ≡ neg_ℤ (pos (suc k)) → (undo_of b).board ≡ b
undone_unchanged b k e = undo_unchanged b (suc k) (refused_answer (undo_of b).answer k e)

pub found_unchanged : (b : Board) (q : ℕ) (buffer : List ℕ) (k : ℕ) → finding_number (find_of b q buffer) ≡ neg_ℤ (pos (suc k))
    → (after_find b q (length buffer) ≡ b) × (buffer_after b q buffer ≡ buffer)
unfolding find_of after_find buffer_after finding_by hinted_by buffer_by
found_unchanged b q buffer k e = go (find_refusal b q (length buffer)) (reason_on b) (refused_finding (find_of b q buffer) k e)
  where
    go : (j : ℕ) (f : Found) → finding_by j f ≡ findings.Refused (suc k) → (hinted_by j b q ≡ b) × (buffer_by j f buffer ≡ buffer)
    go zero none x = let z : ◌≡◌ {A = ℕ} 0 1 = cc x in absurd (omega arith)
    go zero (some r) x = let z : ◌≡◌ {A = ℕ} 0 1 = cc x in absurd (omega arith)
    go (suc j) f x = (refl, refl)

-- certain that returns a negative number leaves the output
pub certain_unchanged : (b : Board) (budget : ℕ) (output : List ℕ) (k : ℕ) → said_number (board_certain b budget (length output)) ≡ neg_ℤ (pos (suc k))
    → output_with (said_bytes (board_certain b budget (length output))) output ≡ output
unfolding board_certain unless ◌>>=◌ said_number said_bytes output_with said_of certainty_number certain_bytes
certain_unchanged b budget output k = go (area b) (certain_of b budget) (well_formed b) (leb (8 + area b) (length output))
  where
    said : (n : ℕ) (f : Facts) (a : Certainty) → certainty_number a ≡ neg_ℤ (pos (suc k)) → output_with (ok (certain_bytes n a f)) output ≡ output
    said n f certainties.Told x = let z : ◌≡◌ {A = ℕ} 0 1 = cc x in absurd (omega arith)
    said n f certainties.Impossible x = let z : ◌≡◌ {A = ℕ} 0 1 = cc x in absurd (omega arith)
    said n f certainties.Spent x = let z : ◌≡◌ {A = ℕ} 0 1 = cc x in absurd (omega arith)
    said n f (certainties.Refused j) x = refl

    go : (n : ℕ) (f : Facts) (w t : Bool) → said_number (unless w 6 >>= λ _. unless t 11 >>= λ _. ok (said_of n f)) ≡ neg_ℤ (pos (suc k))
        → output_with (said_bytes (unless w 6 >>= λ _. unless t 11 >>= λ _. ok (said_of n f))) output ≡ output
    go n f false t x = refl
    go n f true false x = refl
    go n f true true x = said n f f.answer x
