-- Laws of holding what is read of a record against what a list says of it.
-- Assumes nothing.
use Prim.Native.Nat.{ℕ}
use native.Mathlib.Omega.{arith}
use mathlib.Core.Bool.{Bool, true, true≢false}
use mathlib.Core.Path.{◌≡◌, refl, ap, ◌∙◌}
use mathlib.Core.List.{List}
use Rattle.std.specs.Prelude.{Result, Ok, Err, MatchResult, ⊤}
use Rattle.std.specs.Result.{IsOkAnd}
use Rattle.refusal.specs.Refusals.{outcome_of, number_of}
use Rattle.refusal.specs.declared.Refusal.{Refusal}
use Rattle.record.specs.Record.{Puzzle, Outcome, ok, refused, read_record}
use Rattle.record.specs.Problem.{as_problem}
use Rattle.record.specs.declared.Problem.{Problem}
use Rattle.record.proofs.ProblemLaws.{problem_ok, problem_refused}
use Rattle.replay.specs.Comparisons.{DiffersUnless}
use Rattle.replay.proofs.ComparisonLaws.{same_differs}
use Rattle.record_replay.specs.Problems.{ProblemSo, RefusedSo, RecordSo}

-- a record is not both
refused_or_ok : {A : Type 0} {o : Outcome A} {k : ℕ} {p : A} → o ≡ refused k → o ≡ ok p → ⊥
refused_or_ok e f = let z : ◌≡◌ {A = ℕ} 0 1 = cc in absurd (omega arith)

-- it keeps one puzzle
one_puzzle : {o : Outcome Puzzle} {p q : Puzzle} → o ≡ ok p → o ≡ ok q → p ≡ q
one_puzzle e f = cc

module _ (s list : List ℕ) (at : ℕ) where
  -- an accepted record's problem decides
  pub accepted : {q : Problem} (r : Bool) → ok q ≡ as_problem (read_record s) → DiffersUnless r (ProblemSo list at q) → DiffersUnless r (RecordSo s list at)
  accepted r e d =
      let p = (problem_ok (read_record s) e).0 in
      let is = (problem_ok (read_record s) e).1 in
      let kept = (problem_ok (read_record s) e).2 in (
        λ f. record { puzzle = p; accepted = is; problem_so = rw kept at (d.0 f) },
        λ t w. d.1 t (rw (kept, one_puzzle is w.accepted) w.problem_so),
      )

  -- a refused one has none
  pub not_accepted : {k : ℕ} → refused k ≡ as_problem (read_record s) → DiffersUnless true (RecordSo s list at)
  not_accepted e = (λ f. absurd (true≢false f), λ t w. refused_or_ok (problem_refused (read_record s) e) w.accepted)

-- and it is refused by one number
one_number : {o : Outcome Puzzle} {j k : ℕ} → o ≡ refused j → o ≡ refused k → j ≡ k
one_number e f = cc

-- a record is refused with this number where what is read of it, without its problem, is
pub is_refused : (s : List ℕ) (refusal : ℕ) (o : Result Problem Refusal) (m : Result ⊤ Refusal) → outcome_of o ≡ as_problem (read_record s)
    → MatchResult o (λ p. IsOkAnd m (λ u. ⊤)) (λ e. m ≡ Err e) → (r : Bool) → DiffersUnless r (outcome_of m ≡ refused refusal) → DiffersUnless r (RefusedSo s refusal)
is_refused s refusal (Ok p) (Ok u) e m = same_differs
    (λ f. absurd (refused_or_ok f refl))
    (λ w. absurd (refused_or_ok w (problem_ok (read_record s) e).1))
is_refused s refusal (Ok p) (Err x) e m = absurd m
is_refused s refusal (Err x) n e m =
    let is = problem_refused (read_record s) e in
    rw m (same_differs (λ f. let z : number_of x ≡ refusal = cc f in is ∙ ap refused z) (λ w. ap refused (one_number is w)))
