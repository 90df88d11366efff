-- An accepted puzzle and its arrays: each is made of the other.
-- Assumes nothing.
use Prim.Native.Nat.{ℕ}
use mathlib.Core.Path.{◌≡◌, sym, ap, ◌∙◌}
use mathlib.Core.Bool.{true}
use mathlib.Core.List.{List}
use Rattle.fields.specs.Fields.{Outcome, ok}
use Rattle.record.specs.Record.{Puzzle, read_record}
use Rattle.record.specs.Valid.{Valid}
use Rattle.record.specs.Problem.{problem_of, puzzle_of, as_problem}
use Rattle.record.specs.declared.Problem.{Problem}
use Rattle.record.proofs.ProblemLaws.{problem_ok, problem_puzzle}
use Rattle.record.proofs.RecordLaws.{record_Valid}
use Rattle.form.specs.Form.{problem_formed}
use Rattle.form.proofs.ProblemForm.{Formed-is, is_Formed, formed_Valid, formed_again, valid_Formed}

-- the puzzle p is valid, and q is its arrays
pub record Kept (p : Puzzle) (q : Problem) : Type 0 where
  pub valid : Valid p
  pub arrays : q ≡ problem_of p

-- so it is of a well-formed problem and the puzzle that it keeps
pub kept : (q : Problem) → problem_formed q ≡ true → {p : Puzzle} → puzzle_of q ≡ p → Kept p q
kept q f e = record { valid = rw (← e) (formed_Valid q (Formed-is q f)); arrays = sym (formed_again q (Formed-is q f)) ∙ ap problem_of e }

-- and the arrays of a valid puzzle are well formed, and keep it
module _ (p : Puzzle) (v : Valid p) {q : Problem} (e : q ≡ problem_of p) where
  pub valid_formed : problem_formed q ≡ true
  valid_formed = is_Formed q (rw e (valid_Formed p v))

  pub valid_kept : puzzle_of q ≡ p
  valid_kept = ap puzzle_of e ∙ problem_puzzle p v

-- the problem that was read is well formed, and keeps the record's puzzle
pub read_formed : (s : List ℕ) {q : Problem} → ok q ≡ as_problem (read_record s) → problem_formed q ≡ true
read_formed s e = let p = problem_ok (read_record s) e in valid_formed p.0 (record_Valid s p.1) p.2

pub read_kept : (s : List ℕ) {q : Problem} → ok q ≡ as_problem (read_record s) → ok (puzzle_of q) ≡ read_record s
read_kept s e = let p = problem_ok (read_record s) e in ap {B = Outcome Puzzle} ok (valid_kept p.0 (record_Valid s p.1) p.2) ∙ sym p.1
