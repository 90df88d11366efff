-- What is returned, and what the output holds then.
-- Assumes nothing.
use Prim.Native.Nat.{ℕ, ◌+◌, ◌*◌, ◌^◌, ◌≤◌, ◌<◌}
use native.Mathlib.Omega.{arith}
use mathlib.Core.Path.{◌≡◌, refl, sym, ◌∙◌}
use mathlib.Core.Bool.{true}
use mathlib.Core.List.{List}
use lib.ListN.{length, take}
use Rattle.std.specs.List.{All}
use borrow.Author.Tests.{le-leb, lt-leb}
use Rattle.std.specs.Prelude.{Ok, Err}
use Rattle.refusal.specs.declared.Refusal.TheVariants.{SheetShort}
use Rattle.record.specs.Record.{ok, refused, ◌>>=◌, unless, Puzzle, read_record}
use Rattle.record.specs.Problem.{grid_of, total_of}
use Rattle.record.specs.declared.Problem.{Problem}
use Rattle.form.specs.Form.{problem_formed}
use Rattle.form.proofs.ProblemForm.{Formed-is}
use Rattle.groups.specs.Arrays.{Drawn}
use Rattle.groups.proofs.MarkLaws.{line_cells}
use Rattle.board.proofs.BoardArrays.{problem_arrays}
use Rattle.exported.specs.Written.{Writes}
use Rattle.exported.proofs.WrittenLaws.{Writes-refused, Writes-ok}
use Rattle.clauses.specs.declared.Sheet.{Sheet}
use Rattle.clauses.specs.Clauses.{sheet_bytes, sheet_within, sheet_for}
use Rattle.clauses.specs.Inside.{Pushed}

within_13 : (n : ℕ) (p : Puzzle) → n < length (sheet_bytes p) → sheet_within n p ≡ refused 13
unfolding sheet_within ◌>>=◌ unless
within_13 n p h = rw (lt-leb (length (sheet_bytes p)) n h) refl

within_ok : (n : ℕ) (p : Puzzle) → length (sheet_bytes p) ≤ n → sheet_within n p ≡ ok (sheet_bytes p)
unfolding sheet_within ◌>>=◌ unless
within_ok n p h = rw (le-leb (length (sheet_bytes p)) n h) refl

-- the arrays of a well-formed problem hold its arrows
module _ (q : Problem) (r : problem_formed q ≡ true) where
  pub high : (q.height ≤ 32) × (q.width ≤ 32)
  unfolding grid_of
  high = (Formed-is q r).sizes.high

  pub drawn : Drawn (q.height * q.width) q.arrows q.ends q.count
  drawn = (problem_arrays q (Formed-is q r)).drawn

  -- so their cells can be marked
  pub line_fits : total_of q ≤ 1024
  line_fits = (problem_arrays q (Formed-is q r)).within

  pub all_small : All (λ i. i < 1024) (take (total_of q) q.arrows)
  all_small = line_cells q.arrows (total_of q) (λ k h. drawn.places.cells k)

-- what is pushed to a sheet that has nothing yet
module _ (p : Puzzle) (few : length (sheet_bytes p) < 2 ^ 31) {s t : Sheet} (none : s.len ≡ 0) (w : Pushed s t (sheet_bytes p)) (old : List ℕ) where
  pub long : t.len ≡ length (sheet_bytes p)
  long = w.counted (omega (arith, none, few)) ∙ omega (arith, none)

  -- too short an output
  pub Writes-13 : length old < t.len → Writes (sheet_within (length old) p) (Err SheetShort) old old
  Writes-13 h = Writes-refused (sheet_within (length old) p) old SheetShort (within_13 (length old) p (omega (arith, long)))

  -- an output with room: where the sheet keeps the output that it was made with, what stands there then is the sheet in front
  pub Writes-sheet : s.out.now ≡ old → length (sheet_bytes p) ≤ length old → (new : List ℕ) → (s.out.ghost_name ≡ t.out.ghost_name → new ≡ t.out.now) → Writes (sheet_within (length old) p) (Ok t.len) old new
  Writes-sheet o h new back =
      let z : 0 + length (sheet_bytes p) ≡ length (sheet_bytes p) = omega arith in
      Writes-ok (sheet_within (length old) p) old (sheet_bytes p) new t.len (within_ok (length old) p h) long (omega (arith, long, few))
      (back (sym w.same) ∙ w.wrote (omega (arith, none, few)) (rw o (omega (arith, none, h))) ∙ rw (o, none, z) refl)

-- the record's refusals, and its puzzle
pub sheet_refused : (n : ℕ) (s : List ℕ) (k : ℕ) → read_record s ≡ refused k → sheet_for n s ≡ refused k
unfolding sheet_for ◌>>=◌
sheet_refused n s k e = rw e refl

pub sheet_read : (n : ℕ) (s : List ℕ) {p : Puzzle} → read_record s ≡ ok p → sheet_for n s ≡ sheet_within n p
unfolding sheet_for ◌>>=◌
sheet_read n s e = rw e refl
