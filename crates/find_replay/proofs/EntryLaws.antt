-- Laws of holding a board against what a list says of it.
-- Assumes nothing.
use Prim.Native.Nat.{ℕ, ◌≤◌}
use native.Mathlib.Omega.{arith}
use mathlib.Core.Bool.{Bool, true, false, not}
use mathlib.Core.Path.{◌≡◌, refl}
use mathlib.Core.List.{List, []}
use lib.Dec.{eqb}
use mir.Val.{bool_byte}
use Rattle.record.specs.Problem.{number_of}
use Rattle.board.specs.Kept.{open_of}
use Rattle.board.specs.Decide.{decide_all_of}
use Rattle.board.specs.declared.Board.{Board}
use Rattle.board.specs.Answers.{told, opened_as, decided_as}
use Rattle.record.specs.Problem.{Answer, Done, Refused}
use Rattle.refusal.specs.Refusals.{ok, refused}
use Rattle.refusal.specs.Refusals as refusals
use Rattle.refusal.specs.declared.Refusal.{Refusal}
use Rattle.refusal.specs.declared.Refusal.TheVariants as refusals-of
use Rattle.finished.specs.Verdicts.{Verdict, judged_as}
use Rattle.finished.specs.Verdicts as verdicts
use Rattle.replay.specs.Comparisons.{DiffersUnless}
use Rattle.replay.proofs.ComparisonLaws.{fails, numbers_told}
use Rattle.find_replay.specs.Entries.{VerdictSo, BoardSo, EntrySo}

module _ (n : ℕ) where
  -- an answer, by the number that is computed of it
  pub answer_told : (t : Bool) (v : Verdict) → ok t ≡ judged_as v → DiffersUnless (not (eqb n (bool_byte t))) (VerdictSo v n)
  unfolding VerdictSo
  answer_told t verdicts.Yes e = let z : t ≡ true = cc in rw z (numbers_told n 1)
  answer_told t verdicts.No e = let z : t ≡ false = cc in rw z (numbers_told n 0)
  answer_told t (verdicts.Refused k) e = let z : ◌≡◌ {A = ℕ} 0 1 = cc in absurd (omega arith)

  -- a refusal is never said
  pub refused_told : (v : Verdict) {k : ℕ} → refused k ≡ judged_as v → DiffersUnless true (VerdictSo v n)
  unfolding VerdictSo
  refused_told verdicts.Yes e = let z : ◌≡◌ {A = ℕ} 0 1 = cc in absurd (omega arith)
  refused_told verdicts.No e = let z : ◌≡◌ {A = ℕ} 0 1 = cc in absurd (omega arith)
  refused_told (verdicts.Refused k) e = fails (λ f. f)

-- the number of a refusal is not 0
positive : (r : Refusal) → 1 ≤ refusals.number_of r
positive refusals-of.RecordEnds = omega arith
positive refusals-of.CellCode = omega arith
positive refusals-of.OffGrid = omega arith
positive refusals-of.UsedTwice = omega arith
positive refusals-of.Filler = omega arith
positive refusals-of.Board = omega arith
positive refusals-of.Index = omega arith
positive refusals-of.Value = omega arith
positive refusals-of.Decided = omega arith
positive refusals-of.NothingDecided = omega arith
positive refusals-of.OutputShort = omega arith
positive refusals-of.Decision = omega arith
positive refusals-of.SheetShort = omega arith
positive refusals-of.Turning = omega arith
positive refusals-of.RecordOutputShort = omega arith
positive refusals-of.Edition = omega arith
positive refusals-of.Player = omega arith
positive refusals-of.UnequalHeights = omega arith
positive refusals-of.TooWide = omega arith
positive refusals-of.Tail = omega arith
positive refusals-of.Unfinished = omega arith
positive refusals-of.Sizes = omega arith
positive refusals-of.CertificateLength = omega arith
positive refusals-of.NoSolutionStep = omega arith
positive refusals-of.SolutionUnfinished = omega arith
positive refusals-of.StepCut = omega arith
positive refusals-of.NotALiteral = omega arith
positive refusals-of.Hint = omega arith
positive refusals-of.NotClosed = omega arith
positive refusals-of.CertificateEnd = omega arith

-- what was accepted, and the board that is left
accepted : (a : Answer) (b : Board) {c : Board} → ok c ≡ told a b → (number_of a ≡ 0) × (c ≡ b)
unfolding number_of
accepted Done b e = (refl, cc)
accepted (Refused k) b e = let z : ◌≡◌ {A = ℕ} 0 1 = cc in absurd (omega arith)

-- what was refused
denied : (a : Answer) (b : Board) (r : Refusal) → refused (refusals.number_of r) ≡ told a b → number_of a ≡ 0 → ⊥
unfolding number_of
denied Done b r e z = let z : ◌≡◌ {A = ℕ} 0 1 = cc in absurd (omega arith)
denied (Refused k) b r e z = let y : refusals.number_of r ≡ k = cc in omega (arith, y, z, positive r)

module _ (s : List ℕ) (edition : ℕ) (decisions list : List ℕ) (at count : ℕ) where
  -- a record that is refused
  pub not_opened : (r : Refusal) → refused (refusals.number_of r) ≡ opened_as (open_of s edition []) → EntrySo s edition decisions list at count → ⊥
  not_opened r e x = denied (open_of s edition []).answer (open_of s edition []).board r e x.opens

  module _ {o : Board} (e : ok o ≡ opened_as (open_of s edition [])) where
    -- decisions that are refused
    pub not_decided : (r : Refusal) → refused (refusals.number_of r) ≡ decided_as (decide_all_of o decisions) → EntrySo s edition decisions list at count → ⊥
    not_decided r f x =
        let g = rw (accepted (open_of s edition []).answer (open_of s edition []).board e).1 at f in
        denied (decide_all_of (open_of s edition []).board decisions).answer (decide_all_of (open_of s edition []).board decisions).board r g x.decides

    -- nothing is refused: then the board decides
    pub board_decides : {d : Board} → ok d ≡ decided_as (decide_all_of o decisions) → (t : Bool) → DiffersUnless t (BoardSo d list at count) → DiffersUnless t (EntrySo s edition decisions list at count)
    board_decides {d} f t b =
        let h = accepted (open_of s edition []).answer (open_of s edition []).board e in
        let g = rw h.1 at f in
        let k = accepted (decide_all_of (open_of s edition []).board decisions).answer (decide_all_of (open_of s edition []).board decisions).board g in
        let c = rw k.1 at b in
        (λ z. record { opens = h.0; decides = k.0; answers = c.0 z }, λ z x. c.1 z x.answers)
