-- Laws of the board that a record and its decisions leave, and of what its entry counts.
-- Assumes nothing.
use Prim.Native.Nat.{ℕ, ◌+◌, ◌*◌, ◌/◌, ◌%◌, ◌≤◌, ◌<◌}
use native.Mathlib.Omega.{arith}
use mathlib.Core.Bool.{Bool, true, false, cond}
use mathlib.Core.Path.{◌≡◌, refl, subst}
use mathlib.Core.List.{List, [], ◌∷◌}
use lib.Dec.{eqb}
use lib.ListN.{length}
use Rattle.std.specs.Prelude.{Option, Some, None, Ok, Err, MatchOption}
use Rattle.std.specs.Result.{result_ok}
use Rattle.std.specs.declared.result.Result.{Result}
use Rattle.refusal.specs.declared.Refusal.{Refusal}
use Rattle.refusal.specs.Refusals.{Outcome, ok, outcome_of}
use Rattle.record.specs.Problem.{Answer, Done, Refused, puzzle_of}
use Rattle.board.specs.declared.Board.{Board}
use Rattle.board.specs.Answers.{opened_as, decided_as}
use Rattle.board.specs.Form.{well_formed}
use Rattle.board.specs.Kept.{open_of, cells_on}
use Rattle.board.specs.Decide.{area, decide_of, placed_from, onward, refused_with, decide_all_of}
use Rattle.board.proofs.Fold.{decide_well}
use Rattle.replay.specs.declared.Run.{Run}
use Rattle.groups_replay.specs.Entries.{BoardRun, board_end, RecordRun, gone_through, left_out, groups_at, EntrySo}
use Rattle.groups_replay.specs.declared.rounds.Rounds.{Rounds}

-- ---- a board or none

module _ {o : Outcome Board} (r : Result Board Refusal) (e : outcome_of r ≡ o) where
  -- a board that is there is that of the outcome
  pub some_ok : {b : Board} → Some b ≡ result_ok r → o ≡ ok b
  some_ok {b} s = go r e s
    where
      go : (r : Result Board Refusal) → outcome_of r ≡ o → Some b ≡ result_ok r → o ≡ ok b
      go (Ok c) e s = cc
      go (Err k) e s = absurd (cc)

  -- where none is there, the outcome is a refusal
  pub none_ok : {b : Board} → None ≡ result_ok r → o ≡ ok b → ⊥
  none_ok {b} s q = go r e s
    where
      go : (r : Result Board Refusal) → outcome_of r ≡ o → None ≡ result_ok r → ⊥
      go (Ok c) e s = cc
      go (Err k) e s = cc

-- two boards of one outcome are one
pub one_board : {o : Outcome Board} {b c : Board} → o ≡ ok b → o ≡ ok c → b ≡ c
one_board p q = cc

-- ---- the board that decisions leave is well formed

placed_well : (b : Board) → well_formed b ≡ true → (bytes : List ℕ) {next : Board} → decided_as (placed_from b bytes) ≡ ok next → well_formed next ≡ true
unfolding placed_from refused_with onward
placed_well b w [] {next} e = let q : b ≡ next = cc in subst (λ (c : Board). well_formed c ≡ true) q w
placed_well b w (x ∷ []) e = absurd (cc)
placed_well b w (x ∷ y ∷ rest) {next} e =
    let word : ℕ = x * 256 + y in
    let d = decide_of b (word % 1024) (word / 32768) in
    go (eqb (word % 32768 / 1024) 0) d.answer d.board (λ q. placed_well d.board (decide_well b w (word % 1024) (word / 32768)) rest q) e
  where
    go : (t : Bool) (k : Answer) (c : Board) → (decided_as (placed_from c rest) ≡ ok next → well_formed next ≡ true) → decided_as (cond t (onward k b (placed_from c rest)) (refused_with 12 b)) ≡ ok next → well_formed next ≡ true
    go true Done c v q = v q
    go true (Refused k) c v q = absurd (cc)
    go false k c v q = absurd (cc)

decided_well : (b : Board) (bytes : List ℕ) {next : Board} → decided_as (decide_all_of b bytes) ≡ ok next → well_formed next ≡ true
unfolding decide_all_of onward refused_with
decided_well b bytes {next} e = go (well_formed b) refl e
  where
    all : (k : Answer) (c : Board) → decided_as (onward k b (record { answer = k; board = c })) ≡ ok next → decided_as (record { answer = k; board = c }) ≡ ok next
    all Done c q = q
    all (Refused k) c q = absurd (cc)

    go : (t : Bool) → well_formed b ≡ t → decided_as (cond t (onward (placed_from b bytes).answer b (placed_from b bytes)) (refused_with 6 b)) ≡ ok next → well_formed next ≡ true
    go true w q = placed_well b w bytes (all (placed_from b bytes).answer (placed_from b bytes).board q)
    go false w q = absurd (cc)

-- ---- what the entry counts

module _ (rounds : Rounds) (bytes decisions list : List ℕ) (at : ℕ) where
  -- no board
  pub not_opened : (r : Result Board Refusal) → outcome_of r ≡ opened_as (open_of bytes 1 []) → None ≡ result_ok r → RecordRun rounds bytes decisions list at None
  not_opened r e n = left_out (λ opened board o d. absurd (none_ok r e n o))

  pub not_decided : (r s : Result Board Refusal) {b : Board} → outcome_of r ≡ opened_as (open_of bytes 1 []) → Some b ≡ result_ok r → outcome_of s ≡ decided_as (decide_all_of b decisions) → None ≡ result_ok s
      → RecordRun rounds bytes decisions list at None
  not_decided r s {b} e i f n =
      left_out (λ opened board o d.
      let q : opened ≡ b = one_board o (some_ok r e i) in
      absurd (none_ok s f n (subst (λ (c : Board). decided_as (decide_all_of c decisions) ≡ ok board) q d)))

  -- a board
  pub record_told : (r s : Result Board Refusal) {b c : Board} → outcome_of r ≡ opened_as (open_of bytes 1 []) → Some b ≡ result_ok r → outcome_of s ≡ decided_as (decide_all_of b decisions) → Some c ≡ result_ok s
      → (run : Option Run)
      → MatchOption run (well_formed c ≡ true → length list < board_end (area c) at) (λ run. (board_end (area c) at ≤ length list) × BoardRun rounds (puzzle_of c.problem) (cells_on c) (area c) list at run)
      → RecordRun rounds bytes decisions list at run
  record_told r s {b} {c} e i f j (Some run) m = gone_through b c (some_ok r e i) (some_ok s f j) m.0 m.1
  record_told r s {b} {c} e i f j None m =
      left_out (λ opened board o d.
      let q : b ≡ opened = one_board (some_ok r e i) o in
      let there = subst (λ (x : Board). decided_as (decide_all_of x decisions) ≡ ok c) q (some_ok s f j) in
      let p : c ≡ board = one_board there d in
      subst (λ (x : Board). length list < board_end (area x) at) p (m (decided_well b decisions (some_ok s f j))))

-- the list ends inside the record or the decisions
pub cut_short : (rounds : Rounds) (list : List ℕ) (at : ℕ) → length list < groups_at list at → EntrySo rounds list at None
cut_short rounds list at h = left_out (λ opened board o d. omega arith)
