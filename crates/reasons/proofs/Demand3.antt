-- Demand 3 holds: the boards that the contracts' definitions leave are those of the plain machine, and find's answer on them is its reason.
-- Assumes nothing.
use Prim.Native.Nat.{ℕ, ◌+◌, ◌*◌, ◌/◌, ◌%◌, ◌≤◌, ◌<◌}
use native.Mathlib.Omega.{arith}
use native.Mathlib.Decide.{dec_le}
use mathlib.Core.Logic.{◌↔◌}
use mathlib.Core.Path.{◌≡◌, refl, sym, ap, ◌∙◌}
use mathlib.Core.List.{List, [], ◌∷◌, map, Memᴰ}
use mathlib.Core.Option.{none, some}
use lib.ListN.{length, drop, length-map}
use lib.Seq.{take_at}
use borrow.Author.Tests.{le-ltb, lt-ltb, le-leb, lt-leb}
use Rattle.grid.proofs.ArrayLaws.{array_take}
use Rattle.record.specs.Record.{Puzzle, ok, refused}
use Rattle.record.specs.Leaf.{Leaf}
use Rattle.record.specs.Problem.{grid_of, problem_of}
use Rattle.record.proofs.RecordLaws.{Valid-size}
use Rattle.record.proofs.LeafLaws.{ValidLeaf, leaf_valid}
use Rattle.grid.specs.Cells.{Literal, word}
use Rattle.board.specs.Form.{Counts}
use Rattle.board.specs.Board.{Call, Full, cells_after, enough}
use Rattle.groups.specs.Rules.{BlockRules}
use Rattle.board.specs.Kept.{board_of}
use Rattle.board.specs.Calls.{standing, hints_after}
use Rattle.board.proofs.Standing.{Standing, calls_Standing, Standing-calls, cells_valid, Standing-low}
use Rattle.board.proofs.BoardForm.{board_leaf}
use Rattle.board.proofs.CallLaws.{Standing-well, after_low, opened_left, after_calls}
use Rattle.literals.specs.Literals.{Found}
use Rattle.reasons.specs.Reasons.{find_on}
use Rattle.board.specs.Hints.{find_refusal, hinted_by, after_find}
use Rattle.reasons.specs.Find.{cells_on, reason_on, find_of, buffer_after, literal_of, told, answer_on}
use Rattle.literals.specs.Buffer.{finding_by, buffer_by}
use Rattle.reasons.specs.Demand3.{board_after, Demand}
use Rattle.reasons.proofs.OnMachine.{OnMachine, on_machine}

-- a literal is read back from its number
literal_word : (l : Literal) → l.0 < 32768 → literal_of (word l) ≡ l
unfolding literal_of word
literal_word (i, v) h =
    let low : (v * 32768 + i) % 32768 ≡ i = omega arith in
    let high : (v * 32768 + i) / 32768 ≡ v = omega arith in
    rw (low, high) refl

literals_words : (r : List Literal) → ((l : Literal) → Memᴰ l r → l.0 < 32768) → map literal_of (map word r) ≡ r
literals_words [] h = refl
literals_words (l ∷ r) h = rw (literal_word l (h l (mathlib.Core.List.Memᴰ.head refl)), literals_words r (λ m e. h m (mathlib.Core.List.Memᴰ.tail e))) refl

-- a caller who is not refused learns what was found
told_found : (f : Found) (a : List ℕ) → ((r : List Literal) → f ≡ some r → (l : Literal) → Memᴰ l r → l.0 < 32768) → told (finding_by 0 f) (buffer_by 0 f a) ≡ ok f
unfolding told finding_by buffer_by
told_found none a h = refl
told_found (some r) a h = rw (take_at (map word r) (drop (length r) a) (length r) (length-map r word), literals_words r (h r refl)) refl

-- every index of a reason is below 32,768
reason_low : (l : Leaf) → ValidLeaf l → {ds : List Literal} → Standing l.puzzle.grid ds → (r : List Literal) → find_on l ds ≡ some r → (x : Literal) → Memᴰ x r → x.0 < 32768
reason_low l v {ds} s r e x m =
    let c = Standing-calls l.puzzle.grid s in
    let stands : Memᴰ x ds = rw c.1 at ((on_machine l v c.0 c.0).stands r (rw c.1 e) x m) in
    omega (arith, (Standing-low s x stands).0, Valid-size v.puzzle)

-- on the board of standing decisions, with any counts of hints
module _ (l : Leaf) (v : ValidLeaf l) (ns : List ℕ) {ds : List Literal} (s : Standing l.puzzle.grid ds) where
  -- the cells are those of the machine
  pub cells_on_lem : cells_on (board_of l ds ns) ≡ cells_after l.puzzle.grid ds
  unfolding cells_on board_of problem_of grid_of
  cells_on_lem = rw (← (cells_valid s).long) (array_take 2 (cells_after l.puzzle.grid ds))

  -- and so is the reason that applies
  pub reason_on_lem : reason_on (board_of l ds ns) ≡ find_on l ds
  unfolding reason_on find_on
  reason_on_lem = let a = cells_on_lem in let b = board_leaf l v ds ns in cc

module _ (l : Leaf) (v : ValidLeaf l) {ns : List ℕ} (low : Counts ns) {ds : List Literal} (s : Standing l.puzzle.grid ds) where
  -- a player above 3 is refused, whatever the buffer
  strange : (q k : ℕ) → 3 < q → find_refusal (board_of l ds ns) q k ≡ 17
  unfolding find_refusal
  strange q k m = rw (Standing-well l v low s, lt-leb q 3 m) refl

  pub strange_find : (q : ℕ) → 3 < q → (a : List ℕ)
      → (answer_on (board_of l ds ns) q a ≡ refused 17) × (buffer_after (board_of l ds ns) q a ≡ a) × (after_find (board_of l ds ns) q (length a) ≡ board_of l ds ns)
  unfolding answer_on find_of buffer_after after_find told finding_by buffer_by hinted_by
  strange_find q m a = rw (strange q (length a) m) (refl, refl, refl)

  module _ (q : ℕ) (m : q ≤ 3) where
    accepted : (k : ℕ) → enough l.puzzle.grid ≤ k → find_refusal (board_of l ds ns) q k ≡ 0
    unfolding find_refusal board_of problem_of grid_of
    accepted k h = rw (Standing-well l v low s, le-leb q 3 m, le-ltb k (enough l.puzzle.grid) h) refl

    short : (k : ℕ) → k < enough l.puzzle.grid → find_refusal (board_of l ds ns) q k ≡ 11
    unfolding find_refusal board_of problem_of grid_of
    short k h = rw (Standing-well l v low s, le-leb q 3 m, lt-ltb k (enough l.puzzle.grid) h) refl

    -- a shorter buffer is refused
    pub short_find : (a : List ℕ) → length a < enough l.puzzle.grid
        → (answer_on (board_of l ds ns) q a ≡ refused 11) × (buffer_after (board_of l ds ns) q a ≡ a) × (after_find (board_of l ds ns) q (length a) ≡ board_of l ds ns)
    unfolding answer_on find_of buffer_after after_find told finding_by buffer_by hinted_by
    short_find a h = rw (short (length a) h) (refl, refl, refl)

  -- a long enough buffer gets the reason that applies
  pub long_answer : (q : ℕ) → q ≤ 3 → (a : List ℕ) → enough l.puzzle.grid ≤ length a → answer_on (board_of l ds ns) q a ≡ ok (find_on l ds)
  unfolding answer_on find_of buffer_after
  long_answer q m a h = rw (accepted q m (length a) h, reason_on_lem l v ns s) (told_found (find_on l ds) a (reason_low l v s))

  -- so a reason that is told is the one that applies
  told_reason : (q : ℕ) (a : List ℕ) (r : List Literal) → answer_on (board_of l ds ns) q a ≡ ok (some r) → find_on l ds ≡ some r
  told_reason q a r e = go (dec_le q 3) (dec_le (enough l.puzzle.grid) (length a))
    where
      go : Dec (q ≤ 3) → Dec (enough l.puzzle.grid ≤ length a) → find_on l ds ≡ some r
      go (yes m) (yes h) = let k = long_answer q m a h in cc
      go (yes m) (no h) = let k = (short_find q m a (omega arith)).0 in let z : ◌≡◌ {A = ℕ} 0 1 = cc in absurd (omega arith)
      go (no m) h = let k = (strange_find q (omega arith) a).0 in let z : ◌≡◌ {A = ℕ} 0 1 = cc in absurd (omega arith)

-- demand 3, for every accepted record in either edition, with any sizes or none, and all lists of calls
pub demand_3 : Demand
demand_3 s e ns l read cs ds = record {
  indexes = m.indexes;
  cells = (after_calls s e ns l read cs ds).cells;
  answer = λ same q r u w a b h k. reasons cs q u a h ∙ ap ok (m.answer same) ∙ sym (reasons ds r w b k);
  reasons = reasons cs;
  short = λ q u a h. rw (board cs) (short_find l v (after_low p cs) (calls_Standing p.grid cs) q u a h);
  stranger = λ q u a. rw (board cs) (strange_find l v (after_low p cs) (calls_Standing p.grid cs) q u a);
  stands = λ q a r k. m.stands r (reason cs q a r k);
  refutes = λ q a r k. m.refutes r (reason cs q a r k);
  finds = full_board;
}
  where
    p : Puzzle
    p = l.puzzle

    v : ValidLeaf l
    v = leaf_valid s e ns read

    m : OnMachine l cs ds
    m = on_machine l v cs ds

    board : (cs : List Call) → board_after s e ns cs ≡ board_of l (standing p cs) (hints_after p cs)
    board cs = opened_left s e ns l read cs

    reasons : (cs : List Call) (q : ℕ) → q ≤ 3 → (a : List ℕ) → enough p.grid ≤ length a → answer_on (board_after s e ns cs) q a ≡ ok (find_on l (standing p cs))
    reasons cs q u a h = rw (board cs) (long_answer l v (after_low p cs) (calls_Standing p.grid cs) q u a h)

    reason : (cs : List Call) (q : ℕ) (a : List ℕ) (r : List Literal) → answer_on (board_after s e ns cs) q a ≡ ok (some r) → find_on l (standing p cs) ≡ some r
    reason cs q a r k = told_reason l v (after_low p cs) (calls_Standing p.grid cs) q a r (rw (board cs) at k)

    full_board : Full p.grid (cells_on (board_after s e ns cs)) → (q : ℕ) → q ≤ 3 → (a : List ℕ) → enough p.grid ≤ length a
        → (answer_on (board_after s e ns cs) q a ≡ ok none) ↔ BlockRules l (cells_on (board_after s e ns cs))
    full_board full q u a h =
        let shown : cells_on (board_after s e ns cs) ≡ cells_after p.grid (standing p cs) = rw (board cs) (cells_on_lem l v (hints_after p cs) (calls_Standing p.grid cs)) in
        let f = m.finds (rw shown at full) in
        let k = reasons cs q u a h in
        (λ none. rw shown (f.0 (cc)), λ rules. let g = f.1 (rw shown at rules) in cc)
