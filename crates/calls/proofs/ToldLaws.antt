-- The call for the cells that are certain, step by step, and the bytes that it writes.
-- Assumes nothing.
use Prim.Native.Nat.{ℕ, ◌+◌, ◌≤◌, ◌<◌}
use native.Mathlib.Omega.{arith}
use mathlib.Core.Path.{◌≡◌, refl, sym, ap, ◌∙◌}
use mathlib.Core.List.{List, [], ◌++◌}
use lib.IntN.{ℤ, pos, neg_ℤ}
use lib.ListN.{length, take, drop, length-append, length-drop}
use lib.Seq.{take_at, drop_at, drop-drop, length-take-le}
use Rattle.std.specs.declared.result.Result.{Result}
use Rattle.grid.specs.Grid.{Grid, size}
use Rattle.grid.specs.Cells.{Literal}
use Rattle.grid.specs.Lists.{flat_map, array_of}
use Rattle.refusal.specs.declared.Refusal.{Refusal}
use Rattle.refusal.specs.Refusals.{returned_of}
use Rattle.record.specs.Record.{Outcome, ok, refused, ◌>>=◌}
use Rattle.record.specs.Leaf.{Leaf}
use Rattle.board.specs.Board.{cells_after}
use Rattle.board.proofs.Standing.{none}
use Rattle.certain.specs.Tree.{search_of}
use Rattle.certain.specs.Facts.{Certainty, Facts, certain_by}
use Rattle.certain.specs.Facts as certainties
use Rattle.certain.specs.Inside.{States}
use Rattle.certain.proofs.AnswerLaws.{Standing-States}
use Rattle.exported.specs.Written.{bytes_of, output_with}
use Rattle.calls.specs.Call.{decide_bytes}
use Rattle.calls.proofs.Opening.{returned_refused}
use Rattle.calls.proofs.Steps.{Made, bytes_Standing, call_short, call_refused, call_done, call_plain}
use Rattle.calls.specs.Told.{certainty_number, step_bytes, certain_bytes, Said, said_of, certain_on, host_certain, host_certain_with, said_number, said_bytes}
use Rattle.calls.specs.Inside.{Told, leaf_certain}

-- ---- what is said

-- the number of steps takes eight bytes
pub steps_length : (n : ℕ) → length (step_bytes n) ≡ 8
unfolding step_bytes bytes_of
steps_length n = refl

module _ (n : ℕ) (f : Facts) (out : List ℕ) where
  -- what is returned and what the output holds then
  abbrev Says : ℤ → List ℕ → Type 0
  Says r new = (r ≡ said_number (ok (said_of n f))) × (new ≡ output_with (said_bytes (ok (said_of n f))) out)

  said_as : (a : Certainty) → f.answer ≡ a → {r : ℤ} {new : List ℕ} → r ≡ certainty_number a → new ≡ certain_bytes n a f ++ drop (length (certain_bytes n a f)) out → Says r new
  unfolding said_number said_bytes said_of output_with
  said_as a e p q = (p ∙ ap certainty_number (sym e), q ∙ ap (λ (x : Certainty). certain_bytes n x f ++ drop (length (certain_bytes n x f)) out) (sym e))

  steps_only : {new : List ℕ} → new ≡ step_bytes f.steps ++ drop 8 out → new ≡ step_bytes f.steps ++ drop (length (step_bytes f.steps)) out
  steps_only e = rw (steps_length f.steps) e

  -- the cells are told
  pub Says-told : {mid new : List ℕ} → f.answer ≡ certainties.Told → 8 + n ≤ length out → length new ≡ length out → mid ≡ step_bytes f.steps ++ drop 8 out → new ≡ (take 8 mid ++ take n f.cells) ++ drop (8 + n) mid → Says (pos 0) new
  unfolding certainty_number certain_bytes
  Says-told {mid} {new} e h same p q =
      let steps = steps_length f.steps in
      let middle : length mid ≡ length out = ap length p ∙ length-append (step_bytes f.steps) (drop 8 out) ∙ omega (arith, steps, length-drop 8 out, h) in
      let parts : length new ≡ length (take 8 mid) + length (take n f.cells) + length (drop (8 + n) mid) =
      ap length q ∙ length-append (take 8 mid ++ take n f.cells) (drop (8 + n) mid) ∙ ap (λ (k : ℕ). k + length (drop (8 + n) mid)) (length-append (take 8 mid) (take n f.cells)) in
      let many : length (take n f.cells) ≡ n = omega (arith, parts, same, middle, h, length-take-le 8 mid (omega (arith, middle, h)), length-drop (8 + n) mid) in
      let long : length (step_bytes f.steps ++ take n f.cells) ≡ 8 + n = simp length-append (omega (arith, steps, many)) in
      let front : take 8 mid ≡ step_bytes f.steps = ap (take 8) p ∙ take_at (step_bytes f.steps) (drop 8 out) 8 (steps_length f.steps) in
      let back : drop (8 + n) mid ≡ drop (8 + n) out =
      sym (drop-drop n 8 mid) ∙ ap (λ (z : List ℕ). drop n (drop 8 z)) p ∙ ap (drop n) (drop_at (step_bytes f.steps) (drop 8 out) 8 (steps_length f.steps)) ∙ drop-drop n 8 out in
      said_as certainties.Told e refl (rw (long, ← front, ← back) q)

  -- there is no such board
  pub Says-none : {new : List ℕ} → f.answer ≡ certainties.Impossible → new ≡ step_bytes f.steps ++ drop 8 out → Says (pos 1) new
  unfolding certainty_number certain_bytes
  Says-none e q = said_as certainties.Impossible e refl (steps_only q)

  -- the budget is spent
  pub Says-spent : {new : List ℕ} → f.answer ≡ certainties.Spent → new ≡ step_bytes f.steps ++ drop 8 out → Says (pos 2) new
  unfolding certainty_number certain_bytes
  Says-spent e q = said_as certainties.Spent e refl (steps_only q)

-- ---- the call

-- the number returned and the output after it
abbrev pub Tells : Outcome Said → ℤ → List ℕ → List ℕ → Type 0
Tells o r old new = (r ≡ said_number o) × (new ≡ output_with (said_bytes o) old)

-- a refusal leaves the output
pub Tells-refused : (o : Outcome Said) (k : ℕ) (r : ℤ) (old : List ℕ) → o ≡ refused k → r ≡ neg_ℤ (pos k) → Tells o r old old
unfolding said_number said_bytes output_with
Tells-refused o k r old e f = rw e (f, refl)

-- what is told of an outcome is told of its equal
pub Tells-as : {o p : Outcome Said} {r : ℤ} (old : List ℕ) {new : List ℕ} → o ≡ p → Tells p r old new → Tells o r old new
Tells-as old e t = rw e t

-- what was written for an answer is told of the call that says it
pub Tells-said : (n : ℕ) (f g : Facts) {o : Outcome Said} → f ≡ g → (old : List ℕ) {r : ℤ} {new : List ℕ} → o ≡ ok (said_of n g) → Tells (ok (said_of n f)) r old new → Tells o r old new
Tells-said n f g e old q t = rw (q, ← e) t

-- what the call tells, by what is told of the leaf that is opened
pub Tells-opened : (o : Outcome Leaf) (decisions : List ℕ) (budget : ℕ) (before after : List ℕ) (answer : Result ℕ Refusal)
    → Told o (λ l before after answer. Tells (leaf_certain decisions budget (length before) l) (returned_of answer) before after) before after answer
    → Tells (o >>= leaf_certain decisions budget (length before)) (returned_of answer) before after
unfolding said_number said_bytes output_with ◌>>=◌
Tells-opened (refused k) decisions budget before after answer t = (returned_refused answer t.0, t.1)
Tells-opened (ok l) decisions budget before after answer t = t

-- the call is that in edition 1 without sizes
pub certain_plain : (s decisions : List ℕ) (budget n : ℕ) → host_certain s decisions budget n ≡ host_certain_with s 1 [] decisions budget n
unfolding host_certain host_certain_with
certain_plain s decisions budget n = call_plain (λ g. 8 + size g) (certain_on budget) s decisions n

-- what the output needs
abbrev need : Grid → ℕ
need g = 8 + size g

-- decisions that are accepted leave states
pub left_States : (g : Grid) (decisions : List ℕ) {cells : List ℕ} → size g ≤ 1024 → (ds : List Literal) × (decide_bytes g [] decisions ≡ ok ds) × (cells ≡ array_of 2 (cells_after g ds)) → States cells
left_States g decisions few d = rw d.2 (Standing-States (bytes_Standing g decisions none d.1) few)

module _ (l : Leaf) (decisions : List ℕ) (budget n : ℕ) where
  -- an output that is too short
  pub certain_short : n < 8 + size l.puzzle.grid → leaf_certain decisions budget n l ≡ refused 11
  certain_short k = call_short need (certain_on budget) l decisions n k

  module _ (k : 8 + size l.puzzle.grid ≤ n) where
    -- a decision is refused
    pub certain_refused : {m : ℕ} → decide_bytes l.puzzle.grid [] decisions ≡ refused m → leaf_certain decisions budget n l ≡ refused m
    certain_refused f = call_refused need (certain_on budget) l decisions n k f

    -- all are accepted: the search begins at the states that are left
    pub certain_done : {cells : List ℕ} → Made l decisions cells
        → leaf_certain decisions budget n l ≡ ok (said_of (size l.puzzle.grid) (certain_by (size l.puzzle.grid) budget (search_of l (take (size l.puzzle.grid) cells))))
    certain_done m =
        call_done need (certain_on budget) l decisions n k m.accepted
        ∙ ap (λ (states : List ℕ). ok (said_of (size l.puzzle.grid) (certain_by (size l.puzzle.grid) budget (search_of l states)))) (sym m.left)
