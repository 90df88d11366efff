-- What stands afterwards: a refused call leaves the board as it was handed in, and beside a refused opening there is no board.
-- Assumes nothing.
use Prim.Native.Nat.{ℕ, zero, suc}
use native.Mathlib.Omega.{arith}
use mathlib.Core.Path.{◌≡◌, refl}
use mathlib.Core.Bool.{Bool, true, false, cond}
use mathlib.Core.List.{List}
use Rattle.record.specs.Record.{Outcome, ok, refused}
use Rattle.record.specs.Leaf.{Leaf, leaf_of}
use Rattle.record.specs.Problem.{number_of, Answer, Done, Refused}
use Rattle.board.specs.declared.Board.{Board}
use Rattle.board.specs.Answers.{Decided}
use Rattle.board.specs.Kept.{opening, open_of}
use Rattle.board.specs.Form.{well_formed}
use Rattle.board.specs.Decide.{decide_refusal, undo_refusal, placed, removed, answered, decide_of, undo_of, refused_with, onward, placed_from, decide_all_of}
use Rattle.board.proofs.CallLaws.{number_answered, blank_refused}

-- if the call is refused, the board is b
abbrev KeptBy : Board → Decided → Type 0
KeptBy b d = (k : ℕ) → d.answer ≡ Refused k → d.board ≡ b

done_kept : (b next : Board) → KeptBy b (record { answer = Done; board = next })
done_kept b next k e = let z : ◌≡◌ {A = ℕ} 0 1 = cc in absurd (omega arith)

answered_kept : (k : ℕ) (b next : Board) → KeptBy b (answered k b next)
unfolding answered
answered_kept zero b next = done_kept b next
answered_kept (suc k) b next = λ r e. refl

-- `decide`
pub decide_unchanged : (b : Board) (i v k : ℕ) → (decide_of b i v).answer ≡ Refused k → (decide_of b i v).board ≡ b
unfolding decide_of
decide_unchanged b i v = answered_kept (decide_refusal b i v) b (placed b i v)

-- `undo`
pub undo_unchanged : (b : Board) (k : ℕ) → (undo_of b).answer ≡ Refused k → (undo_of b).board ≡ b
unfolding undo_of
undo_unchanged b = answered_kept (undo_refusal b) b (removed b)

refused_kept : (k : ℕ) (b : Board) → KeptBy b (refused_with k b)
unfolding refused_with
refused_kept k b = λ r e. refl

placed_kept : (a : Answer) (b : Board) (d : Decided) → d.answer ≡ a → KeptBy b (onward a b d)
unfolding onward
placed_kept Done b d h k e = let z : ◌≡◌ {A = ℕ} 0 1 = cc in absurd (omega arith)
placed_kept (Refused m) b d h k e = refused_kept m b k e

either_kept : (t : Bool) {b : Board} {c d : Decided} → KeptBy b c → KeptBy b d → KeptBy b (cond t c d)
either_kept true h k = h
either_kept false h k = k

-- `decide_all`: nothing of the decisions before the refused one stays
pub all_unchanged : (b : Board) (bytes : List ℕ) (k : ℕ) → (decide_all_of b bytes).answer ≡ Refused k → (decide_all_of b bytes).board ≡ b
unfolding decide_all_of
all_unchanged b bytes = either_kept (well_formed b) (placed_kept (placed_from b bytes).answer b (placed_from b bytes) refl) (refused_kept 6 b)

-- `open`: every later call on what stands beside a refusal is refused with 6
pub no_board : (s : List ℕ) (e : ℕ) (ns : List ℕ) (k : ℕ) → (open_of s e ns).answer ≡ Refused k → well_formed (open_of s e ns).board ≡ false
unfolding open_of opening
no_board s e ns k = go (leaf_of s e ns)
  where
    go : (o : Outcome Leaf) → (opening o).answer ≡ Refused k → well_formed (opening o).board ≡ false
    go (refused m) h = blank_refused
    go (ok l) h = let z : ◌≡◌ {A = ℕ} 0 1 = cc in absurd (omega arith)

-- the number of an answer is that of document 01's refusal, 0 where the call is done
pub decide_answer : (b : Board) (i v : ℕ) → number_of (decide_of b i v).answer ≡ decide_refusal b i v
unfolding decide_of
decide_answer b i v = number_answered (decide_refusal b i v) b (placed b i v)

pub undo_answer : (b : Board) → number_of (undo_of b).answer ≡ undo_refusal b
unfolding undo_of
undo_answer b = number_answered (undo_refusal b) b (removed b)
