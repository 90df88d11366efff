-- What decide and undo answer: a law for each way out of the code.
-- Assumes nothing.
use Prim.Native.Nat.{ℕ, ◌≤◌, ◌<◌}
use mathlib.Core.Path.{◌≡◌, refl, ap}
use mathlib.Core.Bool.{true, false}
use lib.ListN.{get_or}
use borrow.Author.Tests.{lt-ltb, le-ltb, le-leb, lt-leb, eq-eqb, ne_eqb}
use Rattle.record.specs.Problem.{Done, Refused}
use Rattle.refusal.specs.Refusals.{ok}
use Rattle.board.specs.declared.Board.{Board}
use Rattle.board.specs.Answers.{Decided, done_as}
use Rattle.board.specs.Form.{well_formed}
use Rattle.board.specs.Decide.{area, decide_refusal, undo_refusal, placed, removed, answered, decide_of, undo_of}

-- a refusal with the board as it was
abbrev pub no : ℕ → Board → Decided
no k b = record { answer = Refused k; board = b }

-- done, with the next board
abbrev pub yes : Board → Decided
yes b = record { answer = Done; board = b }

module _ (b : Board) (i v : ℕ) where
  pub decide_6 : well_formed b ≡ false → no 6 b ≡ decide_of b i v
  unfolding decide_of decide_refusal answered
  decide_6 w = rw w refl

  module _ (w : well_formed b ≡ true) where
    pub decide_7 : area b ≤ i → no 7 b ≡ decide_of b i v
    unfolding decide_of decide_refusal answered
    decide_7 h = rw (w, le-ltb i (area b) h) refl

    module _ (h : i < area b) where
      pub decide_8 : 1 < v → no 8 b ≡ decide_of b i v
      unfolding decide_of decide_refusal answered
      decide_8 k = rw (w, lt-ltb i (area b) h, lt-leb v 1 k) refl

      pub decide_9 : v ≤ 1 → (get_or b.cells i 0 ≡ 2 → ⊥) → no 9 b ≡ decide_of b i v
      unfolding decide_of decide_refusal answered
      decide_9 k e = rw (w, lt-ltb i (area b) h, le-leb v 1 k, ne_eqb (get_or b.cells i 0) 2 e) refl

      pub decide_done : v ≤ 1 → get_or b.cells i 0 ≡ 2 → yes (placed b i v) ≡ decide_of b i v
      unfolding decide_of decide_refusal answered
      decide_done k e = rw (w, lt-ltb i (area b) h, le-leb v 1 k, eq-eqb (get_or b.cells i 0) 2 e) refl

      pub decide_answers : v ≤ 1 → get_or b.cells i 0 ≡ 2 → ok tt ≡ done_as (decide_of b i v).answer
      decide_answers k e = ap (λ (d : Decided). done_as d.answer) (decide_done k e)

      pub decide_leaves : v ≤ 1 → get_or b.cells i 0 ≡ 2 → placed b i v ≡ (decide_of b i v).board
      decide_leaves k e = ap (λ (d : Decided). d.board) (decide_done k e)

module _ (b : Board) where
  pub undo_6 : well_formed b ≡ false → no 6 b ≡ undo_of b
  unfolding undo_of undo_refusal answered
  undo_6 w = rw w refl

  pub undo_10 : well_formed b ≡ true → b.decided ≡ 0 → no 10 b ≡ undo_of b
  unfolding undo_of undo_refusal answered
  undo_10 w e = rw (w, eq-eqb b.decided 0 e) refl

  pub undo_answers : well_formed b ≡ true → (b.decided ≡ 0 → ⊥) → ok tt ≡ done_as (undo_of b).answer
  unfolding undo_of undo_refusal answered
  undo_answers w e = rw (w, ne_eqb b.decided 0 e) refl

  pub undo_leaves : well_formed b ≡ true → (b.decided ≡ 0 → ⊥) → removed b ≡ (undo_of b).board
  unfolding undo_of undo_refusal answered
  undo_leaves w e = rw (w, ne_eqb b.decided 0 e) refl
