-- The counts of hints on any board: an accepted find raises that of its player and changes nothing else, no other call changes it, and any counts are well formed.
-- No call changes the edition or the sizes.
-- Assumes nothing.
use Prim.Native.Nat.{ℕ, zero, suc, ◌*◌, ◌+◌, ◌/◌, ◌%◌, ◌≤◌, ◌<◌}
use native.Mathlib.Omega.{arith}
use native.Mathlib.Decide.{dec_le}
use mathlib.Core.Path.{◌≡◌, refl, sym, ap, ◌∙◌}
use mathlib.Core.Bool.{Bool, true, false, cond}
use mathlib.Core.List.{List, [], ◌∷◌}
use lib.Dec.{eqb, leb, ltb}
use lib.ListN.{length, get_or}
use lib.Seq.{get_or-set_same, get_or-set_other}
use borrow.Author.Tests.{lt-leb}
use Rattle.record.specs.Problem.{grid_of, Answer, Done, Refused}
use Rattle.board.specs.declared.Board.{Board}
use Rattle.board.specs.Answers.{Decided}
use Rattle.board.specs.Kept.{sizes_on}
use Rattle.board.specs.Form.{Counts, sizes_good, well_formed}
use Rattle.board.specs.Decide.{with_decisions, decide_refusal, undo_refusal, placed, removed, answered, decide_of, undo_of, refused_with, onward, placed_from, decide_all_of}
use Rattle.board.specs.Board.{decide, undo, find, enough}
use Rattle.board.specs.Hints.{raised, count_of, with_hints, hinted, find_refusal, hinted_by, after_find}
use Rattle.board.specs.Calls.{left, OthersKeep}
use Rattle.board.proofs.HintLaws.{is_Counts}
use Rattle.board.proofs.BoardForm.{Whole-is}

-- find changes nothing but the counts
pub find_only_count : (b : Board) (q k : ℕ) → after_find b q k ≡ with_hints b (after_find b q k).hints
unfolding after_find with_hints
find_only_count b q k = go (find_refusal b q k)
  where
    go : (r : ℕ) → hinted_by r b q ≡ with_hints b (hinted_by r b q).hints
    go zero = unfold hinted_by hinted in refl
    go (suc r) = unfold hinted_by in refl

-- an accepted find is of one of the players
accepted_player : (b : Board) (q k : ℕ) → find_refusal b q k ≡ 0 → q < length b.hints
unfolding find_refusal
accepted_player b q k = go (well_formed b) refl (dec_le q 3)
  where
    go : (t : Bool) → well_formed b ≡ t → Dec (q ≤ 3) → ◌≡◌ {A = ℕ} (cond t (cond (leb q 3) (cond (ltb k (enough (grid_of b.problem))) 11 0) 17) 6) 0 → q < length b.hints
    go false w l e = absurd (omega (arith, e))
    go true w (yes l) e = omega (arith, (Whole-is b w).counts.four)
    go true w (no l) e = absurd (omega (arith, rw (lt-leb q 3 (omega arith)) at e))

-- it raises that of its player by one, as far as 65,535; a refused one leaves the board
pub find_counts : (b : Board) (q k : ℕ) → find_refusal b q k ≡ 0 → count_of (after_find b q k) q ≡ raised (count_of b q)
unfolding after_find hinted_by hinted with_hints
find_counts b q k e = rw e (get_or-set_same b.hints q (raised (count_of b q)) 0 (accepted_player b q k e))

pub find_keeps : (b : Board) (q k r : ℕ) → find_refusal b q k ≡ suc r → after_find b q k ≡ b
unfolding after_find hinted_by
find_keeps b q k r e = rw e refl

-- it leaves that of another player
pub find_others : (b : Board) (r k q : ℕ) → ¬ (r ≡ q) → count_of (after_find b r k) q ≡ count_of b q
unfolding after_find
find_others b r k q n = go (find_refusal b r k)
  where
    go : (m : ℕ) → count_of (hinted_by m b r) q ≡ count_of b q
    go zero = unfold hinted_by hinted with_hints in get_or-set_other b.hints r q (raised (count_of b r)) 0 (λ e. n (sym e))
    go (suc m) = unfold hinted_by in refl

pub stops_rising : raised 65535 ≡ 65535
unfolding raised
stops_rising = refl

-- ---- what a board has beside its decisions: decide, undo and a list of decisions leave it

module _ {A : Type 0} (f : Board → A) (same : (b : Board) (cells order : List ℕ) (n : ℕ) → f (with_decisions b cells order n) ≡ f b) where
  answered_same : (k : ℕ) (b next : Board) → f next ≡ f b → f (answered k b next).board ≡ f b
  unfolding answered
  answered_same zero b next e = e
  answered_same (suc k) b next e = refl

  decide_same : (b : Board) (i v : ℕ) → f (decide_of b i v).board ≡ f b
  unfolding decide_of placed
  decide_same b i v = answered_same (decide_refusal b i v) b (placed b i v) (same b _ _ _)

  undo_same : (b : Board) → f (undo_of b).board ≡ f b
  unfolding undo_of removed
  undo_same b = answered_same (undo_refusal b) b (removed b) (same b _ _ _)

  onward_same : (a : Answer) (b : Board) (d : Decided) → f d.board ≡ f b → f (onward a b d).board ≡ f b
  unfolding onward refused_with
  onward_same Done b d e = e
  onward_same (Refused k) b d e = refl

  either_same : (t : Bool) (b : Board) (c d : Decided) → f c.board ≡ f b → f d.board ≡ f b → f (cond t c d).board ≡ f b
  either_same true b c d e k = e
  either_same false b c d e k = k

  placed_same : (b : Board) (bytes : List ℕ) → f (placed_from b bytes).board ≡ f b
  unfolding placed_from refused_with
  placed_same b [] = refl
  placed_same b (x ∷ []) = refl
  placed_same b (x ∷ y ∷ rest) =
      let w : ℕ = x * 256 + y in
      let d : Decided = decide_of b (w % 1024) (w / 32768) in
      either_same (eqb (w % 32768 / 1024) 0) b (onward d.answer b (placed_from d.board rest)) (refused_with 12 b)
      (onward_same d.answer b (placed_from d.board rest) (placed_same d.board rest ∙ decide_same b (w % 1024) (w / 32768))) refl

  all_same : (b : Board) (bytes : List ℕ) → f (decide_all_of b bytes).board ≡ f b
  unfolding decide_all_of refused_with
  all_same b bytes =
      let d : Decided = placed_from b bytes in
      either_same (well_formed b) b (onward d.answer b d) (refused_with 6 b) (onward_same d.answer b d (placed_same b bytes)) refl

-- the counts
pub decide_count : (b : Board) (i v : ℕ) → (decide_of b i v).board.hints ≡ b.hints
decide_count = decide_same (λ b. b.hints) (λ b cells order n. refl)

pub undo_count : (b : Board) → (undo_of b).board.hints ≡ b.hints
undo_count = undo_same (λ b. b.hints) (λ b cells order n. refl)

pub all_count : (b : Board) (bytes : List ℕ) → (decide_all_of b bytes).board.hints ≡ b.hints
all_count = all_same (λ b. b.hints) (λ b cells order n. refl)

-- the edition, which find leaves too
pub decide_edition : (b : Board) (i v : ℕ) → (decide_of b i v).board.edition ≡ b.edition
decide_edition = decide_same (λ b. b.edition) (λ b cells order n. refl)

pub undo_edition : (b : Board) → (undo_of b).board.edition ≡ b.edition
undo_edition = undo_same (λ b. b.edition) (λ b cells order n. refl)

pub all_edition : (b : Board) (bytes : List ℕ) → (decide_all_of b bytes).board.edition ≡ b.edition
all_edition = all_same (λ b. b.edition) (λ b cells order n. refl)

pub find_edition : (b : Board) (q k : ℕ) → (after_find b q k).edition ≡ b.edition
find_edition b q k = ap (λ (x : Board). x.edition) (find_only_count b q k) ∙ unfold with_hints in refl

-- the sizes likewise
pub decide_sizes : (b : Board) (i v : ℕ) → sizes_on (decide_of b i v).board ≡ sizes_on b
unfolding sizes_on
decide_sizes = decide_same sizes_on (λ b cells order n. refl)

pub undo_sizes : (b : Board) → sizes_on (undo_of b).board ≡ sizes_on b
unfolding sizes_on
undo_sizes = undo_same sizes_on (λ b cells order n. refl)

pub all_sizes : (b : Board) (bytes : List ℕ) → sizes_on (decide_all_of b bytes).board ≡ sizes_on b
unfolding sizes_on
all_sizes = all_same sizes_on (λ b cells order n. refl)

pub find_sizes : (b : Board) (q k : ℕ) → sizes_on (after_find b q k) ≡ sizes_on b
find_sizes b q k = ap sizes_on (find_only_count b q k) ∙ unfold sizes_on with_hints in refl

-- no call but a find of player q changes the count of player q
pub others_keep : (b : Board) → OthersKeep b
unfolding left
others_keep b (decide i v) q n = ap (λ (ns : List ℕ). get_or ns q 0) (decide_count b i v)
others_keep b undo q n = ap (λ (ns : List ℕ). get_or ns q 0) (undo_count b)
others_keep b (find r k) q n = find_others b r k q (λ e. n k (ap (λ (x : ℕ). find x k) e))

-- no counts from 0 to 65,535 make a board ill formed
pub any_Counts : (b : Board) (ns : List ℕ) → Counts b.hints → Counts ns → well_formed (with_hints b ns) ≡ well_formed b
unfolding well_formed sizes_good with_hints
any_Counts b ns h k = rw (is_Counts b.hints h, is_Counts ns k) refl
