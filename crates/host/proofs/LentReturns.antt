-- What the calls on a board that is lent can return.
-- Assumes nothing.
use Prim.Native.Nat.{ℕ, zero, suc, ◌+◌, ◌*◌, ◌≤◌}
use native.Mathlib.Omega.{arith}
use mathlib.Core.Path.{◌≡◌, refl}
use mathlib.Core.Logic.{inl, inr}
use mathlib.Core.Bool.{Bool, true, false, cond}
use mathlib.Core.Option.{none, some}
use mathlib.Core.List.Memᴰ
use mathlib.Core.List.{List, [], ◌∷◌, Memᴰ}
use lib.Dec.{eqb, leb, ltb}
use lib.ListN.{length, get_or}
use Rattle.record.specs.Record.{Outcome, ok, refused, ◌>>=◌, unless}
use Rattle.record.specs.Arrows.{on_arrow}
use Rattle.record.specs.Problem.{grid_of}
use Rattle.record.specs.Leaf.{Leaf, is_edition, sizes_of, leaf_of}
use Rattle.board.specs.declared.Board.{Board}
use Rattle.board.specs.Board.{enough}
use Rattle.board.specs.Form.{well_formed}
use Rattle.board.specs.Kept.{opening, open_of}
use Rattle.board.specs.Decide.{area, decide_refusal, undo_refusal, answered, decide_of, undo_of}
use Rattle.board.specs.Hints.{count_of, find_refusal}
use Rattle.board.proofs.BoardForm.{Whole-is}
use Rattle.literals.specs.Buffer as findings
use Rattle.literals.specs.Literals.{Found}
use Rattle.literals.specs.Buffer.{finding_by}
use Rattle.reasons.specs.Find.{reason_on, find_of, leaf_on, cells_on}
use Rattle.finished.specs.Verdicts as verdicts
use Rattle.finished.specs.Finished.{finished_test}
use Rattle.finished.specs.Verdicts.{verdict, finished_of}
use Rattle.certain.specs.Tree.{search_of}
use Rattle.certain.specs.Facts.{Facts}
use Rattle.certain.specs.Facts as certainties
use Rattle.certain.specs.Facts.{untold, certain_by, certain_of}
use Rattle.calls.specs.Told.{Said, said_of, said_number}
use Rattle.host_board.specs.Lent.{answer_number, finding_number, verdict_number, board_certain, hints_of, count_number}
use Rattle.host_board.proofs.LentLaws.{literals_few}
use Rattle.host.specs.Returns.{faults, Possible, refusal_of, value_of, Within, negated_number, number_within}
use Rattle.host.proofs.Returns.{Any, among, listed, then_Possible, Possible-more, unless-Possible, read_Possible, ranges_Possible, SaidOne, search_number}

-- open: 0, or 1 to 5, 16 or 22
pub open_returns : (s : List ℕ) (e : ℕ) (ns : List ℕ) → Within (16 ∷ 22 ∷ faults) 0 (answer_number (open_of s e ns).answer)
unfolding open_of opening answer_number leaf_of sizes_of
open_returns s e ns = number (leaf_of s e ns) opened
  where
    number : (o : Outcome Leaf) → Possible (16 ∷ 22 ∷ faults) Any o → Within (16 ∷ 22 ∷ faults) 0 (answer_number (opening o).answer)
    number (refused k) (refusal_of m) = negated_number m
    number (ok l) p = number_within {n = 0} (omega arith)

    opened : Possible (16 ∷ 22 ∷ faults) Any (leaf_of s e ns)
    opened =
        then_Possible (Possible-more (λ k m. Memᴰ.tail (Memᴰ.tail m)) (λ p _. tt {0}) (read_Possible s)) λ p _.
        then_Possible (unless-Possible (is_edition e) 16 (λ _. Memᴰ.head refl)) λ _ _.
        then_Possible (Possible-more (λ k m. Memᴰ.tail (Memᴰ.append_left faults m)) (λ rs _. tt {0}) (ranges_Possible (on_arrow p.arrows) 0 ns)) λ rs _. value_of tt

-- a refusal that is not 0 is one of the list
above_0 : {ks : List ℕ} (k : ℕ) → among (suc k) (0 ∷ ks) ≡ true → Memᴰ (suc k) ks
above_0 {ks} k e = go (listed (suc k) (0 ∷ ks) e)
  where
    go : Memᴰ (suc k) (0 ∷ ks) → Memᴰ (suc k) ks
    go (Memᴰ.head z) = absurd (omega (arith, z))
    go (Memᴰ.tail m) = m

-- a refusal of the list, or 0 for none, as a number
answered-Within : {ks : List ℕ} (k : ℕ) (b next : Board) → among k (0 ∷ ks) ≡ true → Within ks 0 (answer_number (answered k b next).answer)
unfolding answered answer_number
answered-Within zero b next m = number_within {n = 0} (omega arith)
answered-Within {ks} (suc k) b next m = negated_number (above_0 k m)

-- decide: 0, or 6 to 9
pub decide_returns : (b : Board) (i v : ℕ) → Within (6 ∷ 7 ∷ 8 ∷ 9 ∷ []) 0 (answer_number (decide_of b i v).answer)
unfolding decide_of decide_refusal
decide_returns b i v =
    answered-Within (decide_refusal b i v) b _ (go (well_formed b) (ltb i (area b)) (leb v 1) (eqb (get_or b.cells i 0) 2))
  where
    go : (w x y z : Bool) → among (cond w (cond x (cond y (cond z 0 9) 8) 7) 6) (0 ∷ 6 ∷ 7 ∷ 8 ∷ 9 ∷ []) ≡ true
    go false x y z = refl
    go true false y z = refl
    go true true false z = refl
    go true true true false = refl
    go true true true true = refl

-- undo: 0, or 6 or 10
pub undo_returns : (b : Board) → Within (6 ∷ 10 ∷ []) 0 (answer_number (undo_of b).answer)
unfolding undo_of undo_refusal
undo_returns b = answered-Within (undo_refusal b) b _ (go (well_formed b) (eqb b.decided 0))
  where
    go : (w x : Bool) → among (cond w (cond x 10 0) 6) (0 ∷ 6 ∷ 10 ∷ []) ≡ true
    go false x = refl
    go true false = refl
    go true true = refl

-- find: a count up to 3 × H × W + 1, or 6, 17 or 11
pub find_returns : (b : Board) (q : ℕ) (buffer : List ℕ) → Within (6 ∷ 17 ∷ 11 ∷ []) (3 * area b + 1) (finding_number (find_of b q buffer))
unfolding find_of find_refusal finding_by finding_number
find_returns b q buffer =
    by (find_refusal b q (length buffer)) (reason_on b) (go (well_formed b) (leb q 3) (ltb (length buffer) (enough (grid_of b.problem)))) (λ k e. (literals_few b q buffer e).1)
  where
    go : (w x y : Bool) → among (cond w (cond x (cond y 11 0) 17) 6) (0 ∷ 6 ∷ 17 ∷ 11 ∷ []) ≡ true
    go false x y = refl
    go true false y = refl
    go true true false = refl
    go true true true = refl

    by : {m : ℕ} (j : ℕ) (f : Found) → among j (0 ∷ 6 ∷ 17 ∷ 11 ∷ []) ≡ true → ((k : ℕ) → finding_by j f ≡ findings.Reason k → k ≤ m) → Within (6 ∷ 17 ∷ 11 ∷ []) m (finding_number (finding_by j f))
    by zero none a h = number_within {n = 0} (omega arith)
    by zero (some r) a h = number_within (h (length r) refl)
    by (suc j) f a h = negated_number (above_0 j a)

-- finished: 1 or 0, or 6
pub finished_returns : (b : Board) → Within (6 ∷ []) 1 (verdict_number (finished_of b))
unfolding finished_of verdict verdict_number
finished_returns b = go (well_formed b) (finished_test (leaf_on b) (cells_on b))
  where
    go : (w t : Bool) → Within (6 ∷ []) 1 (verdict_number (cond w (verdict t) (verdicts.Refused 6)))
    go false t = negated_number (Memᴰ.head refl)
    go true false = number_within {n = 0} (omega arith)
    go true true = number_within {n = 1} (omega arith)

-- certain: 0, 1 or 2, or 6 or 11
pub certain_returns : (b : Board) (budget k : ℕ) → Within (6 ∷ 11 ∷ []) 2 (said_number (board_certain b budget k))
unfolding board_certain certain_of area unless ◌>>=◌ said_number
certain_returns b budget k = go (area b) (certain_by (area b) budget (search_of (leaf_on b) (cells_on b))) (untold (certainties.Refused 6) 0) (well_formed b) (leb (8 + area b) k) (search_number (area b) budget (search_of (leaf_on b) (cells_on b)))
  where
    said : {ks : List ℕ} (x : Said) → SaidOne x → Within ks 2 (said_number (ok x))
    said x (inl e) = rw e (number_within {n = 0} (omega arith))
    said x (inr (inl e)) = rw e (number_within {n = 1} (omega arith))
    said x (inr (inr e)) = rw e (number_within {n = 2} (omega arith))

    go : (n : ℕ) (f g : Facts) (w t : Bool) → SaidOne (said_of n f) → Within (6 ∷ 11 ∷ []) 2 (said_number (unless w 6 >>= λ _. unless t 11 >>= λ _. ok (said_of n (cond w f g))))
    go n f g false t o = negated_number (Memᴰ.head refl)
    go n f g true false o = negated_number (Memᴰ.tail (Memᴰ.head refl))
    go n f g true true o = said (said_of n f) o

-- hints: a count up to 65,535, or 6 or 17
pub hints_returns : (b : Board) (q : ℕ) → Within (6 ∷ 17 ∷ []) 65535 (count_number (hints_of b q))
unfolding hints_of unless ◌>>=◌ count_number
hints_returns b q = go (well_formed b) refl (leb q 3)
  where
    go : (w : Bool) → well_formed b ≡ w → (t : Bool) → Within (6 ∷ 17 ∷ []) 65535 (count_number (unless w 6 >>= λ _. unless t 17 >>= λ _. ok (count_of b q)))
    go false e t = negated_number (Memᴰ.head refl)
    go true e false = negated_number (Memᴰ.tail (Memᴰ.head refl))
    go true e true = number_within ((Whole-is b e).counts.low q)
