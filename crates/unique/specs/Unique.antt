-- The check of a certificate that a leaf has one solution only: what closes a step, the steps in turn, and what the call returns. And what an accepted certificate is for.
-- Assumes nothing.
use Rattle.std.specs.Prelude.{ℕ, zero, suc, ◌+◌, ◌≡◌, Bool, true, false, cond, ◌||◌, not, List, map, eqb, leb, ltb, ℤ, pos, neg_ℤ, length, get_or, take}
use Rattle.std.proofs.Math.Option.{none, some}
use Rattle.grid.specs.Lists.{upto, all, filter, array_of}
use Rattle.grid.specs.Grid.{size}
use Rattle.grid.specs.Cells.{potential}
use Rattle.record.specs.Record.{Outcome, ok, refused, ◌>>=◌, unless}
use Rattle.record.specs.Leaf.{Leaf}
use Rattle.literals.specs.Literals.{Found}
use Rattle.reasons.specs.Reasons.{find_reason}
use Rattle.finished.specs.Finished.{Finished, finished_test}
use Rattle.calls.specs.Call.{leaf_from}
use Rattle.certificate.specs.Certificate.{words_of, whole_words, width, next, State, step_from, claimed, headed}

-- ---- a step

-- the state of a cell with the code c before anything is assumed: a black cell is empty, a given one square, any other undecided
unfoldable pub base_cell : ℕ → ℕ
base_cell c = cond (eqb c 1) 0 (cond (eqb c 2) 1 2)

-- the cells that the leaf decides, in an array
unfoldable pub base_of : Leaf → List ℕ
base_of l = array_of 2 (map (λ i. base_cell (get_or l.puzzle.given i 0)) (upto (size l.puzzle.grid)))

-- two cells or more of the arrow a are not empty, so that two squares may stand on it
unfoldable pub two_open : List ℕ → List ℕ → Bool
two_open cells a = leb 2 (length (filter (potential cells) a))

-- some arrow has fewer
unfoldable pub lonely : List (List ℕ) → List ℕ → Bool
lonely arrows cells = not (all (two_open cells) arrows)

-- there is a reason
unfoldable pub has_reason : Found → Bool
has_reason none = false
has_reason (some r) = true

module _ (l : Leaf) where
  -- no finished board of the leaf has these cells, for a reason or for an arrow that is short of two squares
  unfoldable pub refuted : List ℕ → Bool
  refuted cells = lonely l.puzzle.arrows cells || has_reason (find_reason l (take (size l.puzzle.grid) cells))

  -- whether a step closes: where a clause is false it does; where the cells have to tell, they must be refuted, else 29; a refusal stays
  unfoldable pub close_of : State → ℕ
  close_of s = cond (eqb s.0 1) 0 (cond (eqb s.0 0) (cond (refuted s.1) 0 29) s.0)

  -- the refusal of the step at a place, 0 for none
  unfoldable pub step_of : List ℕ → ℕ → ℕ
  step_of ws at = close_of (step_from (size l.puzzle.grid) (base_of l) ws at)

  -- ---- the check

  -- the steps from a place on, each with a word at least: 0 where they end with the step of no literals, and the words with it; 30 where they do not; else the refusal of a step
  unfoldable pub steps_from : List ℕ → ℕ → ℕ → ℕ
  steps_from ws zero at = 30
  steps_from ws (suc fuel) at =
      cond (ltb at (length ws))
      (cond (eqb (step_of ws at) 0)
      (cond (eqb (width ws at) 0) (cond (eqb (next ws at) (length ws)) 0 30) (steps_from ws fuel (next ws at)))
      (step_of ws at))
      30

  -- all steps behind that of the claimed solution
  abbrev pub steps_of : List ℕ → ℕ
  steps_of ws = steps_from ws (length ws) (size l.puzzle.grid + 2)

-- the solution where k is 0, else the refusal k
unfoldable pub solution_or : ℕ → List ℕ → Outcome (List ℕ)
solution_or zero solution = ok solution
solution_or (suc k) solution = refused (suc k)

-- a certificate's bytes, checked for a leaf: the claimed solution where it is accepted; 23 bytes that are not whole words, or too many; 24 words that do not start with the step of a
-- claimed solution; 25 a claimed solution that is not finished; then the steps' refusals
abbrev pub check_on : List ℕ → Leaf → Outcome (List ℕ)
check_on c l =
    unless (whole_words c) 23 >>= λ _.
    unless (headed (size l.puzzle.grid) (words_of c)) 24 >>= λ _.
    unless (finished_test l (claimed (size l.puzzle.grid) (words_of c))) 25 >>= λ _.
    solution_or (steps_of l (words_of c)) (claimed (size l.puzzle.grid) (words_of c))

-- the call: a record in an edition with sizes, and a certificate: 1 to 5, 16, 22, then as above
unfoldable pub host_unique : List ℕ → ℕ → List ℕ → List ℕ → Outcome (List ℕ)
host_unique s e sizes c =
    leaf_from s e sizes >>= λ l.
    check_on c l

-- the number returned: 1 where the certificate is accepted, or the negated refusal number
unfoldable pub unique_returned : Outcome (List ℕ) → ℤ
unique_returned (refused k) = neg_ℤ (pos k)
unique_returned (ok solution) = pos 1

-- ---- what it is for

-- the one solution of a leaf
pub record OnlySolution (l : Leaf) (solution : List ℕ) : Type 0 where
  pub finished : Finished l solution
  pub only : (full : List ℕ) → Finished l full → full ≡ solution

-- the record s is accepted in the edition e with the sizes, and the solution that the certificate c claims is the only one of its leaf
pub record OneSolution (s : List ℕ) (e : ℕ) (sizes c : List ℕ) : Type 0 where
  pub leaf : Leaf
  pub opens : leaf_from s e sizes ≡ ok leaf
  pub one : OnlySolution leaf (claimed (size leaf.puzzle.grid) (words_of c))
