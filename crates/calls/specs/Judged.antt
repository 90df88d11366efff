-- The call that tells whether a leaf is finished: what it returns.
-- Assumes nothing.
use Rattle.std.specs.Prelude.{ℕ, ◌≡◌, Bool, true, false, List, [], ℤ, pos, neg_ℤ}
use Rattle.grid.specs.Cells.{Literal}
use Rattle.record.specs.Record.{Outcome, ok, refused, ◌>>=◌, Puzzle, read_record}
use Rattle.record.specs.Leaf.{Leaf, in_edition}
use Rattle.board.specs.Board.{cells_after}
use Rattle.finished.specs.Finished.{Finished, finished_test}
use Rattle.calls.specs.Call.{decide_bytes, leaf_from}

-- what the call asks of a leaf: the decisions' refusals, then whether the board is finished
abbrev pub judge_on : List ℕ → Leaf → Outcome Bool
judge_on decisions l =
    decide_bytes l.puzzle.grid [] decisions >>= λ ds.
    ok (finished_test l (cells_after l.puzzle.grid ds))

-- the call opens in edition 1 and without sizes: 1 to 5, then as above
unfoldable pub host_finished : List ℕ → List ℕ → Outcome Bool
host_finished s decisions =
    read_record s >>= λ p.
    judge_on decisions (in_edition 1 p)

-- the same in the edition e with sizes: 1 to 5, 16, 22, then as above
unfoldable pub host_finished_with : List ℕ → ℕ → List ℕ → List ℕ → Outcome Bool
host_finished_with s e sizes decisions =
    leaf_from s e sizes >>= λ l.
    judge_on decisions l

-- the number returned: 1 yes, 0 no, or the negated refusal number
unfoldable pub judged : Outcome Bool → ℤ
judged (refused k) = neg_ℤ (pos k)
judged (ok true) = pos 1
judged (ok false) = pos 0

-- the record s and its decisions are accepted, and the board that they leave is finished
pub record FinishedBy (s decisions : List ℕ) : Type 0 where
  pub puzzle : Puzzle
  pub reads : read_record s ≡ ok puzzle
  pub accepted : List Literal
  pub decides : decide_bytes puzzle.grid [] decisions ≡ ok accepted
  pub finished : Finished (in_edition 1 puzzle) (cells_after puzzle.grid accepted)

-- the same of the record in the edition e with sizes
pub record FinishedWith (s : List ℕ) (e : ℕ) (sizes decisions : List ℕ) : Type 0 where
  pub leaf : Leaf
  pub opens : leaf_from s e sizes ≡ ok leaf
  pub accepted : List Literal
  pub decides : decide_bytes leaf.puzzle.grid [] decisions ≡ ok accepted
  pub finished : Finished leaf (cells_after leaf.puzzle.grid accepted)
