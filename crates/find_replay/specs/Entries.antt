-- What a list says of find and finished on a board.
-- Assumes nothing.
use Rattle.std.specs.Prelude.{ℕ, ◌+◌, ◌*◌, ◌≡◌, List, [], get_or}
use Rattle.record.specs.Problem.{number_of}
use Rattle.board.specs.Kept.{open_of}
use Rattle.board.specs.Decide.{decide_all_of}
use Rattle.board.specs.declared.Board.{Board}
use Rattle.finished.specs.Verdicts.{Verdict, Yes, No, Refused, finished_of}
use Rattle.replay.specs.Lists.{number_in}
use Rattle.finds.specs.Finds.{FindsSo}

-- the verdict is the one that a number says: 1 of a finished board, 0 of another
unfoldable pub VerdictSo : Verdict → ℕ → Type 0
VerdictSo Yes n = n ≡ 1
VerdictSo No n = n ≡ 0
VerdictSo (Refused k) n = ⊥

-- find of player 0 on a board gives so many literals, those of a list from a place on, and finished what the byte behind them says
abbrev pub BoardSo : Board → List ℕ → ℕ → ℕ → Type 0
BoardSo b list at count = FindsSo b 0 4096 count (number_in list at count 65535) × VerdictSo (finished_of b) (get_or list (at + 2 * count) 0)

-- a record opens a board in an edition, without sizes, the decisions are taken on it, and then the board is as the list says
pub record EntrySo (s : List ℕ) (e : ℕ) (decisions list : List ℕ) (at count : ℕ) : Type 0 where
  pub opens : number_of (open_of s e []).answer ≡ 0
  pub decides : number_of (decide_all_of (open_of s e []).board decisions).answer ≡ 0
  pub answers : BoardSo (decide_all_of (open_of s e []).board decisions).board list at count
