-- What open and the calls that change a board answer, as the definitions have it, and the same as an outcome.
-- Assumes nothing.
use Rattle.std.specs.Prelude.{⊤}
use Rattle.record.specs.Problem.{Answer, Done, Refused}
use Rattle.refusal.specs.Refusals.{Outcome, ok, refused}
use Rattle.board.specs.declared.Board.{Board}

-- the answer of `open`, with the board where it is Done, and a blank one of no cells where it is not
pub record Opened : Type 0 where
  pub answer : Answer
  pub board : Board

-- the answer of a call on a board, with the board as the call leaves it
pub record Decided : Type 0 where
  pub answer : Answer
  pub board : Board

-- an answer, as an outcome that tells nothing else
abbrev pub done_as : Answer → Outcome ⊤
done_as Done = ok tt
done_as (Refused k) = refused k

-- the board where the answer is Done, else the refusal
abbrev pub told : Answer → Board → Outcome Board
told Done b = ok b
told (Refused k) b = refused k

abbrev pub opened_as : Opened → Outcome Board
opened_as o = told o.answer o.board

abbrev pub decided_as : Decided → Outcome Board
decided_as d = told d.answer d.board

-- the board that is left where open has this answer: the one that it opens, or after a refusal the one that was there
unfoldable pub opened_over : Answer → Board → Board → Board
opened_over Done was opened = opened
opened_over (Refused k) was opened = was

-- what open leaves in the memory of the board that was there
unfoldable pub after_open : Board → Opened → Board
after_open was o = opened_over o.answer was o.board
