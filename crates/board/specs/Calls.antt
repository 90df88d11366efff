-- Lists of calls on a board, as the contracts have them, and what is proved of them (the board's part of demand 3; refusal 6).
-- Assumes nothing.
use Rattle.std.specs.Prelude.{ℕ, ◌≤◌, min, ◌↔◌, ◌≡◌, List, [], ◌∷◌, map}
use Rattle.grid.specs.Lists.{upto}
use Rattle.record.specs.Record.{Puzzle, Bytes}
use Rattle.record.specs.Leaf.{Leaf}
use Rattle.record.specs.Sizes.{Words}
use Rattle.record.specs.Problem.{number_of, Done}
use Rattle.board.specs.declared.Board.{Board}
use Rattle.grid.specs.Cells.{Literal}
use Rattle.board.specs.Board.{Call, decide, undo, find, SameCells, SameDecisions, after_all, refusal, how_often}
use Rattle.board.specs.Kept.{board_of, sizes_on, open_of}
use Rattle.board.specs.Decide.{decide_of, undo_of}
use Rattle.board.specs.Hints.{count_of, find_refusal, after_find}

-- the board that a call leaves, refused or not
unfoldable pub left : Board → Call → Board
left b (decide i v) = (decide_of b i v).board
left b undo = (undo_of b).board
left b (find q k) = after_find b q k

-- the board that a list of calls leaves, each on the board that the call before left
unfoldable pub left_all : Board → List Call → Board
left_all b [] = b
left_all b (c ∷ cs) = left_all (left b c) cs

-- some accepted record, a list of bytes, some edition, some sizes, a list of numbers, and some list of calls leave this board; the numbers have 16 bits where the board's sizes have
pub record Leaves (b : Board) : Type 0 where
  pub bytes : List ℕ
  pub low : Bytes bytes
  pub edition : ℕ
  pub sizes : List ℕ
  pub words : Words b.highest → Words sizes
  pub calls : List Call
  pub accepted : (open_of bytes edition sizes).answer ≡ Done
  pub leaves : left_all (open_of bytes edition sizes).board calls ≡ b

-- the decisions that the plain machine keeps after the calls cs
abbrev pub standing : Puzzle → List Call → List Literal
standing p cs = after_all p.grid cs []

-- the count of player q after the calls cs: that player's accepted finds among them, or 65,535 where they are more
abbrev pub count_after : Puzzle → List Call → ℕ → ℕ
count_after p cs q = min (how_often p.grid q cs) 65535

-- the counts on the board after the calls cs, of players 0 to 3
abbrev pub hints_after : Puzzle → List Call → List ℕ
hints_after p cs = map (count_after p cs) (upto 4)

-- no call on the board b but a find of player q changes the count of player q
abbrev pub OthersKeep : Board → Type 0
OthersKeep b = (c : Call) (q : ℕ) → ((k : ℕ) → ¬ (c ≡ find q k)) → count_of (left b c) q ≡ count_of b q

-- what holds after the lists of calls cs and ds on boards opened from one record s in one edition e with the same sizes ns, accepted as the leaf l
pub record AfterCalls (s : List ℕ) (e : ℕ) (ns : List ℕ) (l : Leaf) (cs ds : List Call) : Type 0 where
  -- the board is that of the decisions that stand and of the accepted finds
  pub board : left_all (open_of s e ns).board cs ≡ board_of l (standing l.puzzle cs) (hints_after l.puzzle cs)
  -- so a player's count is that player's accepted finds since open, or 65,535 where they are more
  pub count : (q : ℕ) → q ≤ 3 → count_of (left_all (open_of s e ns).board cs) q ≡ count_after l.puzzle cs q
  -- and no call by another changes it
  pub others : OthersKeep (left_all (open_of s e ns).board cs)
  -- the edition is kept, and so are the sizes
  pub edition : (left_all (open_of s e ns).board cs).edition ≡ e
  pub sizes : sizes_on (left_all (open_of s e ns).board cs) ≡ l.sizes
  -- the next call's refusal is the machine's
  pub decides : (i v : ℕ) → number_of (decide_of (left_all (open_of s e ns).board cs) i v).answer ≡ refusal l.puzzle.grid (decide i v) (standing l.puzzle cs)
  pub undoes : number_of (undo_of (left_all (open_of s e ns).board cs)).answer ≡ refusal l.puzzle.grid undo (standing l.puzzle cs)
  pub finds : (q k : ℕ) → find_refusal (left_all (open_of s e ns).board cs) q k ≡ refusal l.puzzle.grid (find q k) (standing l.puzzle cs)
  -- the boards have equal cells exactly when the same decisions stand, whatever their counts
  pub cells : SameCells l.puzzle.grid (left_all (open_of s e ns).board cs).cells (left_all (open_of s e ns).board ds).cells ↔ SameDecisions (standing l.puzzle cs) (standing l.puzzle ds)
