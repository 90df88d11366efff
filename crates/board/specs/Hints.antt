-- What find leaves on a board: the count of its player, raised by an accepted find and by nothing else.
-- Assumes nothing.
use Rattle.std.specs.Prelude.{ℕ, zero, suc, ◌+◌, min, cond, List, leb, ltb, get_or, set}
use Rattle.record.specs.Problem.{grid_of}
use Rattle.board.specs.declared.Board.{Board}
use Rattle.board.specs.Board.{enough}
use Rattle.board.specs.Form.{well_formed}

-- one more; at 65,535 it stops rising
unfoldable pub raised : ℕ → ℕ
raised n = min (n + 1) 65535

-- the count of player q
abbrev pub count_of : Board → ℕ → ℕ
count_of b q = get_or b.hints q 0

-- the board with the counts ns in place of its own
unfoldable pub with_hints : Board → List ℕ → Board
with_hints b ns = record {
  problem = b.problem;
  edition = b.edition;
  cells = b.cells;
  order = b.order;
  decided = b.decided;
  hints = ns;
  lowest = b.lowest;
  highest = b.highest;
}

-- the board with one more hint counted for player q, and for no other
unfoldable pub hinted : Board → ℕ → Board
hinted b q = with_hints b (set b.hints q (raised (count_of b q)))

-- find's refusal on a board, of player q with a buffer of k literals: 6, then 17 for a player above 3, then 11; 0 for none
unfoldable pub find_refusal : Board → ℕ → ℕ → ℕ
find_refusal b q k = cond (well_formed b) (cond (leb q 3) (cond (ltb k (enough (grid_of b.problem))) 11 0) 17) 6

-- the board by the refusal of a find of player q: an accepted find counts, a refused one leaves the board
unfoldable pub hinted_by : ℕ → Board → ℕ → Board
hinted_by zero b q = hinted b q
hinted_by (suc k) b q = b

-- the board that find leaves, of player q with a buffer of k literals
unfoldable pub after_find : Board → ℕ → ℕ → Board
after_find b q k = hinted_by (find_refusal b q k) b q
