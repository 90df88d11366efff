-- What decide, undo and a list of decisions answer, and the board that they leave.
-- Assumes nothing.
use Rattle.std.specs.Prelude.{ℕ, zero, suc, ◌+◌, ◌-◌, ◌*◌, ◌/◌, ◌%◌, cond, List, [], ◌∷◌, eqb, leb, ltb, get_or, set}
use Rattle.grid.specs.Grid.{size}
use Rattle.record.specs.Problem.{grid_of, Answer, Done, Refused}
use Rattle.board.specs.declared.Board.{Board}
use Rattle.board.specs.Answers.{Decided}
use Rattle.board.specs.Form.{well_formed}

-- how many cells a board has
unfoldable pub area : Board → ℕ
area b = size (grid_of b.problem)

-- the refusal of decide, 0 for none: 6, 7, 8, 9 in this order
unfoldable pub decide_refusal : Board → ℕ → ℕ → ℕ
decide_refusal b i v = cond (well_formed b) (cond (ltb i (area b)) (cond (leb v 1) (cond (eqb (get_or b.cells i 0) 2) 0 9) 8) 7) 6

-- the refusal of undo, 0 for none: 6, 10 in this order
unfoldable pub undo_refusal : Board → ℕ
undo_refusal b = cond (well_formed b) (cond (eqb b.decided 0) 10 0) 6

-- the board with these decisions in place of its own: the puzzle, the edition, the sizes and the hints taken stay
abbrev pub with_decisions : Board → List ℕ → List ℕ → ℕ → Board
with_decisions b cells order n = record {
  problem = b.problem;
  edition = b.edition;
  cells = cells;
  order = order;
  decided = n;
  hints = b.hints;
  lowest = b.lowest;
  highest = b.highest;
}

-- the board with one more decision
unfoldable pub placed : Board → ℕ → ℕ → Board
placed b i v = with_decisions b (set b.cells i v) (set b.order b.decided i) (b.decided + 1)

-- the board without its latest decision; nothing of it is left
unfoldable pub removed : Board → Board
removed b = with_decisions b (set b.cells (get_or b.order (b.decided - 1) 0) 2) (set b.order (b.decided - 1) 0) (b.decided - 1)

-- the refusal k, which leaves the board, or where it is 0 the next board
unfoldable pub answered : ℕ → Board → Board → Decided
answered zero b next = record { answer = Done; board = next }
answered (suc k) b next = record { answer = Refused (suc k); board = b }

-- what `decide` answers and leaves
unfoldable pub decide_of : Board → ℕ → ℕ → Decided
decide_of b i v = answered (decide_refusal b i v) b (placed b i v)

-- what `undo` answers and leaves
unfoldable pub undo_of : Board → Decided
undo_of b = answered (undo_refusal b) b (removed b)

-- a refusal leaves the board as handed in
unfoldable pub refused_with : ℕ → Board → Decided
refused_with k b = record { answer = Refused k; board = b }

-- what comes next where the answer is Done, else the same refusal with the board b₀
unfoldable pub onward : Answer → Board → Decided → Decided
onward Done b₀ next = next
onward (Refused k) b₀ next = refused_with k b₀

-- the decisions in the bytes, 16 bits each, one `decide` after the other up to the first that is refused, with the board so far
unfoldable pub placed_from : Board → List ℕ → Decided
placed_from b [] = record { answer = Done; board = b }
placed_from b (x ∷ []) = refused_with 12 b
placed_from b (x ∷ y ∷ rest) =
    let word : ℕ = x * 256 + y in
    let d : Decided = decide_of b (word % 1024) (word / 32768) in
    cond (eqb (word % 32768 / 1024) 0) (onward d.answer b (placed_from d.board rest)) (refused_with 12 b)

-- what was placed, and after a refusal the board b₀ as handed in
abbrev pub all_placed : Board → Decided → Decided
all_placed b₀ d = onward d.answer b₀ d

-- what `decide_all` answers and leaves
unfoldable pub decide_all_of : Board → List ℕ → Decided
decide_all_of b bytes = cond (well_formed b) (all_placed b (placed_from b bytes)) (refused_with 6 b)
