-- The same verdict whichever way up, in the words of the calls: find on a board and on its turned image.
-- Assumes nothing.
use Rattle.std.specs.Prelude.{ℕ, ◌≤◌, ◌↔◌, ◌≡◌, List, map, length}
use Rattle.std.proofs.Math.Option.{none, some}
use Rattle.grid.specs.Grid.{Grid}
use Rattle.grid.specs.Cells.{Literal}
use Rattle.record.specs.Record.{Puzzle, ok}
use Rattle.record.specs.Leaf.{Leaf, leaf_with, leaf_of}
use Rattle.record.specs.Sizes.{numbers_of, Words}
use Rattle.board.specs.Board.{Call, cells_after, enough}
use Rattle.board.specs.Calls.{standing}
use Rattle.board.specs.declared.Board.{Board}
use Rattle.reasons.specs.Find.{answer_on}
use Rattle.reasons.specs.Demand3.{board_after}
use Rattle.turn.specs.Turn.{turning, turned, turn_record}
use Rattle.verdict.specs.Isomorphism.{Isomorphism, SameReasons}
use Rattle.verdict.specs.Turned.{call_to, decision_to, sizes_to}

-- the leaf l, turned by k, with its sizes
abbrev pub turned_leaf : ℕ → Leaf → Leaf
turned_leaf k l = leaf_with l.edition (sizes_to (turning k l.puzzle.grid) l.sizes) (turned k l.puzzle)

-- the sizes of the leaf l, turned by k, as the numbers that open takes
abbrev pub turned_numbers : ℕ → Leaf → List ℕ
turned_numbers k l = numbers_of (turned_leaf k l).sizes

-- calls on a board of the grid g, turned by k
abbrev pub turned_calls : ℕ → Grid → List Call → List Call
turned_calls k g cs = map (call_to g (turning k g)) cs

-- decisions on the grid g, turned by k
abbrev pub turned_decisions : ℕ → Grid → List Literal → List Literal
turned_decisions k g ds = map (decision_to (turning k g)) ds

-- the cells of a board of the puzzle p after calls
abbrev pub cells_of : Puzzle → List Call → List ℕ
cells_of p cs = cells_after p.grid (standing p cs)

-- find of player q, lent the buffer a, gives a reason on the board b
abbrev pub Reasoned : Board → ℕ → List ℕ → Type 0
Reasoned b q a = (r : List Literal) × (answer_on b q a ≡ ok (some r))

-- the record s in the edition e with the sizes ns, accepted as the leaf l, turned by k for an output of n bytes; and a list of calls
pub record SameVerdict (k n : ℕ) (s : List ℕ) (e : ℕ) (ns : List ℕ) (l : Leaf) (cs : List Call) : Type 0 where
  -- the sizes are those that were listed, and the turned ones fit 16 bits if the listed ones do
  pub listed : ns ≡ numbers_of l.sizes
  pub words : Words ns → Words (turned_numbers k l)
  -- the turned record with the turned sizes is accepted in that edition, as the turned leaf
  pub bytes : List ℕ
  pub turns : turn_record k n s ≡ ok bytes
  pub accepted : leaf_of bytes e (turned_numbers k l) ≡ ok (turned_leaf k l)
  -- after the turned calls the turned decisions stand
  pub stands : standing (turned k l.puzzle) (turned_calls k l.puzzle.grid cs) ≡ turned_decisions k l.puzzle.grid (standing l.puzzle cs)
  -- the turned board is the same up to the names of its cells, so each of the five reasons applies on the one exactly when on the other
  pub isomorphic : Isomorphism l (turned_leaf k l) (cells_of l.puzzle cs) (cells_of (turned k l.puzzle) (turned_calls k l.puzzle.grid cs)) (turning k l.puzzle.grid).to
  pub each : SameReasons l (turned_leaf k l) (cells_of l.puzzle cs) (cells_of (turned k l.puzzle) (turned_calls k l.puzzle.grid cs))
  -- find lent a long enough buffer gives none on the one exactly when it does so on the other, to any two players from 0 to 3
  pub nothing : (q r : ℕ) → q ≤ 3 → r ≤ 3 → (a b : List ℕ) → enough l.puzzle.grid ≤ length a → enough (turned k l.puzzle).grid ≤ length b
      → (answer_on (board_after s e ns cs) q a ≡ ok none) ↔ (answer_on (board_after bytes e (turned_numbers k l) (turned_calls k l.puzzle.grid cs)) r b ≡ ok none)
  -- and a reason on the one exactly when on the other
  pub reasoned : (q r : ℕ) → q ≤ 3 → r ≤ 3 → (a b : List ℕ) → enough l.puzzle.grid ≤ length a → enough (turned k l.puzzle).grid ≤ length b
      → Reasoned (board_after s e ns cs) q a ↔ Reasoned (board_after bytes e (turned_numbers k l) (turned_calls k l.puzzle.grid cs)) r b

-- it holds for each of the eight turnings, every accepted record in either edition, with any sizes or none, and all lists of calls
abbrev pub WhicheverWayUp : Type 0
WhicheverWayUp = (k n : ℕ) → k ≤ 7 → (s : List ℕ) → length s ≤ n → (e : ℕ) (ns : List ℕ) (l : Leaf) → leaf_of s e ns ≡ ok l → (cs : List Call) → SameVerdict k n s e ns l cs
