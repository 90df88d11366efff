-- Demand 3: what holds after any two lists of calls on boards of one accepted record in one edition with the same sizes.
-- A list may hold finds of any player with buffers of any length, and calls that are refused. The find after it is of any player
-- from 0 to 3; one above 3 is refused. The boards are those that `open_of`, `decide_of`, `undo_of` and `after_find` leave, which the
-- contracts cite. The plain machine stands on the other side and sees only the calls. Two boards may differ in their counts of hints: equal cells
-- means cells only.
-- Assumes nothing.
use Rattle.std.specs.Prelude.{ℕ, ◌≤◌, ◌<◌, ◌↔◌, ◌≡◌, length}
use mathlib.Core.List.{List, map, Memᴰ}
use Rattle.std.proofs.Math.Option.{none, some}
use Rattle.grid.specs.Lists.{Distinct}
use Rattle.record.specs.Record.{ok, refused}
use Rattle.record.specs.Leaf.{Leaf, leaf_of}
use Rattle.grid.specs.Cells.{Literal, Agrees}
use Rattle.board.specs.Board.{Call, SameCells, SameDecisions, Full, enough}
use Rattle.board.specs.Kept.{open_of}
use Rattle.board.specs.Hints.{after_find}
use Rattle.board.specs.Calls.{left_all, standing}
use Rattle.board.specs.declared.Board.{Board}
use Rattle.groups.specs.Rules.{BlockRules}
use Rattle.reasons.specs.Reasons.{find_on}
use Rattle.reasons.specs.Find.{cells_on, buffer_after, answer_on}

-- the board that the calls cs leave, the first of them on the board that the record s opens in the edition e with the sizes ns
abbrev pub board_after : List ℕ → ℕ → List ℕ → List Call → Board
board_after s e ns cs = left_all (open_of s e ns).board cs

-- the record s in the edition e with the sizes ns, accepted as the leaf l, and two lists of calls
pub record Demand3 (s : List ℕ) (e : ℕ) (ns : List ℕ) (l : Leaf) (cs ds : List Call) : Type 0 where
  -- no cell stands twice in the machine's pairs, so the same pairs are the same decisions, their order aside
  pub indexes : Distinct (map (λ (d : Literal). d.0) (standing l.puzzle cs))
  -- equal cells exactly when the same decisions stand, in whatever order
  pub cells : SameCells l.puzzle.grid (board_after s e ns cs).cells (board_after s e ns ds).cells ↔ SameDecisions (standing l.puzzle cs) (standing l.puzzle ds)
  -- if so, find lent a long enough buffer gives the same answer on both, to any two players from 0 to 3
  pub answer : SameDecisions (standing l.puzzle cs) (standing l.puzzle ds) → (q r : ℕ) → q ≤ 3 → r ≤ 3 → (a b : List ℕ) → enough l.puzzle.grid ≤ length a → enough l.puzzle.grid ≤ length b
      → answer_on (board_after s e ns cs) q a ≡ answer_on (board_after s e ns ds) r b
  -- and it is the one of Reasons
  pub reasons : (q : ℕ) → q ≤ 3 → (a : List ℕ) → enough l.puzzle.grid ≤ length a → answer_on (board_after s e ns cs) q a ≡ ok (find_on l (standing l.puzzle cs))
  -- a shorter buffer is refused with 11, and nothing is changed
  pub short : (q : ℕ) → q ≤ 3 → (a : List ℕ) → length a < enough l.puzzle.grid
      → (answer_on (board_after s e ns cs) q a ≡ refused 11) × (buffer_after (board_after s e ns cs) q a ≡ a) × (after_find (board_after s e ns cs) q (length a) ≡ board_after s e ns cs)
  -- a player above 3 is refused with 17, whatever the buffer, and nothing is changed
  pub stranger : (q : ℕ) → 3 < q → (a : List ℕ) → (answer_on (board_after s e ns cs) q a ≡ refused 17) × (buffer_after (board_after s e ns cs) q a ≡ a) × (after_find (board_after s e ns cs) q (length a) ≡ board_after s e ns cs)
  -- each literal of a reason is a standing decision
  pub stands : (q : ℕ) (a : List ℕ) (r : List Literal) → answer_on (board_after s e ns cs) q a ≡ ok (some r) → (x : Literal) → Memᴰ x r → Memᴰ x (standing l.puzzle cs)
  -- no fully decided board that agrees with all of them meets the block rules
  pub refutes : (q : ℕ) (a : List ℕ) (r : List Literal) → answer_on (board_after s e ns cs) q a ≡ ok (some r) → (full : List ℕ) → Full l.puzzle.grid full → Agrees full r
      → BlockRules l full → ⊥
  -- if every cell is decided, find gives none exactly when the block rules are met
  pub finds : Full l.puzzle.grid (cells_on (board_after s e ns cs)) → (q : ℕ) → q ≤ 3 → (a : List ℕ) → enough l.puzzle.grid ≤ length a
      → (answer_on (board_after s e ns cs) q a ≡ ok none) ↔ BlockRules l (cells_on (board_after s e ns cs))

-- the demand: it holds for every accepted record in either edition, with any sizes or none, and all lists of calls
abbrev pub Demand : Type 0
Demand = (s : List ℕ) (e : ℕ) (ns : List ℕ) (l : Leaf) → leaf_of s e ns ≡ ok l → (cs ds : List Call) → Demand3 s e ns l cs ds
