-- Document 02, §8: what `certain` tells, sentence by sentence, of every board that a list of calls leaves, in either edition, with sizes or without.
-- Assumes nothing.
use Rattle.std.specs.Prelude.{ℕ, ◌≤◌, ◌<◌, ◌↔◌, ◌≡◌, List, get_or}
use Rattle.grid.specs.Grid.{size}
use Rattle.grid.specs.Cells.{Literal, Agrees}
use Rattle.record.specs.Record.{ok}
use Rattle.record.specs.Leaf.{Leaf, leaf_of}
use Rattle.board.specs.Board.{Call, cells_after}
use Rattle.board.specs.Calls.{standing}
use Rattle.board.specs.declared.Board.{Board}
use Rattle.literals.specs.Buffer as finding
use Rattle.reasons.specs.Find.{find_of}
use Rattle.reasons.specs.Demand3.{board_after}
use Rattle.finished.specs.Finished.{Finished}
use Rattle.certain.specs.Tree.{search_of}
use Rattle.certain.specs.Facts.{certain_by, certain_of, Told, Impossible, Spent, Refused, Facts}

-- a finished board that agrees with the decisions ds
pub record Solution (l : Leaf) (ds : List Literal) (full : List ℕ) : Type 0 where
  pub finished : Finished l full
  pub agrees : Agrees full ds

-- of the boards that are meant: there is one
abbrev pub Some : (List ℕ → Type 0) → Type 0
Some S = (full : List ℕ) × S full

-- there is one with the value v at cell i
abbrev pub Sometimes : (List ℕ → Type 0) → ℕ → ℕ → Type 0
Sometimes S i v = (full : List ℕ) × S full × (get_or full i 0 ≡ v)

-- every one has the value v at cell i
abbrev pub Always : (List ℕ → Type 0) → ℕ → ℕ → Type 0
Always S i v = (full : List ℕ) → S full → get_or full i 0 ≡ v

-- the answer tells v of cell i
abbrev pub Tells : Facts → ℕ → ℕ → Type 0
Tells f i v = (f.answer ≡ Told) × (get_or f.cells i 0 ≡ v)

-- the facts are those of n cells in the boards that are meant
pub record TrueOf (n : ℕ) (S : List ℕ → Type 0) (f : Facts) : Type 0 where
  -- square: there is such a board, and the cell is square in every one
  pub square : (i : ℕ) → i < n → Tells f i 1 ↔ (Some S × Always S i 1)
  -- empty, likewise
  pub empty : (i : ℕ) → i < n → Tells f i 0 ↔ (Some S × Always S i 0)
  -- open: square in one and empty in another
  pub either : (i : ℕ) → i < n → Tells f i 2 ↔ (Sometimes S i 1 × Sometimes S i 0)
  -- or that there is no such board
  pub none : (f.answer ≡ Impossible) ↔ (¬ Some S)

-- the record s in the edition e with the sizes ns, accepted as the leaf l, and a list of calls
pub record CertainCells (s : List ℕ) (e : ℕ) (ns : List ℕ) (l : Leaf) (cs : List Call) : Type 0 where
  -- the answer is that of the search from the standing decisions; by the same search the calls for the outside answer, in edition 1 and in an edition with sizes
  pub search_is : (budget : ℕ)
      → certain_of (board_after s e ns cs) budget ≡ certain_by (size l.puzzle.grid) budget (search_of l (cells_after l.puzzle.grid (standing l.puzzle cs)))
  -- "for each cell, square in every finished board that agrees with the standing decisions, empty in every one, or open; or that there is no such board":
  -- so says every answer that isn't spent
  pub cells : (budget : ℕ) → ¬ ((certain_of (board_after s e ns cs) budget).answer ≡ Spent)
      → TrueOf (size l.puzzle.grid) (Solution l (standing l.puzzle cs)) (certain_of (board_after s e ns cs) budget)
  -- "Each find is one step, and the result carries their number"
  pub steps : (budget : ℕ) → ¬ ((certain_of (board_after s e ns cs) budget).answer ≡ Spent)
      → (certain_of (board_after s e ns cs) budget).steps ≡ (search_of l (cells_after l.puzzle.grid (standing l.puzzle cs))).steps
  -- "The answer is spent .. exactly when this search has more steps than the budget"
  pub spent : (budget : ℕ) → ((certain_of (board_after s e ns cs) budget).answer ≡ Spent) ↔ (budget < (search_of l (cells_after l.puzzle.grid (standing l.puzzle cs))).steps)
  -- "with a count equal to the budget"
  pub count : (budget : ℕ) → (certain_of (board_after s e ns cs) budget).answer ≡ Spent → (certain_of (board_after s e ns cs) budget).steps ≡ budget
  -- "and a budget of 0 is spent"
  pub zero_spent : (certain_of (board_after s e ns cs) 0).answer ≡ Spent
  -- "A larger budget never alters an answer that wasn't spent"
  pub larger : (budget more : ℕ) → budget ≤ more → ¬ ((certain_of (board_after s e ns cs) budget).answer ≡ Spent)
      → certain_of (board_after s e ns cs) more ≡ certain_of (board_after s e ns cs) budget
  -- such a board is not refused
  pub accepted : (budget k : ℕ) → ¬ ((certain_of (board_after s e ns cs) budget).answer ≡ Refused k)

-- any board: "An ill-formed board is refused as by find"
pub record RefusedAsFind (b : Board) : Type 0 where
  -- with 6 exactly when find is, whatever the budget, the player and the buffer
  pub six : (budget player : ℕ) (buffer : List ℕ) → ((certain_of b budget).answer ≡ Refused 6) ↔ (find_of b player buffer ≡ finding.Refused 6)
  -- with no other number, and no step is counted
  pub only : (budget k : ℕ) → (certain_of b budget).answer ≡ Refused k → (k ≡ 6) × ((certain_of b budget).steps ≡ 0)

-- all that is proved of §8
pub record Section8 : Type 0 where
  -- it holds for every accepted record in either edition, with any sizes or none, and every list of calls
  pub holds : (s : List ℕ) (e : ℕ) (ns : List ℕ) (l : Leaf) → leaf_of s e ns ≡ ok l → (cs : List Call) → CertainCells s e ns l cs
  pub refuses : (b : Board) → RefusedAsFind b
