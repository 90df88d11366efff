-- What demand 3 says, of the plain machine alone: its decisions, the cells that they give, and the reason that applies there.
-- Assumes nothing.
use Prim.Native.Nat.{ℕ}
use native.Mathlib.Omega.{arith}
use mathlib.Core.Logic.{◌↔◌}
use mathlib.Core.Path.{◌≡◌, ap}
use mathlib.Core.Bool.{So}
use mathlib.Core.List.{List, map, Memᴰ}
use mathlib.Core.Option.{none, some}
use lib.ListN.{get_or}
use borrow.Author.Tests.{eqb-true}
use Rattle.grid.specs.Lists.{Distinct}
use Rattle.grid.specs.Grid.{Grid}
use Rattle.record.proofs.LineLaws.{valid_arrows}
use Rattle.record.proofs.LeafLaws.{ValidLeaf}
use Rattle.record.specs.Leaf.{Leaf}
use Rattle.grid.specs.Cells.{Agrees, Literal, undecided}
use Rattle.board.specs.Board.{Full, SameCells, SameDecisions, Call, cells_after}
use Rattle.board.specs.Calls.{standing}
use Rattle.grid.proofs.CellLaws.{undecided_below}
use Rattle.board.proofs.Standing.{Standing, calls_Standing, index, Standing-Distinct, same_board, cells_equal, cell_stands, cells_valid}
use Rattle.groups.specs.Rules.{BlockRules}
use Rattle.kinds.specs.Meaning.{Setting}
use Rattle.literals.specs.Literals.{Found}
use Rattle.reasons.specs.Reasons.{find_reason, find_on}
use Rattle.reasons.proofs.Stands.{find_Stands}
use Rattle.reasons.proofs.Sound.{sound, complete}

module _ (l : Leaf) (cs : List Call) where
  -- the cells after the calls cs on a fresh board: 0 empty, 1 square, 2 undecided
  abbrev pub board : List ℕ
  board = cells_after l.puzzle.grid (standing l.puzzle cs)

  -- what find then says
  abbrev pub found : Found
  found = find_on l (standing l.puzzle cs)

-- of a leaf and two lists of calls
pub record OnMachine (l : Leaf) (cs ds : List Call) : Type 0 where
  -- no two standing decisions have one index: the same pairs are the same decisions, their order aside
  pub indexes : Distinct (map index (standing l.puzzle cs))
  -- 1. equal cells at every index exactly when the same decisions stand
  pub cells : SameCells l.puzzle.grid (board l cs) (board l ds) ↔ SameDecisions (standing l.puzzle cs) (standing l.puzzle ds)
  -- 2. then find gives the same answer
  pub answer : SameDecisions (standing l.puzzle cs) (standing l.puzzle ds) → found l cs ≡ found l ds
  -- 3. every literal of a reason is a standing decision
  pub stands : (r : List Literal) → found l cs ≡ some r → (x : Literal) → Memᴰ x r → Memᴰ x (standing l.puzzle cs)
  -- 4. no fully decided board that agrees with all literals of a reason meets the block rules
  pub refutes : (r : List Literal) → found l cs ≡ some r → (full : List ℕ) → Full l.puzzle.grid full → Agrees full r → ¬ BlockRules l full
  -- 5. where every cell is decided, none exactly when the block rules hold
  pub finds : Full l.puzzle.grid (board l cs) → (found l cs ≡ none) ↔ BlockRules l (board l cs)

-- a cell of a fully decided board is not undecided
decided_all : (g : Grid) (cells : List ℕ) → Full g cells → (c : ℕ) → ¬ So (undecided cells c)
unfolding undecided
decided_all g cells f c u = omega (arith, eqb-true (get_or cells c 0) 2 u, f.each c (omega (arith, undecided_below cells c u, f.long)))

-- it holds of every accepted leaf and all lists of calls, refused ones included
pub on_machine : (l : Leaf) → ValidLeaf l → (cs ds : List Call) → OnMachine l cs ds
unfolding find_on
on_machine l v cs ds = record {
  indexes = Standing-Distinct (stand cs);
  cells = same_board (stand cs) (stand ds);
  answer = λ same. ap (find_reason l) (cells_equal l.puzzle.grid (standing l.puzzle cs) (standing l.puzzle ds) ((same_board (stand cs) (stand ds)).1 same));
  stands = λ r e x m. let h = find_Stands setting l.edition l.sizes r e x.0 x.1 m in
      cell_stands l.puzzle.grid (standing l.puzzle cs) x.0 x.1 h.0 h.1 h.2;
  refutes = λ r e full f. sound l.edition l.sizes setting v.sizes r e full f.long;
  finds = λ f. complete l.edition l.sizes setting v.sizes (decided_all l.puzzle.grid (board l cs) f);
}
  where
    stand : (cs : List Call) → Standing l.puzzle.grid (standing l.puzzle cs)
    stand cs = calls_Standing l.puzzle.grid cs

    setting : Setting
    setting = record { puzzle = l.puzzle; lines = valid_arrows l.puzzle v.puzzle; cells = board l cs; valid = cells_valid (stand cs) }
