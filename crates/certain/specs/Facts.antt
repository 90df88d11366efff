-- What `certain` answers on a board with a budget of steps.
-- Assumes nothing.
use Rattle.std.specs.Prelude.{ℕ, Bool, cond, List, [], ◌∷◌, map, eqb, leb, get_or, replicate}
use Rattle.grid.specs.Lists.{any, upto, array_of}
use Rattle.grid.specs.Grid.{size}
use Rattle.record.specs.Problem.{grid_of}
use Rattle.board.specs.Form.{well_formed}
use Rattle.board.specs.declared.Board.{Board}
use Rattle.reasons.specs.Find.{leaf_on, cells_on}
use Rattle.certain.specs.Tree.{Reached, search_of}

-- the cells are told, there is no finished board that agrees with the decisions, the budget is spent, or a refusal by its number
pub data Certainty : Type 0 where
  Told : Certainty
  Impossible : Certainty
  Spent : Certainty
  Refused : ℕ → Certainty

-- the answer, the number of steps, and where the cells are told 1 for a cell that is square in every finished board, 0 for one that is empty in every one
-- and 2 for one that is open. 3 stands behind the grid, and at every place where nothing is told
pub record Facts : Type 0 where
  pub answer : Certainty
  pub steps : ℕ
  pub cells : List ℕ

-- some board has the value v at cell i
unfoldable pub seen : ℕ → List (List ℕ) → ℕ → Bool
seen v boards i = any (λ (full : List ℕ). eqb (get_or full i 0) v) boards

-- 1 for a cell that is square in every board, 0 for one that is empty in every one, 2 for one that is open; 3 where there is no board
unfoldable pub fact_of : List (List ℕ) → ℕ → ℕ
fact_of boards i = cond (seen 1 boards i) (cond (seen 0 boards i) 2 1) (cond (seen 0 boards i) 0 3)

-- so for each of n cells, in an array, with 3 behind
unfoldable pub facts_in : ℕ → List (List ℕ) → List ℕ
facts_in n boards = array_of 3 (map (fact_of boards) (upto n))

-- the cells are told where there is a board; else there is no such board
unfoldable pub certainty : List (List ℕ) → Certainty
certainty [] = Impossible
certainty (b ∷ bs) = Told

-- an answer that tells nothing of the cells: 3 stands at every place
unfoldable pub untold : Certainty → ℕ → Facts
untold a steps = record { answer = a; steps = steps; cells = replicate 1024 3 }

-- what a search tells of n cells
unfoldable pub known : ℕ → Reached → Facts
known n r = record { answer = certainty r.boards; steps = r.steps; cells = facts_in n r.boards }

-- spent, with the budget as the count, where the search has more steps
unfoldable pub certain_by : ℕ → ℕ → Reached → Facts
certain_by n budget r = cond (leb r.steps budget) (known n r) (untold Spent budget)

-- what `certain` answers; 6 for a board that no list of calls could leave
unfoldable pub certain_of : Board → ℕ → Facts
certain_of b budget = cond (well_formed b) (certain_by (size (grid_of b.problem)) budget (search_of (leaf_on b) (cells_on b))) (untold (Refused 6) 0)
