-- The search: find on each board that it reaches, the given one first. It turns back on a reason; else it tries the lowest undecided cell, square and
-- then empty; a full board counts if it is finished. It walks the whole tree, and each find is one step. There is no budget here.
-- Assumes nothing.
use Rattle.std.specs.Prelude.{ℕ, zero, suc, ◌+◌, cond, List, [], ◌∷◌, ◌++◌, eqb, set}
use Rattle.std.proofs.Math.Option.{none, some}
use Rattle.grid.specs.Lists.{how_many}
use Rattle.record.specs.Leaf.{Leaf}
use Rattle.literals.specs.Literals.{Found}
use Rattle.reasons.specs.Reasons.{find_reason}
use Rattle.finished.specs.Finished.{finished_test}

-- the lowest undecided cell; where there is none, the number of cells
unfoldable pub lowest : List ℕ → ℕ
lowest [] = 0
lowest (c ∷ cells) = cond (eqb c 2) 0 (suc (lowest cells))

-- what a search gathers: the finished boards that it reaches, in its order, and the number of its steps
pub record Reached : Type 0 where
  pub boards : List (List ℕ)
  pub steps : ℕ

-- a full board counts if it is finished
unfoldable pub counted : Leaf → List ℕ → Reached
counted l cells = record { boards = cond (finished_test l cells) (cells ∷ []) []; steps = 0 }

-- one search and then another
unfoldable pub both : Reached → Reached → Reached
both a b = record { boards = a.boards ++ b.boards; steps = a.steps + b.steps }

-- one step: by what find gives, back on a reason, else on to what lies beyond
unfoldable pub stepped : Found → Reached → Reached
stepped (some r) beyond = record { boards = []; steps = 1 }
stepped none beyond = record { boards = beyond.boards; steps = suc beyond.steps }

-- the search from a board with k undecided cells
unfoldable pub search_in : Leaf → ℕ → List ℕ → Reached
search_in l zero cells = stepped (find_reason l cells) (counted l cells)
search_in l (suc k) cells =
    stepped (find_reason l cells) (both (search_in l k (set cells (lowest cells) 1)) (search_in l k (set cells (lowest cells) 0)))

-- the search from a board
unfoldable pub search_of : Leaf → List ℕ → Reached
search_of l cells = search_in l (how_many 2 cells) cells
