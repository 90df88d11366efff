-- What the inner functions promise each other.
-- Assumes nothing.
use Rattle.std.specs.Prelude.{ℕ, ◌%◌, cond, List, [], ◌∷◌, ltb, get_or}
use Rattle.grid.specs.Lists.{upto, flat_map}

-- the two numbers of a cell, by the name f of its group and the counts of squares by name; 0 and 0 where it is in none
unfoldable pub pair_by : List ℕ → ℕ → List ℕ
pair_by squares f = cond (ltb f 1024) f 0 ∷ cond (ltb f 1024) (get_or squares (f % 1024) 0) 0 ∷ []

-- those of the cells below n
unfoldable pub pairs_by : List ℕ → List ℕ → ℕ → List ℕ
pairs_by groups squares n = flat_map (λ i. pair_by squares (get_or groups i 0)) (upto n)
