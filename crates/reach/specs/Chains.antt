-- Chains: the cells of each owner linked by rising index, so that a walk over one group takes as many steps as it has cells.
-- Assumes nothing.
use Rattle.std.specs.Prelude.{ℕ, ◌+◌, ◌-◌, ◌≤◌, ◌<◌, ◌≡◌, Bool, List, [], ◌∷◌, eqb, length, get_or}
use Rattle.grid.specs.Lists.{range, filter}

-- cell j has the owner f
unfoldable pub owned_by : List ℕ → ℕ → ℕ → Bool
owned_by owners f j = eqb (get_or owners j 0) f

-- the cells from i on and below n that have the owner f, rising
unfoldable pub cells_from : List ℕ → ℕ → ℕ → ℕ → List ℕ
cells_from owners n f i = filter (owned_by owners f) (range i (n - i))

-- the first of a list of cells, 1024 if there is none
unfoldable pub first_cell : List ℕ → ℕ
first_cell [] = 1024
first_cell (j ∷ js) = j

-- the first cell from i on and below n that has the owner f, 1024 if there is none
unfoldable pub first_from : List ℕ → ℕ → ℕ → ℕ → ℕ
first_from owners n f i = first_cell (cells_from owners n f i)

-- the cells from k on are linked: head has the first of each owner's, and next the one behind each
pub record ChainsFrom (owners head next : List ℕ) (n k : ℕ) : Type 0 where
  pub small : n ≤ 1024
  pub head_long : length head ≡ 1024
  pub next_long : length next ≡ 1024
  pub starts : (f : ℕ) → f < 1024 → get_or head f 0 ≡ first_from owners n f k
  pub follows : (i : ℕ) → k ≤ i → i < n → get_or owners i 0 < 1024 → get_or next i 0 ≡ first_from owners n (get_or owners i 0) (i + 1)

-- all cells below n are linked
abbrev pub Chains : List ℕ → List ℕ → List ℕ → ℕ → Type 0
Chains owners head next n = ChainsFrom owners head next n 0
