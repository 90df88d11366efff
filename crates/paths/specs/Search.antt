-- The breadth-first list of reason 2 as it is kept.
-- Assumes nothing.
use Rattle.std.specs.Prelude.{ℕ, ◌<◌, ◌≡◌, Bool, cond, ◌&&◌, eqb, length, get_or, set}
use mathlib.Core.List.{List, [], ◌∷◌, ◌++◌, map, Memᴰ}
use Rattle.grid.specs.Lists.{how_many}
use Rattle.paths.specs.Paths.{Entry}

-- the parent of cell i, or 1024 if it is not listed
unfoldable pub parent_mark : List Entry → ℕ → ℕ
parent_mark [] i = 1024
parent_mark (c ∷ cs) i = cond (eqb c.0 i) c.1 (parent_mark cs i)

-- how many entries are 1024, the mark of a cell that is not listed
abbrev pub unlisted : List ℕ → ℕ
unlisted = how_many 1024

-- `order` holds the cells of the breadth-first list cs of a grid of n cells, and the array `from` at each cell its parent
pub record Listing (n : ℕ) (order from : List ℕ) (cs : List Entry) : Type 0 where
  pub from_long : length from ≡ 1024
  pub cells_are : order ≡ map (λ c. c.0) cs
  pub parents_are : (i : ℕ) → i < n → get_or from i 0 ≡ parent_mark cs i
  pub parents_low : (c : Entry) → Memᴰ c cs → c.1 < 1024

-- cell j is a square and not listed
unfoldable pub wanted : List ℕ → List ℕ → ℕ → Bool
wanted cells from j = eqb (get_or cells j 0) 1 && eqb (get_or from j 0) 1024

-- cell j was listed with the parent p if it was wanted
pub record Offered (cells from order : List ℕ) (j p : ℕ) (from' order' : List ℕ) : Type 0 where
  pub parents : from' ≡ cond (wanted cells from j) (set from j p) from
  pub listed : order' ≡ cond (wanted cells from j) (order ++ (j ∷ [])) order
