-- The groups of a test: the largest side-connected sets of cells that pass it. A block is a group of squares, a potential group
-- one of cells that aren't empty. A group is named by its first cell in row order and lists its cells by index.
-- Assumes nothing.
use Rattle.std.specs.Prelude.{ℕ, min, max, ◌≡◌, Bool, cond, ◌&&◌, List, [], ◌∷◌, map, eqb, get_or}
use Rattle.std.proofs.Math.Bool.{So}
use Rattle.grid.specs.Link.{Linked}
use Rattle.grid.specs.Grid.{Adjacent, Grid, cells_of, neighbours}
use Rattle.grid.specs.Lists.{filter, flat_map}

-- i and j are joined by a chain of neighbours that all pass
abbrev pub Joined : Grid → (ℕ → Bool) → ℕ → ℕ → Type 0
Joined g p i j = Linked (Adjacent g) (λ c. So (p c)) i j

-- every name a becomes b
unfoldable pub rename : ℕ → ℕ → List ℕ → List ℕ
rename a b l = map (λ x. cond (eqb x a) b x) l

-- the groups of i and j become one, under the lower of their two names
unfoldable pub join : ℕ → ℕ → List ℕ → List ℕ
join i j l = rename (max (get_or l i 0) (get_or l j 0)) (min (get_or l i 0) (get_or l j 0)) l

-- all pairs joined in turn
unfoldable pub join_all : List (ℕ × ℕ) → List ℕ → List ℕ
join_all [] l = l
join_all (e ∷ es) l = join_all es (join e.0 e.1 l)

-- the pairs of neighbours that both pass
unfoldable pub edges : Grid → (ℕ → Bool) → List (ℕ × ℕ)
edges g p = flat_map (λ i. map (λ j. (i, j)) (filter (λ j. p i && p j) (neighbours g i))) (cells_of g)

-- the name of each cell's group: at first each cell is named by itself, and then each pair of neighbours is joined
unfoldable pub labels : Grid → (ℕ → Bool) → List ℕ
labels g p = join_all (edges g p) (cells_of g)

-- the same in meaning: two cells that pass have one name exactly when they are in one group
pub record Labels (g : Grid) (p : ℕ → Bool) : Type 0 where
  pub same : (i j : ℕ) → So (p i) → So (p j) → get_or (labels g p) i 0 ≡ get_or (labels g p) j 0 → Joined g p i j
  pub linked : (i j : ℕ) → Joined g p i j → get_or (labels g p) i 0 ≡ get_or (labels g p) j 0

-- the cells of the group named f, rising
unfoldable pub group : Grid → (ℕ → Bool) → List ℕ → ℕ → List ℕ
group g p l f = filter (λ i. p i && eqb (get_or l i 0) f) (cells_of g)

-- the groups' names, rising
unfoldable pub names : Grid → (ℕ → Bool) → List ℕ → List ℕ
names g p l = filter (λ i. p i && eqb (get_or l i 0) i) (cells_of g)
