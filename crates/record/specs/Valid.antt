-- What an accepted record says: sizes, codes, and arrows that go from neighbour to neighbour and use no cell twice.
-- Assumes nothing.
use Rattle.std.specs.Prelude.{ℕ, suc, ◌≤◌, ◌<◌, ◌≡◌, length, get_or}
use mathlib.Core.List.{List, [], ◌∷◌, ◌++◌, Memᴰ}
use Rattle.grid.specs.Grid.{Grid, size, neighbours, Adjacent}
use Rattle.record.specs.Record.{Puzzle}

-- js go from neighbour to neighbour, i first
pub data Walk (g : Grid) : ℕ → List ℕ → Type 0 where
  end : {i : ℕ} → Walk g i []
  on : {i j : ℕ} {js : List ℕ} → Memᴰ j (neighbours g i) → Walk g j js → Walk g i (j ∷ js)

-- js are distinct, and none of them is in used
pub data Fresh : List ℕ → List ℕ → Type 0 where
  nil : {used : List ℕ} → Fresh used []
  cons : {used : List ℕ} {j : ℕ} {js : List ℕ} → (Memᴰ j used → ⊥) → Fresh (j ∷ used) js → Fresh used (j ∷ js)

-- a walk that starts on the grid
pub data Arrow (g : Grid) : List ℕ → Type 0 where
  arrow : {i : ℕ} {js : List ℕ} → i < size g → Walk g i js → Arrow g (i ∷ js)

-- arrows that use no cell twice, nor one of used
pub data Arrows (g : Grid) : List ℕ → List (List ℕ) → Type 0 where
  nil : {used : List ℕ} → Arrows g used []
  cons : {used a : List ℕ} {rest : List (List ℕ)} → Arrow g a → Fresh used a → Arrows g (a ++ used) rest → Arrows g used (a ∷ rest)

-- what every record that is read says
pub record Valid (p : Puzzle) : Type 0 where
  pub low : (0 < p.grid.height) × (0 < p.grid.width)
  pub high : (p.grid.height ≤ 32) × (p.grid.width ≤ 32)
  pub total : length p.given ≡ size p.grid
  pub codes : (c : ℕ) → Memᴰ c p.given → c < 3
  pub arrows : Arrows p.grid [] p.arrows

-- what it says of its arrows, by position: on the grid, neighbours share a side, no cell twice on an arrow
pub record ValidArrows (g : Grid) (arrows : List (List ℕ)) : Type 0 where
  pub on : (l : List ℕ) → Memᴰ l arrows → (x : ℕ) → Memᴰ x l → x < size g
  pub side : (l : List ℕ) → Memᴰ l arrows → (k : ℕ) → suc k < length l → Adjacent g (get_or l k 0) (get_or l (suc k) 0)
  pub once : (l : List ℕ) → Memᴰ l arrows → (i j : ℕ) → i < length l → j < length l → get_or l i 0 ≡ get_or l j 0 → i ≡ j
