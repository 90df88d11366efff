-- A grid in another: cells, neighbours and shifts.
-- Assumes nothing.
use Rattle.std.specs.Prelude.{ℕ, ◌<◌, ◌↔◌, ◌≡◌}
use Rattle.grid.specs.Grid.{Grid, size, Adjacent}
use Rattle.groups.specs.Rules.{Shift, Moved}

-- the shift s of g is the shift t of h
abbrev pub Shifts : Grid → Grid → (ℕ → ℕ) → Shift → Shift → Type 0
Shifts g h f s t = (x y : ℕ) → x < size g → y < size g → Moved g s x y ↔ Moved h t (f x) (f y)

-- f takes the cells of g to cells of h, no two to one, and neither makes nor loses neighbours and shifts
pub record Embedding (g h : Grid) (f : ℕ → ℕ) : Type 0 where
  pub into : (i : ℕ) → i < size g → f i < size h
  pub inj : (i j : ℕ) → i < size g → j < size g → f i ≡ f j → i ≡ j
  pub adj : (i j : ℕ) → i < size g → j < size g → Adjacent g i j ↔ Adjacent h (f i) (f j)
  pub shift : (s : Shift) → (t : Shift) × Shifts g h f s t
  pub back : (t : Shift) → (s : Shift) × Shifts g h f s t

-- Q is the image of P, a set of cells of g
pub record Image (g : Grid) (f : ℕ → ℕ) (P Q : ℕ → Type 0) : Type 0 where
  pub below : (x : ℕ) → P x → x < size g
  pub to : (x : ℕ) → P x → Q (f x)
  pub from : (y : ℕ) → Q y → (x : ℕ) × P x × (f x ≡ y)
