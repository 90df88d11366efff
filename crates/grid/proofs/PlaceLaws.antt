-- Cells by their rows and columns: a cell is found again from its place, and neighbours are one row or one column apart.
-- Assumes nothing.
use Prim.Native.Nat.{ℕ, ◌+◌, ◌*◌, ◌/◌, ◌%◌, ◌<◌}
use native.Mathlib.Omega.{arith}
use native.Mathlib.Nat.{add-div_right, add-mod_right, suc-mul, div-add-mod'}
use mathlib.Core.Path.{◌≡◌, sym, ap, ◌∙◌}
use lib.Arith.{digits_div, digits_mod}
use Rattle.grid.specs.Grid.{Grid, size, row, col, Adjacent, Beside, above, below, before, behind}
use Rattle.grid.proofs.GridLaws.{beside, neighbour, on_grid, next_col, prev_col, width_pos, index, col_below}

-- row v, column u is one up, down, left or right of row y, column x
pub data NextTo (y x v u : ℕ) : Type 0 where
  up : v + 1 ≡ y → u ≡ x → NextTo y x v u
  down : v ≡ y + 1 → u ≡ x → NextTo y x v u
  left : v ≡ y → u + 1 ≡ x → NextTo y x v u
  right : v ≡ y → u ≡ x + 1 → NextTo y x v u

-- the cells i and j of g are next to each other
abbrev pub NextOn : Grid → ℕ → ℕ → Type 0
NextOn g i j = NextTo (row g i) (col g i) (row g j) (col g j)

-- the place of a cell that is given by its place
pub row_at : (g : Grid) (y : ℕ) {x : ℕ} → x < g.width → row g (y * g.width + x) ≡ y
unfolding row
row_at g y l = digits_div y l

pub col_at : (g : Grid) (y : ℕ) {x : ℕ} → x < g.width → col g (y * g.width + x) ≡ x
unfolding col
col_at g y l = digits_mod y l

module _ (g : Grid) where
  same_row : (i : ℕ) → i % g.width + 1 < g.width → row g (i + 1) ≡ row g i
  unfolding row
  same_row i h =
      let e : i + 1 ≡ i / g.width * g.width + (i % g.width + 1) = omega (arith, div-add-mod' i g.width) in
      ap (λ (k : ℕ). k / g.width) e ∙ digits_div (i / g.width) h

  Beside-next : (i j : ℕ) → i < size g → Beside g i j → NextOn g i j
  unfolding row col
  Beside-next i j l (above e) = up (rw (← e) (sym (add-div_right j (width_pos g l)))) (rw (← e) (sym (add-mod_right j g.width)))
  Beside-next i j l (below h e) = down (rw e (add-div_right i (width_pos g l))) (rw e (add-mod_right i g.width))
  Beside-next i j l (before h e) =
      let k = prev_col j g.width (width_pos g l) (rw e h) in
      left (rw (← e) (sym (same_row j k))) (rw (← e) (sym (next_col j g.width k)))
  Beside-next i j l (behind h e) = right (rw e (same_row i h)) (rw e (next_col i g.width h))

  -- neighbours are next to each other
  pub Adjacent-next : (i j : ℕ) → Adjacent g i j → NextOn g i j
  Adjacent-next i j e = Beside-next i j e.0 (beside g i e.1)

  some_col : (i : ℕ) → 0 < col g i → 0 < i % g.width
  unfolding col
  some_col i h = h

  more_col : (i : ℕ) → col g i + 1 < g.width → i % g.width + 1 < g.width
  unfolding col
  more_col i h = h

  lower : (a b c d : ℕ) → b + 1 ≡ a → d ≡ c → b * g.width + d + g.width ≡ a * g.width + c
  lower a b c d e z = rw (← e) (omega (arith, suc-mul b g.width))

  next_Beside : (i j : ℕ) → i < size g → j < size g → NextOn g i j → Beside g i j
  next_Beside i j li lj (up e d) = above (omega (arith, index g i, index g j, lower (row g i) (row g j) (col g i) (col g j) e d))
  next_Beside i j li lj (down e d) =
      let z : j ≡ i + g.width = omega (arith, index g i, index g j, lower (row g j) (row g i) (col g j) (col g i) (sym e) (sym d)) in
      below (omega arith) z
  next_Beside i j li lj (left e d) = before (some_col i (omega (arith, d))) (omega (arith, index g i, index g j, ap (λ (k : ℕ). k * g.width) e, d))
  next_Beside i j li lj (right e d) = behind (more_col i (omega (arith, d, col_below g lj))) (omega (arith, index g i, index g j, ap (λ (k : ℕ). k * g.width) e, d))

  -- cells next to each other are neighbours
  pub next_Adjacent : (i j : ℕ) → i < size g → j < size g → NextOn g i j → Adjacent g i j
  next_Adjacent i j li lj s = (li, neighbour g i (next_Beside i j li lj s))

-- a neighbour is on the grid
pub Adjacent-on : (g : Grid) (i j : ℕ) → Adjacent g i j → j < size g
Adjacent-on g i j e = on_grid g e.0 (beside g i e.1)
