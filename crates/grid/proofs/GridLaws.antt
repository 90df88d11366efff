-- Neighbours: what the list says, and that being neighbours is mutual and stays on the grid.
-- Assumes nothing.
use lib.ListN.{length}
use native.Mathlib.Decide.{dec_lt, map_dec}
use mathlib.Core.Bool.{So, Bool, true, false}
use Prim.Native.Nat.{ℕ, ◌+◌, ◌-◌, ◌*◌, ◌/◌, ◌%◌, ◌≤◌, ◌<◌}
use native.Mathlib.Nat.{div-add-mod', mod-lt, div-lt_iff_lt-mul, mul-le-mul, mul-le-mul_right, mod-eq_of_lt, suc-mul, mod-add-mod, mod_self, mod-le, eq-zero-or-pos, mul-zero}
use native.Mathlib.Omega.{arith}
use mathlib.Core.Logic.{◌⊎◌, inl, inr}
use mathlib.Core.Path.{◌≡◌, refl, sym, ap, ◌∙◌}
use mathlib.Core.List.Memᴰ
use mathlib.Core.List.{List, ◌++◌, Memᴰ}
use lib.Arith.{digits_lt}
use lib.Dec.{leb, ltb}
use borrow.Author.Tests.{leb-true, ltb-true, ltb-false, le-leb, lt-ltb}
use Rattle.grid.specs.Lists.{Distinct, upto, member}
use Rattle.grid.proofs.ListLaws.{length-range, member-mem, mem-member, any-mem, mem-any, mem-upto, Dec-So, split}
use Rattle.grid.specs.Grid.{cells_of, touches, Adjacent, Grid, size, row, col, only, up, down, left, right, neighbours, Beside, above, below, before, behind}
use Rattle.grid.proofs.Count.{Dec-and}

only-mem : {b : Bool} {i j : ℕ} → Memᴰ j (only b i) → (b ≡ true) × (j ≡ i)
unfolding only
only-mem {b = true} m = (refl, Memᴰ.eq_of_singleton m)
only-mem {b = false} m = absurd (Memᴰ.not-nil m)

mem-only : {b : Bool} {i j : ℕ} → b ≡ true → j ≡ i → Memᴰ j (only b i)
unfolding only
mem-only h e = rw h (Memᴰ.head e)

module _ (g : Grid) (i : ℕ) where
  -- the list has the neighbours
  pub beside : {j : ℕ} → Memᴰ j (neighbours g i) → Beside g i j
  unfolding neighbours up down left right col
  beside {j} m = first (Memᴰ.append_cases (up g i) m)
    where
      third : Memᴰ j (left g i) ⊎ Memᴰ j (right g i) → Beside g i j
      third (inl k) =
          let r = only-mem k in
          let h : 0 < i % g.width = ltb-true _ _ r.0 in
          before h (omega (arith, mod-le i g.width))
      third (inr k) = let r = only-mem k in behind (ltb-true _ _ r.0) r.1

      second : Memᴰ j (down g i) ⊎ Memᴰ j (left g i ++ right g i) → Beside g i j
      second (inl k) = let r = only-mem k in below (ltb-true _ _ r.0) r.1
      second (inr k) = third (Memᴰ.append_cases (left g i) k)

      first : Memᴰ j (up g i) ⊎ Memᴰ j (down g i ++ (left g i ++ right g i)) → Beside g i j
      first (inl k) =
          let r = only-mem k in
          let h : g.width ≤ i = leb-true _ _ r.0 in
          above (omega arith)
      first (inr k) = second (Memᴰ.append_cases (down g i) k)

  pub neighbour : {j : ℕ} → Beside g i j → Memᴰ j (neighbours g i)
  unfolding neighbours up down left right col
  neighbour (above e) = Memᴰ.append_left _ (mem-only (le-leb g.width i (omega arith)) (omega arith))
  neighbour (below h e) = Memᴰ.append_right (up g i) (Memᴰ.append_left _ (mem-only (lt-ltb _ _ h) e))
  neighbour (before h e) = Memᴰ.append_right (up g i) (Memᴰ.append_right (down g i) (Memᴰ.append_left _ (mem-only (lt-ltb _ _ h) (omega arith))))
  neighbour (behind h e) = Memᴰ.append_right (up g i) (Memᴰ.append_right (down g i) (Memᴰ.append_right (left g i) (mem-only (lt-ltb _ _ h) e)))

-- one column further, where the row goes on
pub next_col : (i w : ℕ) → i % w + 1 < w → (i + 1) % w ≡ i % w + 1
next_col i w h = sym (mod-add-mod i w 1) ∙ mod-eq_of_lt h

-- a cell with one in its row before it
pub prev_col : (j w : ℕ) → 0 < w → 0 < (j + 1) % w → j % w + 1 < w
prev_col j w p h = go (split (ltb (j % w + 1) w))
  where
    go : (ltb (j % w + 1) w ≡ true) ⊎ (ltb (j % w + 1) w ≡ false) → j % w + 1 < w
    go (inl t) = ltb-true _ _ t
    go (inr f) =
        let e : j % w + 1 ≡ w = omega (arith, ltb-false (j % w + 1) w f, mod-lt j p) in
        absurd (omega (arith, sym (mod-add-mod j w 1) ∙ ap (λ (x : ℕ). x % w) e ∙ mod_self w))

-- a neighbour is on the grid
pub on_grid : (g : Grid) {i j : ℕ} → i < size g → Beside g i j → j < size g
unfolding size
on_grid g l (above e) = omega arith
on_grid g l (below h e) = omega arith
on_grid g l (before h e) = omega arith
on_grid g {i} l (behind h e) =
    let q : i / g.width < g.height = (div-lt_iff_lt-mul {k = g.width} (omega arith)).1 l in
    omega (arith, div-add-mod' i g.width, suc-mul (i / g.width) g.width, mul-le-mul_right g.width q)

-- a grid with a cell has a column
pub width_pos : (g : Grid) {i : ℕ} → i < size g → 0 < g.width
unfolding size
width_pos g {i} l = go (eq-zero-or-pos g.width)
  where
    go : (g.width ≡ 0) ⊎ (0 < g.width) → 0 < g.width
    go (inl e) = absurd (omega (arith, ap (λ (w : ℕ). g.height * w) e ∙ mul-zero g.height))
    go (inr h) = h

-- a cell has a row and a column of the grid, and they have a cell
pub row_below : (g : Grid) {i : ℕ} → i < size g → row g i < g.height
unfolding row size
row_below g h = (div-lt_iff_lt-mul {k = g.width} (width_pos g h)).1 h

pub col_below : (g : Grid) {i : ℕ} → i < size g → col g i < g.width
unfolding col
col_below g {i} h = mod-lt i (width_pos g h)

pub place_below : (g : Grid) {y x : ℕ} → y < g.height → x < g.width → y * g.width + x < size g
unfolding size
place_below g hy hx = digits_lt hy hx

-- a grid of at most 32 by 32 has at most 1,024 cells
pub size_most : (g : Grid) → g.height ≤ 32 → g.width ≤ 32 → size g ≤ 1024
unfolding size
size_most g h w = mul-le-mul h w

-- being neighbours is mutual
pub Beside-sym : (g : Grid) {i j : ℕ} → i < size g → Beside g i j → Beside g j i
Beside-sym g l (above e) = below (omega arith) (omega arith)
Beside-sym g l (below h e) = above (omega arith)
Beside-sym g {i} {j} l (before h e) = behind (prev_col j g.width (width_pos g l) (rw e h)) (omega arith)
Beside-sym g {i} l (behind h e) = before (rw e (omega (arith, next_col i g.width h))) (omega arith)

-- a cell is its row and its column
pub index : (g : Grid) (i : ℕ) → row g i * g.width + col g i ≡ i
unfolding row col
index g i = div-add-mod' i g.width

-- one row and one column, one cell
pub one_place : (g : Grid) (i j : ℕ) → row g i ≡ row g j → col g i ≡ col g j → i ≡ j
one_place g i j r c = sym (index g i) ∙ rw (r, c) (index g j)

-- neighbours are mutual
pub adj_sym : (g : Grid) (i j : ℕ) → Adjacent g i j → Adjacent g j i
adj_sym g i j (l, m) = (on_grid g l (beside g i m), neighbour g j (Beside-sym g l (beside g i m)))

Distinct-only : (b : Bool) (x : ℕ) (l : List ℕ) → Distinct l → (b ≡ true → ¬ Memᴰ x l) → Distinct (only b x ++ l)
unfolding only
Distinct-only true x l d n = (n refl, d)
Distinct-only false x l d n = d

Distinct-last : (b : Bool) (x : ℕ) → Distinct (only b x)
unfolding only
Distinct-last true x = (Memᴰ.not-nil, tt)
Distinct-last false x = tt

module _ (g : Grid) (i : ℕ) (l : i < size g) where
  -- no neighbour twice
  pub apart : Distinct (neighbours g i)
  unfolding neighbours up down left right col
  apart = Distinct-only _ _ _ (Distinct-only _ _ _ (Distinct-only _ _ _ (Distinct-last _ _)
      (λ h m. let r = only-mem m in omega (arith, r.1)))
      (λ h m. two h (Memᴰ.append_cases _ m)))
      (λ h m. one h (Memᴰ.append_cases _ m))
    where
      W : ℕ
      W = g.width

      two : ltb (i + W) (size g) ≡ true → Memᴰ (i + W) (only (ltb 0 (i % W)) (i - 1)) ⊎ Memᴰ (i + W) (only (ltb (i % W + 1) W) (i + 1)) → ⊥
      two h (inl m) = let r = only-mem m in omega (arith, r.1, width_pos g l)
      two h (inr m) = let r = only-mem m in let q : i % W + 1 < W = ltb-true _ _ r.0 in omega (arith, r.1)

      one : leb W i ≡ true → Memᴰ (i - W) (only (ltb (i + W) (size g)) (i + W)) ⊎ Memᴰ (i - W) (only (ltb 0 (i % W)) (i - 1) ++ only (ltb (i % W + 1) W) (i + 1)) → ⊥
      one h (inl m) = let r = only-mem m in omega (arith, r.1, width_pos g l)
      one h (inr m) = rest (Memᴰ.append_cases _ m)
        where
          rest : Memᴰ (i - W) (only (ltb 0 (i % W)) (i - 1)) ⊎ Memᴰ (i - W) (only (ltb (i % W + 1) W) (i + 1)) → ⊥
          rest (inl k) = let r = only-mem k in let q : 0 < i % W = ltb-true _ _ r.0 in let u : W ≤ i = leb-true _ _ h in omega (arith, r.1, q, u, mod-lt i (width_pos g l), mod-le i W, width_pos g l)
          rest (inr k) = let r = only-mem k in omega (arith, r.1, width_pos g l)

-- it is decided whether two cells are neighbours
pub Dec-Adjacent : (g : Grid) (i j : ℕ) → Dec (Adjacent g i j)
Dec-Adjacent g i j = Dec-and (dec_lt i (size g)) (map_dec (member-mem j (neighbours g i)) (mem-member j (neighbours g i)) (Dec-So (member j (neighbours g i))))

-- a cell touches the set exactly when it has a neighbour in it
pub Adjacent-touches : (g : Grid) (s : List ℕ) (i j : ℕ) → Adjacent g i j → Memᴰ j s → So (touches g s i)
unfolding touches
Adjacent-touches g s i j e m = mem-any (λ k. member k s) (neighbours g i) e.1 (mem-member j s m)

pub touches-Adjacent : (g : Grid) (s : List ℕ) (i : ℕ) → i < size g → So (touches g s i) → (j : ℕ) × Adjacent g i j × Memᴰ j s
unfolding touches
touches-Adjacent g s i l h = let r = any-mem (λ k. member k s) (neighbours g i) h in (r.0, (l, r.1), member-mem r.0 s r.2)

-- every cell of the grid is listed
pub in_cells : (g : Grid) (i : ℕ) → i < size g → Memᴰ i (cells_of g)
unfolding cells_of
in_cells g i l = mem-upto (size g) l

-- there are as many cells as the size says
pub cells_length : (g : Grid) → length (cells_of g) ≡ size g
unfolding cells_of upto
cells_length g = length-range 0 (size g)
