-- Moves and neighbours: where the offsets of the four directions lead, and that no move leaves the grid.
-- Assumes nothing.
use Prim.Native.Nat.{ℕ, zero, suc, ◌+◌, ◌-◌, ◌*◌, ◌/◌, ◌%◌, ◌≤◌, ◌<◌}
use native.Mathlib.Omega.{arith}
use native.Mathlib.Nat.{suc-mul, mul-le-mul_right, mod-lt, div-lt_iff_lt-mul, div-add-mod'}
use native.Mathlib.Numerals.{add-one}
use mathlib.Core.Path.{◌≡◌, refl, sym, ap, ◌∙◌}
use mathlib.Core.Logic.{◌⊎◌, inl, inr}
use mathlib.Core.Bool.{Bool, true, false, cond}
use mathlib.Core.List.Memᴰ
use mathlib.Core.List.{List, [], ◌∷◌, Memᴰ}
use lib.Arith.{digits_lt, digits_mod}
use lib.Dec.{ltb}
use lib.IntN.{ℤ, pos, negsuc}
use lib.ListN.{get_or}
use mir.Syntax.{w32}
use mir.Val.{to_z, of_z}
use borrow.Author.Tests.{lt-ltb, le-ltb, ltb-true, ltb-false, le-leb, lt-leb}
use Rattle.std.specs.Prelude.{Option, Some, None, IfSome}
use Rattle.grid.specs.Grid.{Grid, size, col, only, up, down, left, right, neighbours, Adjacent}
use Rattle.grid.specs.declared.Grid.{Grid as Sides}
use Rattle.grid.specs.Side.{sized, moved_of, side_at, shifted_of, towards, side_of, beside_of, InGrid, InPlace}
use Rattle.grid.proofs.GridLaws.{width_pos, size_most, on_grid, beside}

-- the cells of a grid that is given by its height and width
pub area : (h w : ℕ) → h ≤ 32 → w ≤ 32 → h * w ≤ 1024
unfolding size
area h w = size_most (sized h w)

-- how many there are
pub sized-size : (h w : ℕ) → h * w ≡ size (sized h w)
unfolding size
sized-size h w = refl

-- the row and the column of a cell
pub row_of : (h w i : ℕ) → i < h * w → i / w < h
unfolding size
row_of h w i l = (div-lt_iff_lt-mul (width_pos (sized h w) l)).1 l

pub column_of : (h w i : ℕ) → i < h * w → i % w < w
unfolding size
column_of h w i l = mod-lt i (width_pos (sized h w) l)

-- a cell has a row and a column
pub in_place : {h w i : ℕ} → InGrid h w i → InPlace h w (i / w) (i % w)
unfolding size
in_place {h} {w} {i} p =
    record { tall = p.tall; wide = p.wide; row = row_of h w i p.within; column = column_of h w i p.within }

-- a grid with a cell has a column
pub some_wide : {h w i : ℕ} → InGrid h w i → 0 < w
some_wide p = omega (arith, (in_place p).column)

-- a cell has its place in an array of 1,024
pub cell_small : {h w i : ℕ} → InGrid h w i → i < 1024
cell_small {h} {w} p = omega (arith, area h w p.tall p.wide)

-- a cell of the grid that the code has
pub cell_of : (g : Sides) (i : ℕ) → i < g.height * g.width → InGrid g.height g.width i
cell_of g i h = record { tall = g.tall; wide = g.wide; within = h }

-- ---- moves

-- r is d steps on from a
abbrev pub Reaches : ℕ → ℤ → ℕ → Type 0
Reaches a (pos n) r = r ≡ a + n
Reaches a (negsuc n) r = r + suc n ≡ a

to_by : (t : Bool) (n l r : ℕ) → ltb n l ≡ t → cond t (Some n) None ≡ Some r → (r < l) × (r ≡ n)
to_by true n l r e f = let s : r ≡ n = cc in (omega (arith, ltb-true n l e), s)
to_by false n l r e f = let z : ◌≡◌ {A = ℕ} 0 1 = cc in absurd (omega arith)

to_back : (t : Bool) (a n l r : ℕ) → ltb n a ≡ t → cond t (cond (ltb (a - suc n) l) (Some (a - suc n)) None) None ≡ Some r → (r < l) × (r + suc n ≡ a)
to_back true a n l r e f =
    let q = to_by (ltb (a - suc n) l) (a - suc n) l r refl f in
    (q.0, omega (arith, q.1, ltb-true n a e))
to_back false a n l r e f = let z : ◌≡◌ {A = ℕ} 0 1 = cc in absurd (omega arith)

-- a move leads to the place that many steps on, below the limit
pub moved_to : (a : ℕ) (d : ℤ) (l r : ℕ) → moved_of a d l ≡ Some r → (r < l) × Reaches a d r
unfolding moved_of
moved_to a (pos n) l r e = to_by (ltb (a + n) l) (a + n) l r refl e
moved_to a (negsuc n) l r e = to_back (ltb n a) a n l r refl e

-- a place that many steps on, below the limit, is where the move leads
pub to_moved : (a : ℕ) (d : ℤ) (l r : ℕ) → r < l → Reaches a d r → moved_of a d l ≡ Some r
unfolding moved_of
to_moved a (pos n) l r h e = simp (lt-ltb (a + n) l (omega arith)) (ap Some (sym e))
to_moved a (negsuc n) l r h e =
    let q : a - suc n ≡ r = omega arith in
    simp (lt-ltb n a (omega arith), lt-ltb (a - suc n) l (omega arith)) (ap Some q)

-- the index of a cell is small
pub index_small : {h w : ℕ} (y x : ℕ) → h ≤ 32 → w ≤ 32 → y < h → x < w → (y * w < 1024) × (y * w + x < 1024)
index_small {h} {w} y x p q r s =
    let k : y * w + x < h * w = digits_lt r s in
    (omega (arith, area h w p q), omega (arith, area h w p q))

-- a shift by its two moves
module _ (h w y x : ℕ) (dy dx : ℤ) where
  pub both : (r c : ℕ) → Some r ≡ moved_of y dy h → Some c ≡ moved_of x dx w → Some (r * w + c) ≡ shifted_of h w y x dy dx
  unfolding shifted_of side_at
  both r c e f = rw (← e, ← f) refl

  pub off_column : (r : ℕ) → Some r ≡ moved_of y dy h → None ≡ moved_of x dx w → None ≡ shifted_of h w y x dy dx
  unfolding shifted_of side_at
  off_column r e f = rw (← e, ← f) refl

  pub off_row : None ≡ moved_of y dy h → None ≡ shifted_of h w y x dy dx
  unfolding shifted_of side_at
  off_row e = rw (← e) refl

-- ---- the four directions

-- the offsets, and one of them as it is read
abbrev pub offsets : List (List ℤ)
offsets = (negsuc 0 ∷ pos 0 ∷ []) ∷ (pos 1 ∷ pos 0 ∷ []) ∷ (pos 0 ∷ negsuc 0 ∷ []) ∷ (pos 0 ∷ pos 1 ∷ []) ∷ []

abbrev pub read : ℕ → ℕ → ℤ
read k j = to_z w32 (of_z w32 (get_or (get_or offsets k []) j (pos 0)))

-- what holds of the four directions
pub by_four : (P : ℕ → Type 0) → P 0 → P 1 → P 2 → P 3 → (k : ℕ) → k < 4 → P k
by_four P a b c d zero p = a
by_four P a b c d (suc zero) p = b
by_four P a b c d (suc (suc zero)) p = c
by_four P a b c d (suc (suc (suc zero))) p = d
by_four P a b c d (suc (suc (suc (suc k)))) p = absurd (omega arith)

module _ (h w : ℕ) where
  -- a shift by an offset leads to the neighbour in that direction
  abbrev Leads : ℕ → ℕ → ℕ → Type 0
  Leads y x k = shifted_of h w y x (read k 0) (read k 1) ≡ beside_of (sized h w) (y * w + x) k

  Leads-up : (y x : ℕ) → y < h → x < w → Leads y x 0
  unfolding shifted_of side_at moved_of beside_of side_of towards up only
  Leads-up zero x p q = simp (lt-leb w (0 * w + x) (omega arith))
  Leads-up (suc y) x p q =
      let e : suc y * w ≡ y * w + w = suc-mul y w in
      let s : suc y - 1 ≡ y = omega arith in
      simp (lt-ltb 0 (suc y) (omega arith), lt-ltb (suc y - 1) h (omega arith), lt-ltb (x + 0) w (omega arith), le-leb w (suc y * w + x) (omega arith))
      (ap Some (omega (arith, ap (λ (n : ℕ). n * w) s)))

  Leads-down : (y x : ℕ) → y < h → x < w → Leads y x 1
  unfolding shifted_of side_at moved_of beside_of side_of towards down only size
  Leads-down y x p q = go (ltb (y + 1) h) refl
    where
      next : (y + 1) * w ≡ y * w + w
      next = ap (λ (n : ℕ). n * w) (add-one y) ∙ suc-mul y w

      go : (t : Bool) → ltb (y + 1) h ≡ t → Leads y x 1
      go true t =
          let k : (y + 1) * w + x < h * w = digits_lt (ltb-true (y + 1) h t) q in
          simp (t, lt-ltb (x + 0) w (omega arith), lt-ltb (y * w + x + w) (h * w) (omega (arith, next)))
          (ap Some (omega (arith, next)))
      go false t = simp (t, le-ltb (y * w + x + w) (h * w) (omega (arith, next, mul-le-mul_right w (ltb-false (y + 1) h t))))

  Leads-left : (y x : ℕ) → y < h → x < w → Leads y x 2
  unfolding shifted_of side_at moved_of beside_of side_of towards left only col
  Leads-left y zero p q = simp (digits_mod y {m = w} {r = 0} q, lt-ltb (y + 0) h (omega arith))
  Leads-left y (suc x) p q =
      let e : y + 0 ≡ y = omega arith in
      simp (digits_mod y {m = w} {r = suc x} q, lt-ltb (y + 0) h (omega arith), lt-ltb 0 (suc x) (omega arith), lt-ltb (suc x - 1) w (omega arith))
      (ap Some (omega (arith, ap (λ (n : ℕ). n * w) e)))

  Leads-right : (y x : ℕ) → y < h → x < w → Leads y x 3
  unfolding shifted_of side_at moved_of beside_of side_of towards right only col
  Leads-right y x p q = go (ltb (x + 1) w) refl
    where
      same : (y + 0) * w ≡ y * w
      same = let e : y + 0 ≡ y = omega arith in ap (λ (n : ℕ). n * w) e

      go : (t : Bool) → ltb (x + 1) w ≡ t → Leads y x 3
      go true t = simp (digits_mod y {m = w} {r = x} q, t, lt-ltb (y + 0) h (omega arith)) (ap Some (omega (arith, same)))
      go false t = simp (digits_mod y {m = w} {r = x} q, t, lt-ltb (y + 0) h (omega arith))

  pub leads : (y x : ℕ) → y < h → x < w → (k : ℕ) → k < 4 → Leads y x k
  leads y x p q = by_four (Leads y x) (Leads-up y x p q) (Leads-down y x p q) (Leads-left y x p q) (Leads-right y x p q)

-- a cell's column is what is left of it behind its row
pub row_before : (w i y : ℕ) → y ≡ i / w → y * w ≤ i
row_before w i y e = rw e (omega (arith, div-add-mod' i w))

pub column_left : (w i y : ℕ) → y ≡ i / w → i - y * w ≡ i % w
column_left w i y e = rw e (omega (arith, div-add-mod' i w))

-- a shift from a cell's row and column by an offset leads to its neighbour in that direction
pub leads_from : (h w i y x : ℕ) → i < h * w → y ≡ i / w → x ≡ i % w → (k : ℕ) → k < 4 → shifted_of h w y x (read k 0) (read k 1) ≡ beside_of (sized h w) i k
leads_from h w i y x l e f k four =
    let back : i / w * w + i % w ≡ i = div-add-mod' i w in
    rw (e, f) (rw back at (leads h w (i / w) (i % w) (row_of h w i l) (column_of h w i l) k four))

-- ---- a neighbour as an answer

only_one : (b : Bool) (i : ℕ) → (only b i ≡ []) ⊎ ((j : ℕ) × (only b i ≡ j ∷ []))
unfolding only
only_one true i = inr (i, refl)
only_one false i = inl refl

-- in a direction there is one neighbour or none
towards_one : (g : Grid) (i k : ℕ) → (towards g i k ≡ []) ⊎ ((j : ℕ) × (towards g i k ≡ j ∷ []))
unfolding towards up down left right
towards_one g i zero = only_one _ _
towards_one g i (suc zero) = only_one _ _
towards_one g i (suc (suc zero)) = only_one _ _
towards_one g i (suc (suc (suc k))) = only_one _ _

-- the answer names the one that there is
pub beside_at : (g : Grid) (i k j : ℕ) → Some j ≡ beside_of g i k → towards g i k ≡ j ∷ []
unfolding beside_of side_of
beside_at g i k j e = go (towards_one g i k)
  where
    go : (towards g i k ≡ []) ⊎ ((n : ℕ) × (towards g i k ≡ n ∷ [])) → towards g i k ≡ j ∷ []
    go (inl f) = let q : Some j ≡ None = rw f at e in let z : ◌≡◌ {A = ℕ} 0 1 = cc in absurd (omega arith)
    go (inr (n, f)) = let q : Some j ≡ Some n = rw f at e in let s : j ≡ n = cc in rw s f

-- the answer says that there is none
pub beside_off : (g : Grid) (i k : ℕ) → None ≡ beside_of g i k → towards g i k ≡ []
unfolding beside_of side_of
beside_off g i k e = go (towards_one g i k)
  where
    go : (towards g i k ≡ []) ⊎ ((n : ℕ) × (towards g i k ≡ n ∷ [])) → towards g i k ≡ []
    go (inl f) = f
    go (inr (n, f)) = let q : None ≡ Some n = rw f at e in let z : ◌≡◌ {A = ℕ} 0 1 = cc in absurd (omega arith)

-- a direction's neighbour is one of the neighbours
pub towards-mem : (g : Grid) (i k : ℕ) {j : ℕ} → Memᴰ j (towards g i k) → Memᴰ j (neighbours g i)
unfolding towards neighbours
towards-mem g i zero m = Memᴰ.append_left _ m
towards-mem g i (suc zero) m = Memᴰ.append_right (up g i) (Memᴰ.append_left _ m)
towards-mem g i (suc (suc zero)) m = Memᴰ.append_right (up g i) (Memᴰ.append_right (down g i) (Memᴰ.append_left _ m))
towards-mem g i (suc (suc (suc k))) m = Memᴰ.append_right (up g i) (Memᴰ.append_right (down g i) (Memᴰ.append_right (left g i) m))

-- the neighbour that an answer names is beside the cell, and on the grid
pub beside_Adjacent : (g : Grid) (i k j : ℕ) → i < size g → Some j ≡ beside_of g i k → Adjacent g i j
beside_Adjacent g i k j l e = (l, towards-mem g i k (rw (beside_at g i k j e) (Memᴰ.head refl)))

pub beside_in : (g : Grid) (i k j : ℕ) → i < size g → Some j ≡ beside_of g i k → j < size g
beside_in g i k j l e = on_grid g l (beside g i (beside_Adjacent g i k j l e).1)

-- so is the cell that a shift by an offset leads to, and it has its place in an array of 1,024
beside_inside : (h w i k : ℕ) → i < h * w → (r : Option ℕ) → r ≡ beside_of (sized h w) i k → IfSome r (λ j. j < h * w)
unfolding size
beside_inside h w i k l (Some j) e = beside_in (sized h w) i k j l e
beside_inside h w i k l None e = tt

module _ (h w i y x : ℕ) (l : i < h * w) (e : y ≡ i / w) (f : x ≡ i % w) (k : ℕ) (four : k < 4) (r : Option ℕ) (to : r ≡ shifted_of h w y x (read k 0) (read k 1)) where
  pub leads_in : IfSome r (λ j. j < h * w)
  leads_in = beside_inside h w i k l r (to ∙ leads_from h w i y x l e f k four)

  pub leads_small : h ≤ 32 → w ≤ 32 → IfSome r (λ j. j < 1024)
  leads_small p q = few r leads_in
    where
      few : (s : Option ℕ) → IfSome s (λ j. j < h * w) → IfSome s (λ j. j < 1024)
      few (Some j) d = omega (arith, d, area h w p q)
      few None d = tt
