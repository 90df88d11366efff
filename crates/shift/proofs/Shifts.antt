-- A block's cells gathered in two arrays, and the shift test on them.
-- Assumes nothing.
use Prim.Native.Nat.{ℕ, suc, ◌+◌, ◌*◌, ◌/◌, ◌%◌, ◌≤◌, ◌<◌}
use native.Mathlib.Omega.{arith}
use native.Mathlib.Nat.{mod-lt, div-lt_iff_lt-mul}
use native.Mathlib.Numerals.{add-one}
use mathlib.Core.Path.{◌≡◌, refl, sym, ap, ◌∙◌}
use mathlib.Core.Bool.{Bool}
use mathlib.Core.List.{List, [], ◌∷◌, ◌++◌, map, map-append, append-nil, append_assoc, Memᴰ}
use lib.Arith.{digits_lt}
use lib.IntN.{ℤ}
use lib.ListN.{length, get_or, set, drop, length-append, length-map, drop_of_length-le}
use lib.Seq.{drop-cons, set_at}
use Rattle.std.specs.Prelude.{zip}
use Rattle.std.proofs.lemmas.Grind.{get_or_default_zero}
use Rattle.std.proofs.lemmas.Slice.Zip.{length-zip, get_or-zip}
use Rattle.grid.specs.Lists.{all, upto, range, member}
use Rattle.grid.specs.Grid.{Grid, size, row, col, cells_of}
use Rattle.grid.specs.Side.{sized, moved_of, side_at, shifted_of, landing}
use Rattle.std.specs.Prelude.{Option, Some, None}
use Rattle.grid.proofs.ListLaws.{at_mem, upto-mem, filter-length, filter-mem, mem-filter, length-range, mem-member, member-mem, map_at}
use Rattle.grid.proofs.GridLaws.{width_pos, in_cells}
use Rattle.grid.proofs.SideLaws.{area, moved_to}
use Rattle.grid.proofs.ShiftLaws.{landing_at, landing-any, side_in}
use Rattle.grid.proofs.AppendLaws.{same_test, all_agree}
use Rattle.groups.specs.Rules.{fits}
use Rattle.kinds.specs.Kinds.{View, in_reach, reach}
use Rattle.kinds.specs.Inside.{of_block}
use Rattle.shift.specs.Shift.{block_in, BlockPlaces, Places, lands_in, all_land, fits_at}

-- ---- the cells of a block in two arrays

-- the rows and the columns of the cells b stand in the first places of two arrays, and nothing behind them changed
pub record Gathered (w : ℕ) (b rows columns rows' columns' : List ℕ) (count : ℕ) : Type 0 where
  pub many : count ≡ length b
  pub rows_are : rows' ≡ map (λ i. i / w) b ++ drop count rows
  pub columns_are : columns' ≡ map (λ i. i % w) b ++ drop count columns

-- one more entry
entry : (F : ℕ → ℕ) (b : List ℕ) (i k : ℕ) (before : List ℕ) {after : List ℕ} → k ≡ length b → after ≡ map F b ++ drop k before → k < length before
    → set after k (F i) ≡ map F (b ++ (i ∷ [])) ++ drop (k + 1) before
entry F b i k before many e h = rw (e, drop-cons before k 0 h) (set_at (map F b) (get_or before k 0) (drop (suc k) before) (F i) k (length-map b F ∙ sym many) ∙ later)
  where
    later : map F b ++ (F i ∷ drop (suc k) before) ≡ map F (b ++ (i ∷ [])) ++ drop (k + 1) before
    later = rw (map-append, add-one k) (sym (append_assoc (map F b) (F i ∷ []) (drop (suc k) before)))

-- a block has no more cells than an array has places
pub block_small : (kinds owners : List ℕ) (f h w : ℕ) → h ≤ 32 → w ≤ 32 → length (block_in kinds owners (h * w) f) ≤ 1024
unfolding block_in upto
block_small kinds owners f h w tall wide = omega (arith, filter-length (of_block kinds owners f) (range 0 (h * w)), length-range 0 (h * w), area h w tall wide)

-- one more cell is gathered
pub Gathered-more : (w : ℕ) (b : List ℕ) (i : ℕ) {r c r' c' : List ℕ} {k : ℕ} → Gathered w b r c r' c' k → k < length r → k < length c
    → Gathered w (b ++ (i ∷ [])) r c (set r' k (i / w)) (set c' k (i % w)) (k + 1)
Gathered-more w b i {r} {c} {k = k} q p s = record {
  many = simp length-append (omega (arith, q.many));
  rows_are = entry (λ j. j / w) b i k r q.many q.rows_are p;
  columns_are = entry (λ j. j % w) b i k c q.many q.columns_are s;
}

-- nothing is gathered yet
pub Gathered-none : (w : ℕ) (r c : List ℕ) → Gathered w [] r c r c 0
Gathered-none w r c = record { many = refl; rows_are = refl; columns_are = refl }

-- where nothing is left of the two lists, they are the rows and the columns
pub gathered_all : {w : ℕ} {b r c r' c' : List ℕ} {k : ℕ} → Gathered w b r c r' c' k → length r ≤ k → length c ≤ k → BlockPlaces w b r' c'
gathered_all {w} {b} {r} {c} {k = k} q no_rows no_columns = record {
  rows_are = q.rows_are ∙ rw (drop_of_length-le r {i = k} no_rows) (append-nil (map (λ j. j / w) b));
  columns_are = q.columns_are ∙ rw (drop_of_length-le c {i = k} no_columns) (append-nil (map (λ j. j % w) b));
}

-- they are rows and columns of the grid
block_places : (h w : ℕ) {b rows columns : List ℕ} → ((i : ℕ) → Memᴰ i b → i < h * w) → BlockPlaces w b rows columns → Places h w rows columns
unfolding size
block_places h w {b} {rows} {columns} inside q = record {
  both = ap length q.columns_are ∙ length-map b (λ i. i % w) ∙ sym long;
  row = λ k l. let m = at k l in rw (q.rows_are, map_at (λ i. i / w) b k m) ((div-lt_iff_lt-mul (some k m)).1 (cell k m));
  column = λ k l. let m = at k l in rw (q.columns_are, map_at (λ i. i % w) b k m) (mod-lt (get_or b k 0) (some k m));
}
  where
    long : length rows ≡ length b
    long = ap length q.rows_are ∙ length-map b (λ i. i / w)

    at : (k : ℕ) → k < length rows → k < length b
    at k l = omega (arith, long)

    cell : (k : ℕ) → k < length b → get_or b k 0 < h * w
    cell k l = inside (get_or b k 0) (at_mem b k l)

    some : (k : ℕ) → k < length b → 0 < w
    some k l = width_pos (sized h w) (cell k l)

-- a row and the column beside it are those of a cell
pub place_in : {h w : ℕ} {rows columns : List ℕ} → Places h w rows columns → (y x k : ℕ) → k < length (zip rows columns) → (y, x) ≡ get_or (zip rows columns) k (y, x) → (y < h) × (x < w)
place_in {rows = rows} {columns} p y x k l e =
    let in_rows : k < length rows = omega (arith, length-zip rows columns) in
    let in_columns : k < length columns = omega (arith, p.both) in
    let both = e ∙ get_or-zip rows columns k (y, x) in_rows in_columns in
    let is_y : y ≡ get_or rows k 0 = ap (λ (z : ℕ × ℕ). z.0) both ∙ get_or_default_zero rows k y in_rows in
    let is_x : x ≡ get_or columns k 0 = ap (λ (z : ℕ × ℕ). z.1) both ∙ get_or_default_zero columns k x in_columns in
    (rw is_y (p.row k in_rows), rw is_x (p.column k in_rows))

-- a test on two lists beside one another that come from one
all_beside : (p : ℕ × ℕ → Bool) (F G : ℕ → ℕ) (l : List ℕ) → all p (zip (map F l) (map G l)) ≡ all (λ i. p (F i, G i)) l
all_beside p F G [] = refl
all_beside p F G (x ∷ l) = rw (all_beside p F G l) refl

-- ---- the shift test

-- at the cells of the grid the test says which of them the list r has
abbrev pub Tells : Grid → (ℕ → Bool) → List ℕ → Type 0
Tells g test r = (d : ℕ) → d < size g → test d ≡ member d r

module _ (g : Grid) (b r : List ℕ) (f : ℕ) {rows columns : List ℕ} (test : ℕ → Bool)
    (q : BlockPlaces g.width b rows columns) (inside : (d : ℕ) → Memᴰ d r → d < size g) (tells : Tells g test r) where
  -- a move that leads into the list leads to a cell that passes
  lands_in_lem : (t c : ℕ) → lands_in test (landing g f t c) ≡ side_in (landing g f t c) r
  unfolding lands_in side_in
  lands_in_lem t c = go (landing g f t c) refl
    where
      go : (s : Option ℕ) → landing g f t c ≡ s → lands_in test s ≡ side_in s r
      go (Some d) e = tells d ((landing_at g f t c d).0 e).inside
      go None e = refl

  -- the shift that takes f to t, by offsets and by sums
  pub fits_test : (t : ℕ) → fits_at g.height g.width rows columns test (row g f) (col g f) t ≡ fits g b r f t
  unfolding fits_at all_land fits row col
  fits_test t =
      rw (q.rows_are, q.columns_are)
      (all_beside _ (λ i. i / g.width) (λ i. i % g.width) b ∙ all_agree _ _ b (λ c _. lands_in_lem t c ∙ sym (landing-any g f t c r inside)))

-- ---- the reach of a block

module _ (v : View) (e : ℕ) where
  pub reach_inside : (d : ℕ) → Memᴰ d (reach v e) → d < size v.grid
  unfolding reach cells_of
  reach_inside d m = upto-mem (size v.grid) (filter-mem (in_reach v e) (upto (size v.grid)) m).0

  pub reach-Tells : Tells v.grid (in_reach v e) (reach v e)
  unfolding reach
  reach-Tells d h = same_test _ _
      (λ a. mem-member d _ (mem-filter (in_reach v e) (cells_of v.grid) (in_cells v.grid d h) a))
      (λ a. (filter-mem (in_reach v e) (cells_of v.grid) (member-mem d _ a)).1)

-- a shift leads to a cell of the grid
pub shifted_inside : (h w y x : ℕ) (dy dx : ℤ) (d : ℕ) → shifted_of h w y x dy dx ≡ Some d → d < h * w
unfolding shifted_of side_at
shifted_inside h w y x dy dx d e = go (moved_of y dy h) (moved_of x dx w) refl refl e
  where
    go : (s t : Option ℕ) → moved_of y dy h ≡ s → moved_of x dx w ≡ t → side_at w s t ≡ Some d → d < h * w
    go (Some r) (Some c) p q z =
        let k : d ≡ r * w + c = cc in
        rw k (digits_lt (moved_to y dy h r p).0 (moved_to x dx w c q).0)
    go (Some r) None p q z = let n : ◌≡◌ {A = ℕ} 0 1 = cc in absurd (omega arith)
    go None t p q z = let n : ◌≡◌ {A = ℕ} 0 1 = cc in absurd (omega arith)

-- the cells of a block that were gathered lie on the grid
pub gathered_inside : (h w : ℕ) (kinds owners : List ℕ) (f : ℕ) {rows columns : List ℕ} → BlockPlaces w (block_in kinds owners (h * w) f) rows columns → Places h w rows columns
unfolding block_in
gathered_inside h w kinds owners f q = block_places h w (λ i m. upto-mem (h * w) (filter-mem (of_block kinds owners f) (upto (h * w)) m).0) q
