-- The standing decisions: each call keeps them standing; they have distinct indexes on the grid, and the cells show them.
-- Assumes nothing.
use mathlib.Core.Path.{ap₂, ◌≡◌, refl, sym, ap, ◌∙◌, subst}
use native.Mathlib.Decide.{dec_lt, dec_le}
use Prim.Native.Nat.{ℕ, zero, suc, ◌+◌, ◌≤◌, ◌<◌}
use native.Mathlib.Omega.{arith}
use mathlib.Core.Logic.{◌⊎◌, inl, inr, ◌↔◌}
use mathlib.Core.Bool.{Bool, true, false, So, cond, ◌&&◌, not, false≢true}
use mathlib.Core.List.Memᴰ
use mathlib.Core.List.{List, [], ◌∷◌, ◌++◌, map, map-append, Memᴰ}
use lib.Dec.{eqb, leb, ltb}
use lib.ListN.{get_or, length}
use borrow.Author.Tests.{lt-ltb, le-leb, ltb-true, leb-true, not-true, eqb-true, eq-eqb}
use Rattle.grid.specs.Lists.{Distinct, range, upto, init}
use Rattle.grid.proofs.ListLaws.{and-true, Dec-So, So-false, mem-any, Distinct-snoc, length-map-upto, map-upto_at, map-upto_past}
use Rattle.grid.specs.Grid.{Grid, size, cells_of}
use Rattle.grid.specs.Cells.{Literal, ValidCells}
use Rattle.board.specs.Board.{SameCells, SameDecisions, value_at, cells_after, Call, decide, undo, find, decided, after, after_all, asks, how_often}
use Rattle.grid.proofs.AppendLaws.{init_more}
use Rattle.board.proofs.HintLaws.{calls_append, often_append}

-- decisions one after the other, each on an undecided cell of the grid
pub data Standing (g : Grid) : List Literal → Type 0 where
  none : Standing g []
  more : {ds : List Literal} {i v : ℕ} → Standing g ds → i < size g → v ≤ 1 → decided ds i ≡ false → Standing g (ds ++ ((i, v) ∷ []))

-- a call keeps the decisions standing
pub after-Standing : (g : Grid) (c : Call) {ds : List Literal} → Standing g ds → Standing g (after g c ds)
unfolding after init
after-Standing g (decide i v) {ds} s = go (ltb i (size g) && leb v 1 && not (decided ds i)) refl
  where
    go : (t : Bool) → (ltb i (size g) && leb v 1 && not (decided ds i)) ≡ t → Standing g (cond t (ds ++ ((i, v) ∷ [])) ds)
    go true e =
        let a = and-true (ltb i (size g) && leb v 1) (not (decided ds i)) e in
        let b = and-true (ltb i (size g)) (leb v 1) a.0 in
        more s (ltb-true i (size g) b.0) (leb-true v 1 b.1) (not-true (decided ds i) a.1)
    go false e = s
after-Standing g undo none = none
after-Standing g undo (more {ds} {i} {v} s h k d) = rw (init_more ds (i, v)) s
after-Standing g (find q k) s = s

all_Standing : (g : Grid) (cs : List Call) {ds : List Literal} → Standing g ds → Standing g (after_all g cs ds)
unfolding after_all
all_Standing g [] s = s
all_Standing g (c ∷ cs) s = all_Standing g cs (after-Standing g c s)

-- what a list of calls leaves stands
pub calls_Standing : (g : Grid) (cs : List Call) → Standing g (after_all g cs [])
calls_Standing g cs = all_Standing g cs none

-- and what stands is left by some list of calls without an accepted find
pub Standing-calls : (g : Grid) {ds : List Literal} → Standing g ds → (cs : List Call) × (after_all g cs [] ≡ ds) × ((q : ℕ) → how_often g q cs ≡ 0)
unfolding after_all after how_often asks
Standing-calls g none = ([], refl, λ q. refl)
Standing-calls g (more {ds} {i} {v} s h k d) =
    let r = Standing-calls g s in (
      r.0 ++ (decide i v ∷ []),
      calls_append g r.0 (decide i v ∷ []) [] ∙ rw (r.1, lt-ltb i (size g) h, le-leb v 1 k, d) refl,
      λ q. often_append g q r.0 (decide i v ∷ []) ∙ rw (r.2 q) refl,
    )

-- the index of a decision
abbrev pub index : Literal → ℕ
index d = d.0

-- on the grid, with value 0 or 1
pub Standing-low : {g : Grid} {ds : List Literal} → Standing g ds → (d : Literal) → Memᴰ d ds → (d.0 < size g) × (d.1 ≤ 1)
Standing-low none d m = absurd (Memᴰ.not-nil m)
Standing-low {g} (more {ds} {i} {v} s h k n) d m = go (Memᴰ.append_cases ds m) (λ q. Standing-low s d q)
  where
    go : Memᴰ d ds ⊎ Memᴰ d ((i, v) ∷ []) → (Memᴰ d ds → (d.0 < size g) × (d.1 ≤ 1)) → (d.0 < size g) × (d.1 ≤ 1)
    go (inl q) ih = ih q
    go (inr q) ih = let e = Memᴰ.eq_of_singleton q in (omega (arith, h, ap (λ z. z.0) e), omega (arith, k, ap (λ z. z.1) e))

-- no two standing decisions have one index
pub Standing-Distinct : {g : Grid} {ds : List Literal} → Standing g ds → Distinct (map index ds)
unfolding decided
Standing-Distinct none = tt
Standing-Distinct (more {ds} {i} {v} s h k n) =
    rw (map-append index ds ((i, v) ∷ [])) (Distinct-snoc (map index ds) i (Standing-Distinct s) (λ m.
    let r = Memᴰ.of_map index ds m in
    false≢true (sym n ∙ mem-any (λ (d : Literal). eqb d.0 i) ds r.1 (eq-eqb r.0.0 i r.2))))

-- the value at an index is that of its decision
value_mem : (ds : List Literal) (i : ℕ) → value_at ds i ≤ 1 → Memᴰ (i, value_at ds i) ds
unfolding value_at
value_mem [] i h = absurd (omega arith)
value_mem (d ∷ ds) i h = go (Dec-So (eqb d.0 i)) h (λ k. value_mem ds i k)
  where
    go : Dec (So (eqb d.0 i)) → cond (eqb d.0 i) d.1 (value_at ds i) ≤ 1 → (value_at ds i ≤ 1 → Memᴰ (i, value_at ds i) ds)
        → Memᴰ (i, cond (eqb d.0 i) d.1 (value_at ds i)) (d ∷ ds)
    go (yes e) k ih = rw e (Memᴰ.head (ap (λ z. (z, d.1)) (sym (eqb-true d.0 i e))))
    go (no e) k ih = rw (So-false (eqb d.0 i) e) (Memᴰ.tail (ih (rw (So-false (eqb d.0 i) e) at k)))

mem_value : (ds : List Literal) → Distinct (map index ds) → (i v : ℕ) → Memᴰ (i, v) ds → value_at ds i ≡ v
unfolding value_at
mem_value (d ∷ ds) u i v (Memᴰ.head e) = rw (eq-eqb d.0 i (sym (ap (λ z. z.0) e))) (sym (ap (λ z. z.1) e))
mem_value (d ∷ ds) u i v (Memᴰ.tail m) =
    rw (So-false (eqb d.0 i) (λ e. u.0 (subst (λ z. Memᴰ z (map index ds)) (sym (eqb-true d.0 i e)) (Memᴰ.map index m))))
    (mem_value ds u.1 i v m)
mem_value [] u i v x'' = elim x'' [ ]

value_low : (ds : List Literal) (i : ℕ) → ((d : Literal) → Memᴰ d ds → d.1 ≤ 1) → value_at ds i ≤ 2
unfolding value_at
value_low [] i h = omega arith
value_low (d ∷ ds) i h = go (eqb d.0 i) (value_low ds i (λ e m. h e (Memᴰ.tail m)))
  where
    go : (b : Bool) → value_at ds i ≤ 2 → cond b d.1 (value_at ds i) ≤ 2
    go true k = omega (arith, h d (Memᴰ.head refl))
    go false k = k

-- the cell i shows the value at i
pub cell_value : (g : Grid) (ds : List Literal) (i : ℕ) → i < size g → get_or (cells_after g ds) i 0 ≡ value_at ds i
unfolding cells_after cells_of
cell_value g ds i l = map-upto_at (value_at ds) (size g) i 0 l

-- there are as many as the grid has
pub cells_length : (g : Grid) (ds : List Literal) → length (cells_after g ds) ≡ size g
unfolding cells_after cells_of
cells_length g ds = length-map-upto (value_at ds) (size g)

-- the cells are a value for each cell of the grid
pub cells_valid : {g : Grid} {ds : List Literal} → Standing g ds → ValidCells g (cells_after g ds)
unfolding cells_after cells_of
cells_valid {g} {ds} s = record { long = cells_length g ds; three = λ i. go i (dec_lt i (size g)) }
  where
    go : (i : ℕ) → Dec (i < size g) → get_or (cells_after g ds) i 0 ≤ 2
    go i (yes l) = omega (arith, cell_value g ds i l, value_low ds i (λ d m. (Standing-low s d m).1))
    go i (no l) = omega (arith, map-upto_past (value_at ds) (size g) i 0 (omega arith))

-- what a cell of the grid shows, 0 or 1, is a standing decision; and the other way round
pub cell_stands : (g : Grid) (ds : List Literal) (i v : ℕ) → i < size g → v ≤ 1 → get_or (cells_after g ds) i 0 ≡ v → Memᴰ (i, v) ds
cell_stands g ds i v l k e =
    let q : value_at ds i ≡ v = sym (cell_value g ds i l) ∙ e in
    subst (λ z. Memᴰ (i, z) ds) q (value_mem ds i (omega arith))

pub stands_cell : {g : Grid} {ds : List Literal} → Standing g ds → (i v : ℕ) → Memᴰ (i, v) ds → get_or (cells_after g ds) i 0 ≡ v
stands_cell {g} {ds} s i v m = cell_value g ds i (Standing-low s (i, v) m).0 ∙ mem_value ds (Standing-Distinct s) i v m

module _ {g : Grid} {ds es : List Literal} (s : Standing g ds) (t : Standing g es) where
  half : SameCells g (cells_after g ds) (cells_after g es) → (d : Literal) → Memᴰ d ds → Memᴰ d es
  half same d m =
      let l = Standing-low s d m in
      cell_stands g es d.0 d.1 l.0 l.1 (sym (same d.0 l.0) ∙ stands_cell s d.0 d.1 m)

  -- the same decisions show the same cells
  pub decisions_cells : SameDecisions ds es → SameCells g (cells_after g ds) (cells_after g es)
  decisions_cells same i l = go (dec_le (get_or (cells_after g ds) i 0) 1) (dec_le (get_or (cells_after g es) i 0) 1)
    where
      go : Dec (get_or (cells_after g ds) i 0 ≤ 1) → Dec (get_or (cells_after g es) i 0 ≤ 1) → get_or (cells_after g ds) i 0 ≡ get_or (cells_after g es) i 0
      go (yes h) _ = sym (stands_cell t i (get_or (cells_after g ds) i 0) ((same (i, get_or (cells_after g ds) i 0)).0 (cell_stands g ds i _ l h refl)))
      go (no h) (yes k) = stands_cell s i (get_or (cells_after g es) i 0) ((same (i, get_or (cells_after g es) i 0)).1 (cell_stands g es i _ l k refl))
      go (no h) (no k) = omega (arith, (cells_valid s).three i, (cells_valid t).three i)

-- equal cells exactly when the same decisions stand
pub same_board : {g : Grid} {ds es : List Literal} → Standing g ds → Standing g es → SameCells g (cells_after g ds) (cells_after g es) ↔ SameDecisions ds es
same_board s t = (λ same d. (half s t same d, half t s (λ i l. sym (same i l)) d), decisions_cells s t)

map_same : (f h : ℕ → ℕ) (a k : ℕ) → ((i : ℕ) → i < a + k → f i ≡ h i) → map f (range a k) ≡ map h (range a k)
unfolding range
map_same f h a zero e = refl
map_same f h a (suc k) e = ap₂ (λ x l. x ∷ l) (e a (omega arith)) (map_same f h (suc a) k (λ i l. e i (omega arith)))

-- and then the lists of cells are equal
pub cells_equal : (g : Grid) (ds es : List Literal) → SameCells g (cells_after g ds) (cells_after g es) → cells_after g ds ≡ cells_after g es
unfolding cells_after cells_of upto
cells_equal g ds es same = map_same (value_at ds) (value_at es) 0 (size g) (λ i l.
    let l' : i < size g = omega (arith, l) in
    sym (cell_value g ds i l') ∙ same i l' ∙ cell_value g es i l')
