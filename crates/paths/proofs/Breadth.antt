-- The breadth-first list place by place, and the path by parents cell by cell.
-- Assumes nothing.
use Prim.Native.Nat.{ℕ, zero, suc, ◌+◌, ◌-◌, ◌≤◌, ◌<◌}
use native.Mathlib.Omega.{arith}
use native.Mathlib.Decide.{dec_lt}
use native.Mathlib.Numerals.{add-one}
use mathlib.Core.Path.{◌≡◌, refl, sym, ap, ◌∙◌, subst}
use mathlib.Core.Bool.{Bool, true, false, So, cond, ◌||◌}
use mathlib.Core.List.Memᴰ
use mathlib.Core.List.{List, [], ◌∷◌, ◌++◌, append-nil, Memᴰ}
use lib.Dec.{eqb}
use lib.ListN.{length, get_or, take, drop, replicate, length-replicate, length-take, length-map, length-append, take-append-drop, drop_of_length-le, get_or-eq_default, get_or-map, get_or-replicate}
use lib.Seq.{take_all, take-suc, drop-cons, take-append-le, drop-append-le, get_or-take}
use borrow.Author.Tests.{eq-eqb, ne_eqb, eqb-true}
use Rattle.grid.specs.Lists.{any}
use Rattle.grid.specs.Grid.{Grid, size}
use Rattle.grid.specs.Cells.{square}
use Rattle.paths.specs.Paths.{Entry, seen, appended, breadth_first, list_from, parent, path}
use Rattle.paths.specs.Search.{parent_mark, Listing, Offered}
use Rattle.paths.specs.BreadthFirst.{Listed}
use Rattle.paths.proofs.Walk.{So-seen, Tree, root, Tree-square, Tree-length, Tree-step}
use Rattle.paths.proofs.Listings.{Offered-list}

-- ---- the list, place by place

module _ {n : ℕ} {order from : List ℕ} {cs : List Entry} (L : Listing n order from cs) where
  -- the cell at place t
  pub order_at : (t : ℕ) → get_or order t 0 ≡ (get_or cs t (0, 0)).0
  order_at t = ap (λ (l : List ℕ). get_or l t 0) L.cells_are ∙ get_or-map (λ (c : Entry). c.0) cs t (0, 0)

  -- as many cells as entries
  order_length : length order ≡ length cs
  order_length = ap length L.cells_are ∙ length-map cs (λ (c : Entry). c.0)

-- it is listed
pub Listed-at : (cs : List Entry) (t : ℕ) → t < length cs → Listed cs (get_or cs t (0, 0)).0
Listed-at [] t h = absurd (omega arith)
Listed-at (c ∷ cs) zero h = (c.1, Memᴰ.head refl)
Listed-at (c ∷ cs) (suc t) h = let r = Listed-at cs t (omega arith) in (r.0, Memᴰ.tail r.1)

-- nothing is listed
Listing-none : (n : ℕ) → n ≤ 1024 → Listing n [] (replicate 1024 1024) []
unfolding parent_mark
Listing-none n s = record {
  from_long = length-replicate {A = ℕ} 1024 1024;
  cells_are = refl;
  parents_are = λ i i<. get_or-replicate 1024 i 1024 0 (omega (arith, s));
  parents_low = λ c m. absurd (Memᴰ.not-nil m);
}

module _ (g : Grid) (cells : List ℕ) where
  -- all were taken in turn
  pub breadth_done : (k : ℕ) (cs : List Entry) → breadth_first g cells k cs [] ≡ cs
  unfolding breadth_first
  breadth_done zero cs = append-nil cs
  breadth_done (suc k) cs = refl

  -- the cell at place t is taken
  pub breadth_more : (k t : ℕ) (cs : List Entry) → t < length cs
      → breadth_first g cells (suc k) (take t cs) (drop t cs)
      ≡ breadth_first g cells k (take (t + 1) (cs ++ appended g cells cs (get_or cs t (0, 0)).0)) (drop (t + 1) (cs ++ appended g cells cs (get_or cs t (0, 0)).0))
  unfolding breadth_first appended
  breadth_more k t cs h = rw (drop-cons cs t (0, 0) h, whole, ← take-suc cs t (0, 0) h, add-one t, take-append-le (suc t) cs new h, drop-append-le (suc t) cs new h) refl
    where
      x : Entry
      x = get_or cs t (0, 0)

      new : List Entry
      new = appended g cells cs x.0

      whole : take t cs ++ (x ∷ drop (suc t) cs) ≡ cs
      whole = ap (λ (l : List Entry). take t cs ++ l) (sym (drop-cons cs t (0, 0) h)) ∙ take-append-drop t cs

-- only cells of the grid are squares
pub square_inside : (g : Grid) (cells : List ℕ) (c : ℕ) → So (square (take (size g) cells) c) → c < size g
unfolding square
square_inside g cells c h = go (dec_lt c (size g))
  where
    go : Dec (c < size g) → c < size g
    go (yes l) = l
    go (no l) =
        absurd (omega (
          arith,
          eqb-true (get_or (take (size g) cells) c 0) 1 h,
          get_or-eq_default (take (size g) cells) 0 {n = c} (simp length-take (omega (arith, l))),
        ))

-- what is kept are the first cells of the breadth-first list from b; those before place t were taken in turn, and what is left to do makes
-- the whole list of them
pub record Run (g : Grid) (cells : List ℕ) (b : ℕ) (order from : List ℕ) (t : ℕ) : Type 0 where
  pub cs : List Entry
  pub listing : Listing (size g) order from cs
  pub start : So (square (take (size g) cells) b)
  pub tree : Tree g (take (size g) cells) (square_inside g cells) b start cs
  pub on : t ≤ length cs
  pub rest : breadth_first g (take (size g) cells) (size g - t) (take t cs) (drop t cs) ≡ list_from g (take (size g) cells) b

module _ (g : Grid) (cells : List ℕ) (b : ℕ) where
  -- b is offered to an empty list, and stands alone in it, its own parent
  pub Run-first : get_or cells b 0 ≡ 1 → b < size g → size g ≤ 1024
      → {from' order' : List ℕ} → Offered cells (replicate 1024 1024) [] b b from' order' → Run g cells b order' from' 0
  unfolding square
  Run-first e l s {from'} {order'} o =
      let z : size g - 0 ≡ size g = omega arith in
      record {
        cs = (b, b) ∷ [];
        listing = rw (eq-eqb (get_or cells b 0) 1 e) at (Offered-list (Listing-none (size g) s) cells b b o l s (omega arith));
        start = eq-eqb _ _ (get_or-take (size g) cells b 0 l ∙ e);
        tree = root;
        on = omega arith;
        rest = rw z refl;
      }

  module _ {order from : List ℕ} {t : ℕ} (R : Run g cells b order from t) (h : t < length order) where
    -- the cell at place t
    pub run_cell : get_or order t 0 < size g
    run_cell = rw (order_at R.listing t) (square_inside g cells _ (Tree-square g (take (size g) cells) (square_inside g cells) b R.start R.tree _ (Listed-at R.cs t (omega (arith, order_length R.listing)))))

    pub run_below : t < size g
    run_below = omega (arith, h, order_length R.listing, Tree-length g (take (size g) cells) (square_inside g cells) b R.start R.tree)

    -- it is taken
    pub Run-more : {order' from' : List ℕ}
        → ((cs : List Entry) → Listing (size g) order from cs → Listing (size g) order' from' (cs ++ appended g (take (size g) cells) cs (get_or order t 0)))
        → Run g cells b order' from' (t + 1)
    Run-more f =
        let e = order_at R.listing t in
        let i : t < length R.cs = omega (arith, h, order_length R.listing) in
        let z : size g - t ≡ suc (size g - (t + 1)) = omega (arith, run_below) in
        record {
          cs = R.cs ++ appended g (take (size g) cells) R.cs (get_or R.cs t (0, 0)).0;
          listing = rw (← e) (f R.cs R.listing);
          start = R.start;
          tree = Tree-step g (take (size g) cells) (square_inside g cells) b R.start R.cs _ R.tree (Listed-at R.cs t i);
          on = simp length-append (omega (arith, i));
          rest = sym (breadth_more g (take (size g) cells) (size g - (t + 1)) t R.cs i) ∙ rw (← z) R.rest;
        }

  -- all were taken
  pub Run-done : {order from : List ℕ} {t : ℕ} → Run g cells b order from t → length order ≤ t → Listing (size g) order from (list_from g (take (size g) cells) b)
  Run-done {order} {from} {t} R h =
      subst (Listing (size g) order from) (sym (rw (take_all t R.cs (omega (arith, h, order_length R.listing)), drop_of_length-le R.cs {i = t} (omega (arith, h, order_length R.listing))) (breadth_done g (take (size g) cells) (size g - t) R.cs)) ∙ R.rest) R.listing

-- ---- the path, cell by cell

mark_seen : (cs : List Entry) (i : ℕ) → seen cs i ≡ true → parent_mark cs i ≡ parent cs i
unfolding parent_mark parent
mark_seen [] i h = let z : ◌≡◌ {A = ℕ} 0 1 = cc in absurd (omega arith)
mark_seen (c ∷ cs) i h = go (eqb c.0 i) h (λ k. mark_seen cs i k)
  where
    go : (b : Bool) → (b || seen cs i) ≡ true → (seen cs i ≡ true → parent_mark cs i ≡ parent cs i) → cond b c.1 (parent_mark cs i) ≡ cond b c.1 (parent cs i)
    go true h ih = refl
    go false h ih = ih h

-- the mark of a listed cell is its parent
pub mark_parent : (cs : List Entry) (i : ℕ) → Listed cs i → parent_mark cs i ≡ parent cs i
mark_parent cs i l = mark_seen cs i (So-seen cs i l)

-- it ends at b
pub path_end : (k : ℕ) (cs : List Entry) (b : ℕ) → path k cs b b ≡ b ∷ []
unfolding path
path_end zero cs b = refl
path_end (suc k) cs b = rw (eq-eqb b b refl) refl

-- it goes on with the parent
pub path_on : (k : ℕ) (cs : List Entry) (a b : ℕ) → (a ≡ b → ⊥) → path (suc k) cs a b ≡ a ∷ path k cs (parent cs a) b
unfolding path
path_on k cs a b h = rw (ne_eqb a b h) refl
