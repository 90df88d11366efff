-- Reasons 3 and 4 for one pair, by what the code finds of it.
-- Assumes nothing.
use Prim.Native.Nat.{ℕ, suc, ◌+◌, ◌-◌, ◌*◌, ◌≤◌, ◌<◌}
use native.Mathlib.Omega.{arith}
use mathlib.Core.Path.{◌≡◌, refl, sym, ap, ◌∙◌}
use mathlib.Core.Bool.{Bool, true, false}
use mathlib.Core.List.{List, [], ◌∷◌, ◌++◌, Memᴰ}
use mathlib.Core.Option.{none, some}
use lib.ListN.{length, get_or, set, take, drop, take-append-drop}
use lib.Seq.{slice}
use borrow.Author.Tests.{lt-ltb, le-ltb}
use Rattle.grid.proofs.CellLaws.{empty_taken, undecided_taken}
use Rattle.grid.specs.Lists.{filter, init, tail}
use Rattle.grid.specs.Grid.{size}
use Rattle.grid.proofs.AppendLaws.{filter_agree}
use Rattle.grid.proofs.SliceLaws.{slice_taken, slice-tail, slice-init}
use Rattle.grid.specs.Cells.{Literal, empty, word}
use Rattle.groups.specs.Arrows.{Pair}
use Rattle.kinds.specs.Kinds.{View, view, view_with, block, reach, fence}
use Rattle.kinds.specs.Inside.{Held}
use Rattle.fence.specs.Inside.{Fenced}
use Rattle.literals.specs.Inside.{Wrote}
use Rattle.growth.specs.Pairs.{pair_at, view_on}
use Rattle.growth.specs.Growth.{reason4a_at, reason4b_at, most_apart, block_name, block_cell_fence, reason_grow, reason3_at, gap, reason_shrink}
use Rattle.literals.specs.Literals.{reason_if, each}
use Rattle.shift.specs.Fits.{shift_fits}
use Rattle.shift.specs.Shift.{block_in}
use Rattle.literals.proofs.BufferLaws.{Wrote-more}
use Rattle.kinds.proofs.BlockArrays.{block_by}

-- the pair p, and the names f and e of the blocks of its squares
module _ (v : View) (p : Pair) (f e : ℕ) (last : f ≡ get_or v.blocks p.last 0) (cur : e ≡ get_or v.blocks p.cur 0) where
  -- some shift of last's block lies in cur's reach, or none
  pub shift_none : shift_fits v f e ≡ true → reason3_at v p ≡ none
  unfolding reason3_at block_name reason_if
  shift_none t = rw (← last, ← cur, t) refl

  pub shift_some : shift_fits v f e ≡ false → reason3_at v p ≡ some (block_cell_fence v f p.cur e)
  unfolding reason3_at reason_grow block_name reason_if
  shift_some t = rw (← last, ← cur, t) refl

  -- cur's reach is large enough, or not
  pub growth_none : length (block v f) + 1 ≤ length (reach v e) → reason4a_at v p ≡ none
  unfolding reason4a_at block_name reason_if
  growth_none h = rw (← last, ← cur, le-ltb (length (reach v e)) (length (block v f) + 1) h) refl

  pub growth_some : length (reach v e) < length (block v f) + 1 → reason4a_at v p ≡ some (block_cell_fence v f p.cur e)
  unfolding reason4a_at reason_grow block_name reason_if
  growth_some h = rw (← last, ← cur, lt-ltb (length (reach v e)) (length (block v f) + 1) h) refl

  -- last's reach with the gap is large enough, or not
  pub gap-none : length (block v e) ≤ length (reach v f) + 1 + most_apart v.cells false (gap p) → reason4b_at v p ≡ none
  unfolding reason4b_at block_name reason_if
  gap-none h = rw (← last, ← cur, le-ltb (length (reach v f) + 1 + most_apart v.cells false (gap p)) (length (block v e)) h) refl

  pub gap-some : length (reach v f) + 1 + most_apart v.cells false (gap p) < length (block v e)
      → reason4b_at v p ≡ some (block_cell_fence v e p.last f ++ each 0 (filter (empty v.cells) (gap p)))
  unfolding reason4b_at reason_shrink block_name reason_if
  gap-some h = rw (← last, ← cur, lt-ltb (length (reach v f) + 1 + most_apart v.cells false (gap p)) (length (block v e)) h) refl

-- ---- the gap, by places and in the array of cells

pub gap_places : (arrows : List ℕ) (last cur : ℕ) → last < cur → cur ≤ length arrows → gap (pair_at arrows last cur) ≡ slice (last + 2) (cur - 1) arrows
unfolding gap pair_at
gap_places arrows last cur h long =
    let back : cur - 1 + 1 ≡ cur = omega arith in
    let next : suc (last + 1) ≡ last + 2 = omega arith in
    ap tail (ap (λ (k : ℕ). init (slice (last + 1) k arrows)) (sym back) ∙ slice-init arrows (last + 1) (cur - 1) (omega arith))
    ∙ slice-tail arrows (last + 1) (cur - 1) (omega arith)
    ∙ ap (λ (k : ℕ). slice k (cur - 1) arrows) next

-- the gap of the first and the last of a list
pub gap_part : (cells : List ℕ) → 1 < length cells → gap (pair_at cells 0 (length cells - 1)) ≡ slice 2 (length cells - 2) cells
gap_part cells two =
    let e : length cells - 1 - 1 ≡ length cells - 2 = omega arith in
    gap_places cells 0 (length cells - 1) (omega arith) (omega arith) ∙ ap (λ (k : ℕ). slice 2 k cells) e

-- it is what is left without two cells at either end
pub gap_inner : (cells : List ℕ) → 1 < length cells → gap (pair_at cells 0 (length cells - 1)) ≡ take (length cells - 2 - 2) (drop 2 cells)
gap_inner cells two = gap_part cells two ∙ sym (slice_taken cells 2 (length cells - 2))

module _ (cells : List ℕ) (n : ℕ) where
  pub most_taken : (t : Bool) (l : List ℕ) → ((x : ℕ) → Memᴰ x l → x < n) → most_apart (take n cells) t l ≡ most_apart cells t l
  unfolding most_apart
  most_taken t [] h = refl
  most_taken true (i ∷ l) h = most_taken false l (λ x m. h x (Memᴰ.tail m))
  most_taken false (i ∷ l) h =
      rw (undecided_taken cells n i (h i (Memᴰ.head refl)), most_taken true l (λ x m. h x (Memᴰ.tail m)), most_taken false l (λ x m. h x (Memᴰ.tail m))) refl

  pub empty_agree : (l : List ℕ) → ((x : ℕ) → Memᴰ x l → x < n) → filter (empty (take n cells)) l ≡ filter (empty cells) l
  empty_agree l h = filter_agree (empty (take n cells)) (empty cells) l (λ x m. empty_taken cells n x (h x m))

-- ---- the arrays of a board

module _ (h w : ℕ) (lines : List (List ℕ)) (cells : List ℕ) {kinds owners : List ℕ} (k : Held (view_on h w lines cells) kinds owners) where
  pub block_in_lem : (f : ℕ) → block_in kinds owners (h * w) f ≡ block (view_on h w lines cells) f
  unfolding block_in size view view_with
  block_in_lem f = block_by (view_on h w lines cells) f kinds owners (h * w) k refl

-- ---- a block, an arrow cell and a fence in the buffer

pub fence-Wrote : {v : View} {f : ℕ} {b a : List ℕ} {r : ℕ} → Fenced v f b a r → Wrote (fence v f) b a r
fence-Wrote {v} {f} {b} {a} {r} x = record {
  many = x.number;
  whole = sym (take-append-drop r a) ∙ rw (x.list, x.rest) refl;
}

pub cell_Wrote : {ls : List Literal} {b a : List ℕ} {k : ℕ} → Wrote ls b a k → (i : ℕ) → k < length b → Wrote (ls ++ each 1 (i ∷ [])) b (set a k (word (i, 1))) (k + 1)
unfolding each
cell_Wrote w i h = Wrote-more w (i, 1) h
