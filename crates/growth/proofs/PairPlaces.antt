-- The pairs of an arrow, one after another by the places of their squares.
-- Assumes nothing.
use Prim.Native.Nat.{ℕ, suc, ◌+◌, ◌-◌, ◌≤◌, ◌<◌}
use native.Mathlib.Omega.{arith}
use native.Mathlib.Numerals.{add-one}
use mathlib.Core.Path.{◌≡◌, refl, ap, ◌∙◌}
use mathlib.Core.Bool.{true, false}
use mathlib.Core.List.{List, [], ◌∷◌, ◌++◌, append-nil, append_assoc, Memᴰ}
use lib.ListN.{length, get_or, length-append}
use lib.Seq.{slice, slice-cons, slice_empty, take_at, get_or-append_seam}
use Rattle.grid.proofs.SliceLaws.{slice_more, slice_split, slice-mem}
use Rattle.grid.specs.Cells.{square}
use Rattle.groups.specs.Arrows.{pairs, pairs_from}
use Rattle.growth.specs.Pairs.{pair_at, pair_in, NextSquare}

module _ (cells : List ℕ) where
  -- none of these cells is a square
  abbrev Clear : List ℕ → Type 0
  Clear l = (x : ℕ) → Memᴰ x l → square cells x ≡ false

  pairs_skip : (xs ys : List ℕ) → Clear xs → pairs cells (xs ++ ys) ≡ pairs cells ys
  unfolding pairs
  pairs_skip [] ys h = refl
  pairs_skip (x ∷ xs) ys h = rw (h x (Memᴰ.head refl)) (pairs_skip xs ys (λ y m. h y (Memᴰ.tail m)))

  from_skip : (i : ℕ) (passed xs ys : List ℕ) → Clear xs → pairs_from cells i passed (xs ++ ys) ≡ pairs_from cells i (passed ++ xs) ys
  unfolding pairs_from
  from_skip i passed [] ys h = rw (append-nil passed) refl
  from_skip i passed (x ∷ xs) ys h =
      rw (h x (Memᴰ.head refl)) (from_skip i (passed ++ (x ∷ [])) xs ys (λ y m. h y (Memᴰ.tail m)) ∙ ap (λ (l : List ℕ). pairs_from cells i l ys) (append_assoc passed (x ∷ []) xs))

module _ (cells arrows : List ℕ) (to : ℕ) (long : to ≤ length arrows) where
  clear : {from r : ℕ} → NextSquare cells arrows from to r → Clear cells (slice from r arrows)
  clear {from} {r} n x m =
      let k = slice-mem arrows from r (omega (arith, n.high)) m in
      rw k.3 at (n.none k.0 k.1 k.2)

  -- the pairs start at the first square
  pub pairs_start : {from r : ℕ} → NextSquare cells arrows from to r → pairs cells (slice from to arrows) ≡ pairs cells (slice r to arrows)
  pairs_start {from} {r} n = rw (slice_split arrows from r to n.low n.high long) (pairs_skip cells (slice from r arrows) (slice r to arrows) (clear n))

  module _ (last : ℕ) (within : last < to) (first : square cells (get_or arrows last 0) ≡ true) {cur : ℕ} (n : NextSquare cells arrows (last + 1) to cur) where
    first_pairs : pairs cells (slice last to arrows) ≡ pairs_from cells (get_or arrows last 0) (slice (last + 1) cur arrows) (slice cur to arrows)
    unfolding pairs
    first_pairs =
        rw (slice-cons last to arrows 0 within long, first, ← add-one last, slice_split arrows (last + 1) cur to n.low n.high long)
        (from_skip cells (get_or arrows last 0) [] (slice (last + 1) cur arrows) (slice cur to arrows) (clear n))

    -- the next square ends the first pair and begins the next
    pub pairs_more : cur < to → pairs cells (slice last to arrows) ≡ pair_at arrows last cur ∷ pairs cells (slice cur to arrows)
    unfolding pairs pairs_from pair_at
    pairs_more h = first_pairs ∙ rw (slice-cons cur to arrows 0 h long, n.some h) refl

    -- no square, no pair
    pub pairs_end : cur ≡ to → pairs cells (slice last to arrows) ≡ []
    unfolding pairs_from
    pairs_end e = first_pairs ∙ rw (e, slice_empty to arrows) refl

-- the pair of the first and the last of a list
pair_whole : (x y : ℕ) (m : List ℕ) → pair_in (x ∷ m ++ (y ∷ [])) ≡ record { last = x; between = m; cur = y }
unfolding pair_at
pair_whole x y m = rw (end, get_or-append_seam m y [] 0, take_at m (y ∷ []) (length m) refl) refl
  where
    end : length (x ∷ m ++ (y ∷ [])) - 1 ≡ suc (length m)
    end = simp length-append (omega arith)

-- the pair of two places is that of the part from the one to the other
pub pair_part : (arrow : List ℕ) (last cur : ℕ) → last + 1 ≤ cur → cur < length arrow → pair_in (slice last (cur + 1) arrow) ≡ pair_at arrow last cur
unfolding pair_at
pair_part arrow last cur h u = ap pair_in parts ∙ pair_whole (get_or arrow last 0) (get_or arrow cur 0) (slice (last + 1) cur arrow)
  where
    parts : slice last (cur + 1) arrow ≡ get_or arrow last 0 ∷ slice (last + 1) cur arrow ++ (get_or arrow cur 0 ∷ [])
    parts = slice-cons last (cur + 1) arrow 0 (omega arith) (omega arith) ∙ ap (λ (l : List ℕ). get_or arrow last 0 ∷ l) (rw (← add-one last) (slice_more arrow (last + 1) cur h u))
