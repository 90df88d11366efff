-- The loop over the cells gives reason 5 of the sizes that the arrays keep, and what it does at a cell.
-- Assumes nothing.
use Prim.Native.Nat.{ℕ, suc, ◌+◌, ◌-◌, ◌*◌, ◌≤◌, ◌<◌}
use native.Mathlib.Omega.{arith}
use native.Mathlib.Numerals.{add-one}
use mathlib.Core.Path.{◌≡◌, refl, ap, ◌∙◌}
use mathlib.Core.Bool.{Bool, true, false, cond}
use mathlib.Core.List.{List, [], ◌∷◌}
use mathlib.Core.Option.{none, some}
use lib.Dec.{eqb}
use lib.ListN.{length, get_or, take}
use borrow.Author.Tests.{eq-eqb, ne_eqb, lt-ltb, le-ltb}
use Rattle.grid.specs.Lists.{range, upto, filter, flat_map}
use Rattle.grid.specs.Grid.{size}
use Rattle.grid.specs.Side.{sized}
use Rattle.grid.specs.Cells.{square}
use Rattle.grid.proofs.AppendLaws.{filter-append}
use Rattle.grid.proofs.CellLaws.{square_taken}
use Rattle.grid.proofs.SideLaws.{area}
use Rattle.record.specs.Leaf.{Range}
use Rattle.record.specs.Sizes.{kept_at, kept_by, kept_ranges}
use Rattle.kinds.specs.Kinds.{View, view, view_with, block, reach}
use Rattle.kinds.specs.Inside.{puzzle_with}
use Rattle.literals.specs.Literals.{Found, or_else, reason_if, first_found_of, each}
use Rattle.literals.specs.Inside.{Wrote, FoundAs}
use Rattle.std.specs.Prelude.{Some, None}
use Rattle.literals.proofs.Findings.{found_none, nothing_found, found_first, Wrote-found, first_append}
use Rattle.growth.specs.Growth.{block_name, cell_fence}
use Rattle.growth.specs.Pairs.{view_on}
use Rattle.growth.proofs.PairNames.{owner_is, name_inside, name_code}
use Rattle.sized.specs.Sized.{reason_low, reason_high, reason5_at, reason5}
use Rattle.sized.specs.Inside.{Measured, too_low, too_high, within, range_in, reason5_in, Board, SizedBoard}
use Rattle.sized.specs.declared.Measure.TheVariants.{Within, Low, High}

-- ---- the loop

pub or_none : (f : Found) → or_else f none ≡ f
unfolding or_else
or_none none = refl
or_none (some r) = refl

module _ (v : View) (lows highs : List ℕ) where
  abbrev low : ℕ → ℕ
  low i = get_or lows i 0

  abbrev high : ℕ → ℕ
  high i = get_or highs i 0

  -- the sized cell is square
  abbrev filled : Range → Bool
  filled r = square v.cells r.cell

  at_cell : (i : ℕ) → first_found_of (reason5_at v) (filter filled (kept_at low high i)) ≡ reason5_in v lows highs i
  unfolding kept_at first_found_of reason5_in
  at_cell i = go (eqb (low i) 0)
    where
      two : (b : Bool) → first_found_of (reason5_at v) (cond b (range_in lows highs i ∷ []) []) ≡ cond b (reason5_at v (range_in lows highs i)) none
      two true = or_none (reason5_at v (range_in lows highs i))
      two false = refl

      go : (a : Bool) → first_found_of (reason5_at v) (filter filled (cond a [] (range_in lows highs i ∷ []))) ≡ cond a none (cond (square v.cells i) (reason5_at v (range_in lows highs i)) none)
      go true = refl
      go false = two (square v.cells i)

  through : (l : List ℕ) → first_found_of (reason5_at v) (filter filled (flat_map (kept_at low high) l)) ≡ first_found_of (reason5_in v lows highs) l
  unfolding first_found_of
  through [] = refl
  through (i ∷ l) =
      ap (first_found_of (reason5_at v)) (filter-append filled (kept_at low high i) (flat_map (kept_at low high) l))
      ∙ first_append (reason5_at v) (filter filled (kept_at low high i)) (filter filled (flat_map (kept_at low high) l))
      ∙ ap (λ (x : Found). or_else x (first_found_of (reason5_at v) (filter filled (flat_map (kept_at low high) l)))) (at_cell i)
      ∙ ap (or_else (reason5_in v lows highs i)) (through l)

  -- the first reason among the cells from i on, below n
  abbrev pub ahead : ℕ → ℕ → Found
  ahead n i = first_found_of (reason5_in v lows highs) (range i (n - i))

  -- from the first cell on it is reason 5 of the sizes
  pub ahead_all : (n : ℕ) → reason5 v (kept_ranges lows highs n) ≡ ahead n 0
  unfolding reason5 kept_by upto
  ahead_all n = let z : n - 0 ≡ n = omega arith in rw z (through (upto n))

  -- there is none behind the last cell
  pub ahead_end : (n i : ℕ) → n ≤ i → ahead n i ≡ none
  unfolding first_found_of range
  ahead_end n i h = let z : n - i ≡ 0 = omega arith in rw z refl

  module _ (n i : ℕ) (h : i < n) where
    ahead_split : ahead n i ≡ or_else (reason5_in v lows highs i) (ahead n (i + 1))
    unfolding first_found_of range
    ahead_split = let z : n - i ≡ suc (n - (i + 1)) = omega arith in rw (z, ← add-one i) refl

    -- the cell gives none, or the reason
    pub ahead_more : {b a : List ℕ} → FoundAs (reason5_in v lows highs i) b a None → ahead n i ≡ ahead n (i + 1)
    unfolding or_else
    ahead_more x = ahead_split ∙ rw (nothing_found (reason5_in v lows highs i) x).0 refl

    pub ahead_found : {b a : List ℕ} {k : ℕ} → FoundAs (reason5_in v lows highs i) b a (Some k) → FoundAs (ahead n i) b a (Some k)
    ahead_found x = rw ahead_split (found_first (reason5_in v lows highs i) (ahead n (i + 1)) x)

-- ---- a cell

module _ {low high reach size : ℕ} where
  -- what the sizes say of a block, by the three answers
  pub is_within : Measured low high reach size Within → (low ≤ reach) × (size ≤ high)
  is_within (within a b) = (a, b)

  pub is_low : Measured low high reach size Low → reach < low
  is_low (too_low a) = a

  pub is_high : Measured low high reach size High → (low ≤ reach) × (high < size)
  is_high (too_high a b) = (a, b)

module _ {h w : ℕ} {lines : List (List ℕ)} {lows highs cells kinds owners : List ℕ} (b : Board h w lines lows highs cells kinds owners) (i : ℕ) (inside : i < length lows) where
  abbrev board : View
  board = view_on h w lines cells

  on : i < h * w
  on = omega (arith, b.sizes.few)

  board-square : square board.cells i ≡ square cells i
  unfolding view view_with
  board-square = square_taken cells (h * w) i on

  -- no sizes, or not square
  pub not_sized : get_or lows i 0 ≡ 0 → (c : List ℕ) → FoundAs (reason5_in board lows highs i) c c None
  unfolding reason5_in
  not_sized z c = rw (eq-eqb (get_or lows i 0) 0 z) (found_none c)

  module _ (sizes : get_or lows i 0 ≡ 0 → ⊥) where
    pub not_square : square cells i ≡ false → (c : List ℕ) → FoundAs (reason5_in board lows highs i) c c None
    unfolding reason5_in
    not_square z c = rw (ne_eqb (get_or lows i 0) 0 sizes, board-square ∙ z) (found_none c)

    module _ (filled : square cells i ≡ true) where
      taken : square (take (h * w) cells) i ≡ true
      taken = square_taken cells (h * w) i on ∙ filled

      -- the name of its block stands in the array, and is a cell of an arrow block
      size_owner : get_or owners i 0 ≡ block_name board i
      unfolding size block_name
      size_owner = rw b.held.owner (owner_is (puzzle_with (sized h w) lines) (take (h * w) cells) i on taken (b.sizes.are_on_arrow i inside sizes))

      size_name : get_or owners i 0 < h * w
      unfolding size block_name
      size_name = rw size_owner (name_inside (puzzle_with (sized h w) lines) (take (h * w) cells) i on taken (b.sizes.are_on_arrow i inside sizes))

      pub size_kind : get_or kinds (get_or owners i 0) 0 ≡ 1
      unfolding size block_name
      size_kind = rw (size_owner, b.held.kind) (name_code (puzzle_with (sized h w) lines) (take (h * w) cells) i on taken (b.sizes.are_on_arrow i inside sizes))

      -- reason 5 for the cell is the one given
      size_is : reason5_in board lows highs i ≡ reason5_at board (range_in lows highs i)
      unfolding reason5_in
      size_is = rw (ne_eqb (get_or lows i 0) 0 sizes, board-square ∙ filled) refl

      module _ {f : ℕ} (e : f ≡ get_or owners i 0) {c : List ℕ} where
        -- the reach of its block is smaller than the lowest
        pub low_found : length (reach board f) < get_or lows i 0 → {a : List ℕ} {k : ℕ} → Wrote (cell_fence board i f) c a k → FoundAs (reason5_in board lows highs i) c a (Some k)
        unfolding reason5_at reason_low reason_if or_else
        low_found t x =
            rw (size_is, ← (e ∙ size_owner), lt-ltb (length (reach board f)) (get_or lows i 0) t) (Wrote-found x)

        module _ (enough : get_or lows i 0 ≤ length (reach board f)) where
          -- the block is not larger than the highest, or it is
          pub size_none : length (block board f) ≤ get_or highs i 0 → FoundAs (reason5_in board lows highs i) c c None
          unfolding reason5_at reason_low reason_high reason_if or_else
          size_none t =
              rw (size_is, ← (e ∙ size_owner), le-ltb (length (reach board f)) (get_or lows i 0) enough, le-ltb (get_or highs i 0) (length (block board f)) t) (found_none c)

          pub high_found : get_or highs i 0 < length (block board f) → {a : List ℕ} {k : ℕ} → Wrote (each 1 (block board f)) c a k → FoundAs (reason5_in board lows highs i) c a (Some k)
          unfolding reason5_at reason_low reason_high reason_if or_else
          high_found t x =
              rw (size_is, ← (e ∙ size_owner), le-ltb (length (reach board f)) (get_or lows i 0) enough, lt-ltb (get_or highs i 0) (length (block board f)) t) (Wrote-found x)

-- where it is sized and square, the name of its block is below 1024
pub size_low : {h w : ℕ} {lows highs cells kinds owners : List ℕ} (i : ℕ) → SizedBoard h w lows highs cells kinds owners → i < length lows
    → (get_or lows i 0 ≡ 0 → ⊥) → get_or cells i 0 ≡ 1 → h ≤ 32 → w ≤ 32 → get_or owners i 0 < 1024
unfolding square
size_low {h} {w} {lows} {highs} {cells} {kinds} {owners} i b inside sizes filled tall wide =
    omega (arith, size_name b.board i inside sizes (eq-eqb (get_or cells i 0) 1 filled), area h w tall wide)
