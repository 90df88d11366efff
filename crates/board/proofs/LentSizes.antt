-- The sizes in the arrays of a board, as they are lent: those of its cells, and none where no cell has one.
-- Assumes nothing.
use Prim.Native.Nat.{ℕ, ◌≤◌, ◌<◌}
use native.Mathlib.Omega.{arith}
use mathlib.Core.Logic.{◌⊎◌, inl, inr}
use mathlib.Core.Path.{◌≡◌, refl, sym, ◌∙◌}
use mathlib.Core.Bool.{Bool, true, false, cond}
use mathlib.Core.List.{List, [], ◌∷◌}
use lib.Dec.{eqb}
use lib.ListN.{length, get_or, take}
use lib.Seq.{get_or-take, length-take-le}
use borrow.Author.Tests.{eqb-true}
use Rattle.grid.specs.Lists.{range, upto, flat_map}
use Rattle.grid.proofs.ListLaws.{all-mem, at_mem, upto-mem}
use Rattle.grid.proofs.AppendLaws.{flat_map_agree}
use Rattle.record.specs.Arrows.{on_arrow}
use Rattle.record.specs.Leaf.{Range, range_at}
use Rattle.record.specs.Sizes.{Proper, kept_at, kept_by, kept_ranges}
use Rattle.record.proofs.SizesLaws.{So-arrow}
use Rattle.form.specs.Form.{behind}
use Rattle.sizes.specs.Form.{SizeArrays}
use Rattle.sizes.proofs.KeptLaws.{kept_none}
use Rattle.sizes.specs.Lent.{SizesOn}
use Rattle.board.specs.Inside.{lent_sizes}

-- nothing is gathered where each place gives nothing
flat_none : (l : List ℕ) → flat_map {A = Range} (λ i. []) l ≡ []
flat_none [] = refl
flat_none (x ∷ l) = flat_none l

-- empty slices are sizes of any board
pub no_SizesOn : (n : ℕ) (lines : List (List ℕ)) → SizesOn n lines [] []
no_SizesOn n lines = record { few = omega arith; both = refl; are_on_arrow = λ i h _. absurd (omega arith); order = λ i h. absurd (omega arith) }

-- and they keep none
pub none_kept : kept_ranges [] [] 0 ≡ []
unfolding kept_by upto range
none_kept = refl

-- no more cells are lent than there are
pub lent_most : (lows : List ℕ) (n : ℕ) → lent_sizes lows n ≤ n
unfolding lent_sizes
lent_most lows n = go (behind 0 0 lows)
  where
    go : (t : Bool) → cond t 0 n ≤ n
    go true = omega arith
    go false = omega arith

module _ (arrows : List (List ℕ)) (lows highs : List ℕ) (s : SizeArrays arrows lows highs) (n : ℕ) (most : n ≤ 1024) where
  -- those of the first k cells
  module _ (k : ℕ) (few : k ≤ n) where
    low_long : length (take k lows) ≡ k
    low_long = length-take-le k lows (omega (arith, s.lowest_long))

    high_long : length (take k highs) ≡ k
    high_long = length-take-le k highs (omega (arith, s.highest_long))

    -- are sizes of a board with these arrows
    pub taken_on : SizesOn n arrows (take k lows) (take k highs)
    taken_on = record {
      few = omega (arith, low_long);
      both = high_long ∙ sym low_long;
      are_on_arrow = λ i h d. let l : i < k = omega (arith, low_long) in
          on i l (s.each i (omega arith)) (λ z. d (get_or-take k lows i 0 l ∙ z));
      order = λ i h. let l : i < k = omega (arith, low_long) in
          rw (get_or-take k lows i 0 l, get_or-take k highs i 0 l) (order i (s.each i (omega arith)));
    }
      where
        Sized : ℕ → Type 0
        Sized i = ((get_or lows i 0 ≡ 0) × (get_or highs i 0 ≡ 0)) ⊎ Proper arrows (range_at i (get_or lows i 0) (get_or highs i 0))

        on : (i : ℕ) → i < k → Sized i → (get_or lows i 0 ≡ 0 → ⊥) → on_arrow arrows i ≡ true
        on i l (inl (z, y)) d = absurd (d z)
        on i l (inr w) d = So-arrow arrows i w.on

        order : (i : ℕ) → Sized i → get_or lows i 0 ≤ get_or highs i 0
        order i (inl (z, y)) = omega (arith, z)
        order i (inr w) = w.order

    -- and keep the same ranges
    pub taken_kept : kept_ranges (take k lows) (take k highs) (length (take k lows)) ≡ kept_ranges lows highs k
    unfolding kept_by kept_at
    taken_kept = rw low_long (flat_map_agree
        (kept_at (λ i. get_or (take k lows) i 0) (λ i. get_or (take k highs) i 0)) (kept_at (λ i. get_or lows i 0) (λ i. get_or highs i 0)) (upto k)
        (λ i m. let l = upto-mem k m in rw (get_or-take k lows i 0 l, get_or-take k highs i 0 l) refl))

  -- where no cell has a lowest size, none is kept
  bare_kept : behind 0 0 lows ≡ true → kept_ranges lows highs n ≡ []
  unfolding behind kept_by
  bare_kept z = flat_map_agree (kept_at (λ i. get_or lows i 0) (λ i. get_or highs i 0)) (λ i. []) (upto n) (λ i m. at i (upto-mem n m)) ∙ flat_none (upto n)
    where
      at : (i : ℕ) → i < n → kept_at (λ j. get_or lows j 0) (λ j. get_or highs j 0) i ≡ []
      at i l =
          kept_none (λ j. get_or lows j 0) (λ j. get_or highs j 0) i
          (sym (eqb-true 0 (get_or lows i 0) (all-mem (eqb 0) lows z (get_or lows i 0) (at_mem lows i (omega (arith, s.lowest_long))))))

  -- what is lent are sizes of the board
  pub lent_on : SizesOn n arrows (take (lent_sizes lows n) lows) (take (lent_sizes lows n) highs)
  lent_on = taken_on (lent_sizes lows n) (lent_most lows n)

  -- and all that it keeps
  pub lent_kept : kept_ranges (take (lent_sizes lows n) lows) (take (lent_sizes lows n) highs) (length (take (lent_sizes lows n) lows)) ≡ kept_ranges lows highs n
  unfolding lent_sizes
  lent_kept = go (behind 0 0 lows) refl
    where
      go : (t : Bool) → behind 0 0 lows ≡ t → kept_ranges (take (cond t 0 n) lows) (take (cond t 0 n) highs) (length (take (cond t 0 n) lows)) ≡ kept_ranges lows highs n
      go true z = none_kept ∙ sym (bare_kept z)
      go false z = taken_kept n (omega arith)
