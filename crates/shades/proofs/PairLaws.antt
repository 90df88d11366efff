-- The numbers of the cells as they are written one after another, and that they are the shades where names and counts are those of the blocks.
-- Assumes nothing.
use Prim.Native.Nat.{ℕ, ◌+◌, ◌*◌, ◌%◌, ◌≤◌, ◌<◌}
use native.Mathlib.Omega.{arith}
use mathlib.Core.Logic.{◌⊎◌, inl, inr}
use mathlib.Core.Path.{◌≡◌, refl, ap, ◌∙◌}
use mathlib.Core.Bool.{true, false, cond}
use mathlib.Core.List.{List, ◌++◌}
use lib.Dec.{ltb}
use lib.ListN.{length, get_or, set, drop, replicate}
use borrow.Author.Tests.{lt-ltb}
use Rattle.grid.specs.Lists.{range, upto}
use Rattle.grid.specs.Grid.{Grid, size, cells_of}
use Rattle.grid.specs.Cells.{square}
use Rattle.grid.proofs.ListLaws.{split, upto-mem, filter-mem, mem-filter}
use Rattle.grid.proofs.AppendLaws.{upto-length, flat_map_more, flat_map_agree}
use Rattle.exported.proofs.BytesLaws.{two_set}
use Rattle.grid.proofs.RisingLaws.{filter-Rising, Rising-same}
use Rattle.grid.specs.Link.{here}
use Rattle.groups.specs.Groups.{labels, group}
use Rattle.groups.specs.Arrays.{label_array, tally_of}
use Rattle.groups.proofs.GroupLaws.{label, group-mem, group-Rising, label_least}
use Rattle.groups.proofs.LabelLaws.{label_in, label_out}
use Rattle.shades.specs.Shades.{block_first, block_count, shade_of, shades_on, in_places}
use Rattle.shades.specs.Inside.{pair_by, pairs_by}
use Rattle.shades.proofs.ShadeLaws.{twos_length}

module _ (groups squares out : List ℕ) where
  -- two numbers for each cell
  pub pairs_length : (k : ℕ) → length (pairs_by groups squares k) ≡ 2 * k
  unfolding pairs_by pair_by
  pairs_length k = twos_length (λ i. pair_by squares (get_or groups i 0)) (λ i. refl) (upto k) ∙ ap (λ (n : ℕ). 2 * n) (upto-length k)

  -- with 0 behind them in an array of them all
  pub pairs_placed : (k : ℕ) → in_places (pairs_by groups squares k) ≡ pairs_by groups squares k ++ drop (2 * k) (replicate 2048 0)
  unfolding in_places
  pairs_placed k = rw (pairs_length k) refl

  -- none is written yet
  pub pairs_none : out ≡ pairs_by groups squares 0 ++ drop (2 * 0) out
  unfolding pairs_by upto range
  pairs_none = refl

  -- the next cell's
  pub pairs_next : (k : ℕ) → 2 * (k + 1) ≤ length out
      → set (set (pairs_by groups squares k ++ drop (2 * k) out) (2 * k) (cond (ltb (get_or groups k 0) 1024) (get_or groups k 0) 0)) (2 * k + 1) (cond (ltb (get_or groups k 0) 1024) (get_or squares (get_or groups k 0 % 1024) 0) 0)
      ≡ pairs_by groups squares (k + 1) ++ drop (2 * (k + 1)) out
  unfolding pairs_by pair_by
  pairs_next k r =
      let m : 2 * (k + 1) ≡ 2 * k + 2 = omega arith in
      two_set (pairs_by groups squares k) out (2 * k) _ _ (pairs_length k) (omega arith)
      ∙ rw (m, flat_map_more (λ i. pair_by squares (get_or groups i 0)) k) refl

-- the shades come from names and counts of squares that are those of the blocks
module _ (g : Grid) (cells groups squares : List ℕ) (named : groups ≡ label_array g (square cells))
    (counted : (f : ℕ) → f < size g → get_or squares f 0 ≡ tally_of g (square cells) (square cells) f) where
  -- every cell of a block is square
  all_square : (f : ℕ) → tally_of g (square cells) (square cells) f ≡ length (group g (square cells) (labels g (square cells)) f)
  all_square f =
      let l = group g (square cells) (labels g (square cells)) f in
      let r = group-Rising g (square cells) (labels g (square cells)) f in
      ap length
      (Rising-same (filter-Rising (square cells) r) r (λ x m. (filter-mem (square cells) l m).0)
      (λ x m. mem-filter (square cells) l m (group-mem g (square cells) (labels g (square cells)) f x m).1))

  module _ (fits : size g ≤ 1024) where
    one : (i : ℕ) → i < size g → pair_by squares (get_or groups i 0) ≡ shade_of g cells i
    unfolding pair_by shade_of block_first block_count
    one i h = go (split (square cells i))
      where
        f : ℕ
        f = label g (square cells) i

        go : (square cells i ≡ true) ⊎ (square cells i ≡ false) → pair_by squares (get_or groups i 0) ≡ shade_of g cells i
        go (inl s) =
            let low : f ≤ i = label_least g (square cells) i i h h (here s) in
            let e : get_or groups i 0 ≡ f = ap (λ (l : List ℕ). get_or l i 0) named ∙ label_in g (square cells) i h s in
            let m : f % 1024 ≡ f = omega arith in
            rw (e, lt-ltb f 1024 (omega arith), m, counted f (omega arith), all_square f, s) refl
        go (inr s) =
            let e : get_or groups i 0 ≡ 1024 = ap (λ (l : List ℕ). get_or l i 0) named ∙ label_out g (square cells) i h s in
            rw (e, s) refl

    pairs_are : pairs_by groups squares (size g) ≡ shades_on g cells
    unfolding pairs_by shades_on cells_of
    pairs_are = flat_map_agree (λ i. pair_by squares (get_or groups i 0)) (shade_of g cells) (upto (size g)) (λ i m. one i (upto-mem (size g) m))

    -- so they are what is written
    pub pairs_shades : {l : List ℕ} → l ≡ in_places (pairs_by groups squares (size g)) → l ≡ in_places (shades_on g cells)
    pairs_shades e = rw (← pairs_are) e
