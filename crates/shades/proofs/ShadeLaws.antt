-- What the shades mean: a cell's two numbers are those of the squares joined to it. They are two for each cell, in row order.
-- Assumes nothing.
use Prim.Native.Nat.{ℕ, zero, suc, ◌+◌, ◌*◌, ◌<◌}
use native.Mathlib.Omega.{arith}
use mathlib.Core.Logic.{◌⊎◌, inl, inr}
use mathlib.Core.Path.{◌≡◌, refl, ap, ◌∙◌, subst}
use mathlib.Core.Bool.{Bool, true, false, cond}
use mathlib.Core.List.Memᴰ
use mathlib.Core.List.{List, [], ◌∷◌, ◌++◌, Memᴰ}
use lib.ListN.{length, get_or, take, drop, length-append}
use lib.Seq.{take_at, drop-append-add}
use Rattle.grid.specs.Lists.{upto, flat_map}
use Rattle.grid.specs.Grid.{Grid, size, cells_of}
use Rattle.grid.specs.Cells.{square}
use Rattle.grid.proofs.ListLaws.{split}
use Rattle.grid.proofs.AppendLaws.{upto-length, upto_at}
use Rattle.grid.proofs.LinkLaws.{Linked-start}
use Rattle.grid.proofs.RisingLaws.{first_least, Rising-same}
use Rattle.groups.specs.Groups.{labels, group}
use Rattle.groups.proofs.GroupLaws.{label, label_own, label_least, linked_size, group_linked, linked_group, group-Rising}
use Rattle.shades.specs.Shades.{block_first, block_count, shade_of, Block, Shade, not_square, in_block, shades_on}

module _ (g : Grid) (cells : List ℕ) (i : ℕ) (h : i < size g) where
  -- the cells of the block
  abbrev block : List ℕ
  block = group g (square cells) (labels g (square cells)) (label g (square cells) i)

  -- they are its block in meaning, where i is square
  module _ (s : square cells i ≡ true) where
    Block-is : Block g cells i block
    Block-is = record {
      rises = group-Rising g (square cells) (labels g (square cells)) (label g (square cells) i);
      joined = λ j m. group_linked g (square cells) i j h s m;
      whole = λ j l. linked_group g (square cells) i j h l;
    }

    -- its first cell is the block's name
    first_is : {x : ℕ} {xs : List ℕ} → Block g cells i (x ∷ xs) → x ≡ label g (square cells) i
    first_is {x} {xs} b =
        let o = label_own g (square cells) i h s in
        let l = b.joined x (Memᴰ.head refl) in
        omega (arith, first_least b.rises (label g (square cells) i) (b.whole (label g (square cells) i) o), label_least g (square cells) i x h (linked_size g (square cells) h l) l)

    Shade-by : (l : List ℕ) → block ≡ l → Shade g cells i (label g (square cells) i ∷ length block ∷ [])
    Shade-by [] e = absurd (Memᴰ.not-nil (subst (λ (l : List ℕ). Memᴰ (label g (square cells) i) l) e (Block-is.whole (label g (square cells) i) (label_own g (square cells) i h s))))
    Shade-by (x ∷ xs) e =
        let b : Block g cells i (x ∷ xs) = subst (Block g cells i) e Block-is in
        subst (λ (n : ℕ). Shade g cells i (n ∷ length block ∷ [])) (first_is b) (rw e (in_block b))

  -- the computed shade is the one in meaning
  pub Shade-means : Shade g cells i (shade_of g cells i)
  unfolding shade_of block_first block_count
  Shade-means = go (split (square cells i))
    where
      go : (square cells i ≡ true) ⊎ (square cells i ≡ false) → Shade g cells i (cond (square cells i) (label g (square cells) i ∷ length block ∷ []) (0 ∷ 0 ∷ []))
      go (inl s) = rw s (Shade-by s block refl)
      go (inr s) = rw s (not_square s)

  -- and there is no other
  pub Shade-only : {l : List ℕ} → Shade g cells i l → l ≡ shade_of g cells i
  unfolding shade_of block_first block_count
  Shade-only (not_square s) = rw s refl
  Shade-only (in_block {first} {rest} b) =
      let s : square cells i ≡ true = Linked-start (b.joined first (Memᴰ.head refl)) in
      let e : first ∷ rest ≡ block = Rising-same b.rises (Block-is s).rises (λ x m. (Block-is s).whole x (b.joined x m)) (λ x m. b.whole x ((Block-is s).joined x m)) in
      rw (s, ← e, ← first_is s b) refl

-- two numbers
pub shade_two : (g : Grid) (cells : List ℕ) (i : ℕ) → length (shade_of g cells i) ≡ 2
unfolding shade_of
shade_two g cells i = go (square cells i)
  where
    go : (b : Bool) → length (cond b (block_first g cells i ∷ block_count g cells i ∷ []) (0 ∷ 0 ∷ [])) ≡ 2
    go true = refl
    go false = refl

-- lists of two, one after another
module _ (F : ℕ → List ℕ) (two : (i : ℕ) → length (F i) ≡ 2) where
  pub twos_length : (l : List ℕ) → length (flat_map F l) ≡ 2 * length l
  twos_length [] = refl
  twos_length (x ∷ l) = length-append (F x) (flat_map F l) ∙ omega (arith, two x, twos_length l)

  pub twos_at : (l : List ℕ) (k : ℕ) → k < length l → take 2 (drop (2 * k) (flat_map F l)) ≡ F (get_or l k 0)
  twos_at [] k h = absurd (omega arith)
  twos_at (x ∷ l) zero h = take_at (F x) (flat_map F l) 2 (two x)
  twos_at (x ∷ l) (suc k) h =
      let e : 2 * suc k ≡ length (F x) + 2 * k = omega (arith, two x) in
      ap (λ (n : ℕ). take 2 (drop n (F x ++ flat_map F l))) e ∙ ap (take 2) (drop-append-add (F x) (flat_map F l) (2 * k)) ∙ twos_at l k (omega arith)

-- two for each cell
pub shades_length : (g : Grid) (cells : List ℕ) → length (shades_on g cells) ≡ 2 * size g
unfolding shades_on cells_of
shades_length g cells = twos_length (shade_of g cells) (shade_two g cells) (upto (size g)) ∙ ap (λ (n : ℕ). 2 * n) (upto-length (size g))

-- those of cell i stand at its two places
pub shades_at : (g : Grid) (cells : List ℕ) (i : ℕ) → i < size g → take 2 (drop (2 * i) (shades_on g cells)) ≡ shade_of g cells i
unfolding shades_on cells_of
shades_at g cells i h =
    twos_at (shade_of g cells) (shade_two g cells) (upto (size g)) i (omega (arith, upto-length (size g)))
    ∙ ap (shade_of g cells) (upto_at (size g) i h)
