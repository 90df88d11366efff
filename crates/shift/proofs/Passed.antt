-- The cells of an arrow block that are passed on a walk along a chain.
-- Assumes nothing.
use Prim.Native.Nat.{ℕ, ◌≤◌, ◌<◌}
use native.Mathlib.Decide.{dec_lt}
use native.Mathlib.Omega.{arith}
use mathlib.Core.Path.{◌≡◌, refl, sym, ap, ◌∙◌}
use mathlib.Core.Bool.{cond}
use mathlib.Core.List.{List, [], ◌∷◌, ◌++◌, append-nil}
use lib.Dec.{eqb}
use borrow.Author.Tests.{eq-eqb, ne_eqb}
use lib.ListN.{length, get_or, length-append}
use Rattle.grid.specs.Lists.{filter}
use Rattle.grid.proofs.AppendLaws.{filter-append, filter_more}
use Rattle.reach.specs.Chains.{cells_from, Chains}
use Rattle.reach.proofs.ChainLaws.{owned_both}
use Rattle.reach.proofs.ChainWalks.{Walk, walk_rest, walk_end}
use Rattle.shift.specs.Shift.{block_in}

-- the cells of an arrow block, passed so far
abbrev pub block_of : List ℕ → List ℕ → List ℕ
block_of kinds passed = filter (λ i. eqb (get_or kinds i 0) 1) passed

-- one more cell is passed, of the block or not
module _ (kinds passed : List ℕ) (i : ℕ) where
  block_more : block_of kinds (passed ++ (i ∷ [])) ≡ block_of kinds passed ++ cond (eqb (get_or kinds i 0) 1) (i ∷ []) []
  block_more = filter_more (λ j. eqb (get_or kinds j 0) 1) passed i

  pub block_grows : get_or kinds i 0 ≡ 1 → block_of kinds (passed ++ (i ∷ [])) ≡ block_of kinds passed ++ (i ∷ [])
  block_grows e = block_more ∙ rw (eq-eqb (get_or kinds i 0) 1 e) refl

  pub block_stays : (get_or kinds i 0 ≡ 1 → ⊥) → block_of kinds (passed ++ (i ∷ [])) ≡ block_of kinds passed
  block_stays n = block_more ∙ rw (ne_eqb (get_or kinds i 0) 1 n) (append-nil (block_of kinds passed))

-- the whole chain's block cells are the block
block_all : (kinds owners : List ℕ) (n f : ℕ) → block_of kinds (cells_from owners n f 0) ≡ block_in kinds owners n f
unfolding block_in
block_all kinds owners n f = owned_both owners n f (λ i. eqb (get_or kinds i 0) 1)

module _ {owners head next : List ℕ} {n : ℕ} (C : Chains owners head next n) (kinds : List ℕ) (f : ℕ) (small : f < 1024) {passed : List ℕ} {i : ℕ} (W : Walk owners n f passed i) where
  -- while a cell of the block is missing, the walk is not at its end
  pub block_goes_on : length (block_of kinds passed) < length (block_in kinds owners n f) → i < 1024
  block_goes_on h = go (dec_lt i 1024)
    where
      go : Dec (i < 1024) → i < 1024
      go (yes l) = l
      go (no l) = absurd (omega (arith, h, ap (λ (b : List ℕ). length (block_of kinds b)) (walk_end C f small W (omega (arith, l))), ap length (block_all kinds owners n f)))

  -- where none is missing, the block was passed
  pub block_passed : length (block_in kinds owners n f) ≤ length (block_of kinds passed) → block_of kinds passed ≡ block_in kinds owners n f
  block_passed h = sym (append-nil (block_of kinds passed)) ∙ ap (λ (b : List ℕ). block_of kinds passed ++ b) (sym none) ∙ sym parts
    where
      parts : block_in kinds owners n f ≡ block_of kinds passed ++ block_of kinds (cells_from owners n f W.from)
      parts = sym (block_all kinds owners n f) ∙ ap (block_of kinds) (walk_rest C f small W) ∙ filter-append (λ j. eqb (get_or kinds j 0) 1) passed (cells_from owners n f W.from)

      empty : (l : List ℕ) → length l ≡ 0 → l ≡ []
      empty [] e = refl
      empty (x ∷ l) e = absurd (omega (arith, e))

      none : block_of kinds (cells_from owners n f W.from) ≡ []
      none = empty (block_of kinds (cells_from owners n f W.from)) (omega (arith, h, simp length-append at (ap length parts)))
