-- Marks at the names of groups, and arrays of kinds and owners that are filled cell by cell.
-- Assumes nothing.
use Prim.Native.Nat.{ℕ, ◌+◌, ◌≤◌, ◌<◌}
use mathlib.Core.Bool.{Bool, ◌&&◌, ◌||◌}
use mathlib.Core.Path.{◌≡◌, refl}
use mathlib.Core.List.{List}
use lib.Dec.{eqb}
use lib.ListN.{length, set, replicate}
use Rattle.grid.specs.Marks.{Marks}
use Rattle.grid.specs.Grid.{Grid}
use Rattle.grid.proofs.FilledLaws.{filled_none, filled_more, filled_length}
use Rattle.kinds.specs.Arrays.{kind_code, owner_by}
use Rattle.kinds.specs.Inside.{kind_in, codes_in, unnamed, owners_in}

-- ---- the name at a place is marked if the place has the tag
module _ {M : List ℕ} (t : ℕ → Bool) (has tag f : ℕ) (k : Marks M t) where
  -- the marks afterwards
  abbrev then : ℕ → Bool
  then m = t m || (eqb has tag && eqb f m)

-- ---- the kinds of the cells passed
module _ (blocks arrowed : List ℕ) (g : Grid) (cells : List ℕ) where
  pub codes_none : replicate 1024 0 ≡ codes_in blocks arrowed g cells 0
  unfolding codes_in
  codes_none = filled_none 0 (λ i. kind_code (kind_in blocks arrowed g cells i))

  pub codes_more : (K : List ℕ) (i : ℕ) → i < 1024 → K ≡ codes_in blocks arrowed g cells i → set K i (kind_code (kind_in blocks arrowed g cells i)) ≡ codes_in blocks arrowed g cells (i + 1)
  unfolding codes_in
  codes_more K i h e = rw e (filled_more 0 (λ i. kind_code (kind_in blocks arrowed g cells i)) i (kind_code (kind_in blocks arrowed g cells i)) h refl)

  pub owners_none : replicate 1024 1024 ≡ owners_in blocks arrowed g cells 0
  unfolding owners_in
  owners_none = filled_none 1024 (λ i. owner_by unnamed (kind_in blocks arrowed g cells i))

  pub owners_more : (L : List ℕ) (i : ℕ) → i < 1024 → L ≡ owners_in blocks arrowed g cells i → set L i (owner_by unnamed (kind_in blocks arrowed g cells i)) ≡ owners_in blocks arrowed g cells (i + 1)
  unfolding owners_in
  owners_more L i h e = rw e (filled_more 1024 (λ i. owner_by unnamed (kind_in blocks arrowed g cells i)) i (owner_by unnamed (kind_in blocks arrowed g cells i)) h refl)

  pub owners_length : (k : ℕ) → k ≤ 1024 → length (owners_in blocks arrowed g cells k) ≡ 1024
  unfolding owners_in
  owners_length k h = filled_length 1024 (λ i. owner_by unnamed (kind_in blocks arrowed g cells i)) k h
