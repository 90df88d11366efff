-- The reach of a block from its own cells: how many cells each owner has, and which floating groups are near a block.
-- Assumes nothing.
use Rattle.std.specs.Prelude.{ℕ, ◌≤◌, ◌<◌, ◌↔◌, ◌≡◌, Bool, true, ◌&&◌, not, eqb, length, get_or, take}
use mathlib.Core.List.{List, Memᴰ}
use Rattle.grid.specs.Lists.{upto, filter, Distinct}
use Rattle.grid.specs.Marks.{Marks}
use Rattle.groups.specs.Arrays.{mask_of}
use Rattle.kinds.specs.Kinds.{View, float_near}
use Rattle.kinds.specs.Inside.{of_block}
use Rattle.reach.specs.Chains.{owned_by}

-- cell j has the owner f and is no square of an arrow block
unfoldable pub beside_owned : List ℕ → List ℕ → ℕ → ℕ → Bool
beside_owned kinds owners f j = owned_by owners f j && not (eqb (get_or kinds j 0) 1)

-- how many of the cells below n each owner has beside the squares of arrow blocks, which the grouping step has counted
pub record Sizes (kinds owners : List ℕ) (n : ℕ) (sizes : List ℕ) : Type 0 where
  pub long : length sizes ≡ 1024
  pub at : (f : ℕ) → f < 1024 → get_or sizes f 0 ≡ length (filter (beside_owned kinds owners f) (upto n))

-- how many squares the arrow block f has
abbrev pub SquaresOf : List ℕ → List ℕ → ℕ → List ℕ → ℕ → Type 0
SquaresOf kinds owners n squares f = get_or squares f 0 ≡ length (filter (of_block kinds owners f) (upto n))

-- the names below 1024 that pass the test: marked, and listed once each in the first c places
pub record Listed (test : ℕ → Bool) (near groups : List ℕ) (c : ℕ) : Type 0 where
  pub marked : Marks near test
  pub long : length groups ≡ 1024
  pub few : c ≤ 1024
  pub distinct : Distinct (take c groups)
  pub listed : (m : ℕ) → Memᴰ m (take c groups) ↔ ((m < 1024) × (test m ≡ true))

-- some test passes for the names marked and listed
pub record Listing (near groups : List ℕ) (c : ℕ) : Type 0 where
  pub test : ℕ → Bool
  pub so_far : Listed test near groups c

-- the floating groups that touch a neighbour of f: marked by name, and listed once each
pub record NearFloats (v : View) (f : ℕ) (near groups : List ℕ) (r : ℕ) : Type 0 where
  pub marked : near ≡ mask_of v.grid (float_near v f)
  pub long : length groups ≡ 1024
  pub few : r ≤ 1024
  pub distinct : Distinct (take r groups)
  pub listed : (m : ℕ) → Memᴰ m (take r groups) ↔ ((m < 1024) × (float_near v f m ≡ true))
