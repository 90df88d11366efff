-- What the functions for the reach promise each other.
-- Assumes nothing.
use Rattle.std.specs.Prelude.{ℕ, ◌+◌, ◌≡◌, Bool, true, false, cond, ◌&&◌, ◌||◌, List, map, eqb, ltb, length, get_or, set}
use Rattle.grid.specs.Lists.{upto, any, filter, array_of}
use Rattle.grid.specs.Grid.{Grid, neighbours}
use Rattle.groups.specs.Arrays.{mask_of}
use Rattle.kinds.specs.Kinds.{View, float_near, reach}
use Rattle.kinds.specs.Arrays.{reach_mask}

-- ---- reach

-- one of the cells js is in the floating group m
abbrev pub float_among : List ℕ → List ℕ → List ℕ → ℕ → Bool
float_among kinds owners js m = any (λ j. eqb (get_or kinds j 0) 4 && eqb (get_or owners j 0) m) js

-- cell i is a neighbour of f, and one of the cells js is in the floating group m
unfoldable pub near_at : List ℕ → List ℕ → ℕ → ℕ → List ℕ → ℕ → Bool
near_at kinds owners f i js m = eqb (get_or kinds i 0) 2 && eqb (get_or owners i 0) f && float_among kinds owners js m

-- among the first k cells a neighbour of f touches the floating group m
unfoldable pub near_among : List ℕ → List ℕ → Grid → ℕ → ℕ → ℕ → Bool
near_among kinds owners g f k m = any (λ i. near_at kinds owners f i (neighbours g i) m) (upto k)

-- a cell of the kind k and the owner o is in the reach of f; near marks the floating groups that touch a neighbour of f
unfoldable pub reaches : List ℕ → ℕ → ℕ → ℕ → Bool
reaches near f k o = cond (eqb k 1 || eqb k 2) (eqb o f) (cond (eqb k 4) (ltb o 1024 && eqb (get_or near o 0) 1) false)

-- cell i is marked and counted if the test passes
pub data Counted (test : Bool) (i : ℕ) (L : List ℕ) (c : ℕ) (L' : List ℕ) (r : ℕ) : Type 0 where
  miss : test ≡ false → L' ≡ L → r ≡ c → Counted test i L c L' r
  hit : test ≡ true → L' ≡ set L i 1 → r ≡ c + 1 → Counted test i L c L' r

-- cell i is in the reach of f
unfoldable pub reaches_at : List ℕ → List ℕ → List ℕ → ℕ → ℕ → Bool
reaches_at kinds owners near f i = reaches near f (get_or kinds i 0) (get_or owners i 0)

-- the first k cells are marked and counted
pub record Reached (kinds owners near : List ℕ) (f k : ℕ) (marks : List ℕ) (r : ℕ) : Type 0 where
  pub marked : marks ≡ array_of 0 (map (λ i. cond (reaches_at kinds owners near f i) 1 0) (upto k))
  pub number : r ≡ length (filter (reaches_at kinds owners near f) (upto k))

-- the reach of f as marks and its size, with the marks of the floating groups in it
pub record Reach (v : View) (f : ℕ) (near marks : List ℕ) (r : ℕ) : Type 0 where
  pub groups : near ≡ mask_of v.grid (float_near v f)
  pub marked : marks ≡ reach_mask v f
  pub number : r ≡ length (reach v f)
