-- What the inner functions of `compute_connected_components` promise each other about the counts and the first cells of the groups. L is the array of labels, st the stack and
-- c its count, as in Flood.
-- Assumes nothing.
use Rattle.std.specs.Prelude.{ℕ, ◌+◌, ◌<◌, ◌≡◌, Bool, ◌&&◌, List, eqb, length, get_or, take}
use Rattle.grid.specs.Lists.{upto, filter}
use Rattle.groups.specs.Arrays.{marked}

-- no cell has the label s
abbrev pub Unused : ℕ → List ℕ → Type 0
Unused s L = (j : ℕ) → j < 1024 → get_or L j 0 ≡ s → ⊥

-- the cells with the label f that pass the test t
abbrev pub labelled : List ℕ → (ℕ → Bool) → ℕ → List ℕ
labelled L t f = filter (λ j. eqb (get_or L j 0) f && t j) (upto 1024)

-- amid the flood from s: the x cells counted as they left the stack and those that wait on it are all that have the label, of those that pass
pub record Counting (s : ℕ) (t : ℕ → Bool) (L st : List ℕ) (c x : ℕ) : Type 0 where
  pub long : length L ≡ 1024
  pub stack_long : length st ≡ 1025
  pub sum : x + length (filter t (take c st)) ≡ length (labelled L t s)

-- for each name below s the cells that pass are counted
pub record Tallied (L : List ℕ) (t : ℕ → Bool) (s : ℕ) (counts : List ℕ) : Type 0 where
  pub long : length counts ≡ 1024
  pub at : (f : ℕ) → f < s → get_or counts f 0 ≡ length (labelled L t f)

-- the cells below s that are the first of their groups
abbrev pub firsts_below : List ℕ → ℕ → List ℕ
firsts_below L s = filter (λ j. eqb (get_or L j 0) j) (upto s)

-- they are listed
pub record Named (L : List ℕ) (s : ℕ) (firsts : List ℕ) (number : ℕ) : Type 0 where
  pub long : length firsts ≡ 1024
  pub list : take number firsts ≡ firsts_below L s
  pub count : number ≡ length (firsts_below L s)

-- the groups with a first cell below s are in the table
pub record Tabled (cells onarrow L : List ℕ) (s : ℕ) (firsts squares arrowed : List ℕ) (number : ℕ) : Type 0 where
  pub squares_are : Tallied L (marked cells) s squares
  pub arrowed_are : Tallied L (marked onarrow) s arrowed
  pub firsts_are : Named L s firsts number
