-- What the inner functions of `compute_connected_components` promise each other. L is the array of labels, st the stack and
-- c its count; s is the cell that the flood starts from, and L₀ the labels before it. The first part also serves the floating groups of kinds.
-- Assumes nothing.
use Rattle.std.specs.Prelude.{ℕ, ◌+◌, ◌-◌, ◌*◌, ◌≤◌, ◌<◌, ◌≡◌, Bool, false, cond, List, length, get_or, set, Option, Some, None}
use Rattle.std.proofs.Math.Bool.{So}
use Rattle.grid.specs.Lists.{how_many}
use Rattle.grid.specs.Grid.{Adjacent, Grid}
use Rattle.groups.specs.Groups.{Joined}
use Rattle.groups.specs.Arrays.{no_group}
use Rattle.groups.specs.Table.{Counting}

-- ---- labelling one group after another, each from its first cell

-- stands for the label of a cell that is in a group and has no label yet
abbrev pub unlabelled : ℕ
unlabelled = 1025

-- how many entries have no label yet
abbrev pub free : List ℕ → ℕ
free = how_many unlabelled

-- only cells that pass have no label yet
abbrev pub Only : (ℕ → Bool) → List ℕ → Type 0
Only p L = (j : ℕ) → get_or L j 0 ≡ unlabelled → So (p j)

-- the cells that pass, and no others, have no label yet
pub record Unlabelled (p : ℕ → Bool) (L : List ℕ) : Type 0 where
  pub only : Only p L
  pub all : (j : ℕ) → So (p j) → get_or L j 0 ≡ unlabelled

module _ (g : Grid) (p : ℕ → Bool) where
  -- the label of j is as it was, or is s and new, and j is joined to i
  pub data Kept (i s : ℕ) (L L' : List ℕ) (j : ℕ) : Type 0 where
    same : get_or L' j 0 ≡ get_or L j 0 → Kept i s L L' j
    new : get_or L j 0 ≡ unlabelled → get_or L' j 0 ≡ s → Joined g p i j → Kept i s L L' j

  -- every neighbour of j that passes has a label
  abbrev pub Shut : List ℕ → ℕ → Type 0
  Shut L j = (k : ℕ) → Adjacent g j k → So (p k) → get_or L k 0 ≡ unlabelled → ⊥

  -- cells joined to i got the label s, and every neighbour of each that passes has a label
  pub record Added (i s : ℕ) (L L' : List ℕ) : Type 0 where
    pub long : length L' ≡ length L
    pub kept : (j : ℕ) → Kept i s L L' j
    pub done : (j : ℕ) → get_or L j 0 ≡ unlabelled → get_or L' j 0 ≡ s → Shut L' j

  -- what a walk from i does, by a stack or by recursion: i has a label too, if it passes
  pub record Walked (i s : ℕ) (L L' : List ℕ) : Type 0 where
    pub added : Added i s L L'
    pub seed : So (p i) → get_or L' i 0 ≡ unlabelled → ⊥

  -- the entry at j is no label yet, or a label below s: that of a cell joined to j that does not come behind j
  pub data Right (s : ℕ) (L : List ℕ) (j : ℕ) : Type 0 where
    none : get_or L j 0 ≡ unlabelled → Right s L j
    some : get_or L j 0 < s → get_or L j 0 ≤ j → Joined g p (get_or L j 0) j → Right s L j

  -- every group with a cell below s is labelled, and the entries of cells that do not pass are as in L₀, the labels before the first group had one
  pub record Sofar (L₀ : List ℕ) (s : ℕ) (L : List ℕ) : Type 0 where
    pub long : length L ≡ length L₀
    pub only : Only p L
    pub right : (j : ℕ) → So (p j) → Right s L j
    pub full : (j : ℕ) → j < s → So (p j) → get_or L j 0 ≡ unlabelled → ⊥
    pub closed : (j k : ℕ) → Adjacent g j k → So (p j) → So (p k) → (get_or L j 0 ≡ unlabelled → ⊥) → get_or L k 0 ≡ get_or L j 0
    pub others : (j : ℕ) → p j ≡ false → get_or L j 0 ≡ get_or L₀ j 0

-- ---- the flood

-- the cell q can be offered: the stack has room for it
pub record Offerable (q s : ℕ) (L : List ℕ) (c : ℕ) : Type 0 where
  pub cell : q < 1024
  pub seed : s < 1024
  pub room : c + free L ≤ 1024

-- before the first flood: the cells below n that pass have no label yet, and no other cell is in a group
pub record Marked (p : ℕ → Bool) (n : ℕ) (L : List ℕ) : Type 0 where
  pub long : length L ≡ 1024
  pub below : (j : ℕ) → j < n → get_or L j 0 ≡ cond (p j) unlabelled no_group
  pub behind : (j : ℕ) → n ≤ j → j < 1024 → get_or L j 0 ≡ no_group

-- the cell q is offered: it is labelled s and counted on the stack if it has no label yet
pub data Offered (q s : ℕ) (L st : List ℕ) (c : ℕ) (L' st' : List ℕ) (r : ℕ) : Type 0 where
  skip : (get_or L q 0 ≡ unlabelled → ⊥) → L' ≡ L → st' ≡ set st c q → r ≡ c → Offered q s L st c L' st' r
  take : get_or L q 0 ≡ unlabelled → L' ≡ set L q s → st' ≡ set st c q → r ≡ c + 1 → Offered q s L st c L' st' r

-- the neighbour in a direction is offered, if there is one
pub data OfferedSide (side : Option ℕ) (s : ℕ) (L st : List ℕ) (c : ℕ) (L' st' : List ℕ) (r : ℕ) : Type 0 where
  beyond : None ≡ side → L' ≡ L → st' ≡ st → r ≡ c → OfferedSide side s L st c L' st' r
  within : (q : ℕ) → Some q ≡ side → Offered q s L st c L' st' r → OfferedSide side s L st c L' st' r

module _ (g : Grid) (p : ℕ → Bool) where
  -- amid the flood from s: i is the cell whose neighbours are being offered, and 1024 between two such cells
  pub record Flooding (s : ℕ) (L₀ : List ℕ) (i : ℕ) (L st : List ℕ) (c : ℕ) : Type 0 where
    pub long : length L ≡ length L₀
    pub stack_long : length st ≡ 1025
    pub room : c + free L ≤ 1024
    pub only : Only p L₀
    pub kept : (j : ℕ) → Kept g p s s L₀ L j
    pub waiting : (t : ℕ) → t < c → Joined g p s (get_or st t 0)
    pub done : (j : ℕ) → get_or L₀ j 0 ≡ unlabelled → get_or L j 0 ≡ s → ((t : ℕ) → t < c → get_or st t 0 ≡ j → ⊥) → (j ≡ i → ⊥) → Shut g p L j

  -- what a turn of the flood's loop does: the cell on top of the stack is taken and its neighbours are offered
  pub record Spread (s : ℕ) (L st : List ℕ) (c : ℕ) (L' st' : List ℕ) (r : ℕ) : Type 0 where
    pub keeps : (L₀ : List ℕ) → Flooding s L₀ 1024 L st c → Flooding s L₀ 1024 L' st' r
    pub stays : (k : ℕ) → (get_or L k 0 ≡ unlabelled → ⊥) → get_or L' k 0 ≡ unlabelled → ⊥
    pub falls : 2 * free L' + r < 2 * free L + c
    pub counts : (t : ℕ → Bool) (x : ℕ) → Counting s t L st (c - 1) x → Counting s t L' st' r x

-- what a turn asks, on a grid of n cells
pub record Ready (n s : ℕ) (L st : List ℕ) (c : ℕ) : Type 0 where
  pub seed : s < 1024
  pub count : 0 < c
  pub room : c + free L ≤ 1024
  pub top : get_or st (c - 1) 0 < n
