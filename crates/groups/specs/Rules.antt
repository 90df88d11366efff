-- The block rules of a fully decided board, in an edition: 1, or 2 for free growth; and with sizes.
-- Assumes nothing.
use Rattle.std.specs.Prelude.{ℕ, ◌+◌, ◌≤◌, ◌<◌, ◌≡◌, Bool, true, false, cond, ◌&&◌, eqb, leb, ltb, length, get_or}
use mathlib.Core.List.{List, ◌∷◌, ◌++◌, Memᴰ}
use Rattle.grid.specs.Lists.{any, all, filter, flat_map}
use Rattle.grid.specs.Count.{HowMany}
use Rattle.grid.specs.Grid.{Grid, size, row, col}
use Rattle.record.specs.Record.{Puzzle}
use Rattle.record.specs.Leaf.{Range, Leaf}
use Rattle.grid.specs.Cells.{square}
use Rattle.grid.specs.Side.{lands}
use Rattle.groups.specs.Groups.{Joined, labels, group, names}
use Rattle.groups.specs.Arrows.{OnArrow, on_arrow, Pair, pairs}

-- a shift, which is a signed row and column offset: rows down − up, columns right − left
pub record Shift : Type 0 where
  pub up : ℕ
  pub down : ℕ
  pub left : ℕ
  pub right : ℕ

-- x, shifted, is y
pub record Moved (g : Grid) (s : Shift) (x y : ℕ) : Type 0 where
  pub rows : row g y + s.up ≡ row g x + s.down
  pub cols : col g y + s.left ≡ col g x + s.right

-- Q is a shifted copy of P plus exactly one square in edition 1, one or more in edition 2; no turning, no flipping
pub record Grown (e : ℕ) (g : Grid) (P Q : ℕ → Type 0) : Type 0 where
  pub shift : Shift
  pub copy : (x : ℕ) → P x → (y : ℕ) × Q y × Moved g shift x y
  pub extra : ℕ
  pub within : Q extra
  pub added : (x : ℕ) → P x → Moved g shift x extra → ⊥
  -- in edition 1 nothing else
  pub rest : e ≡ 1 → (y : ℕ) → Q y → (y ≡ extra → ⊥) → (x : ℕ) × P x × Moved g shift x y

-- j is in the block of the square i: the largest side-connected set of squares that i is in
abbrev pub SameBlock : Grid → List ℕ → ℕ → ℕ → Type 0
SameBlock g cells i j = Joined g (square cells) i j

module _ (p : Puzzle) (cells : List ℕ) where
  -- the block of i has exactly one arrow cell
  pub record OneArrowCell (i : ℕ) : Type 0 where
    pub cell : ℕ
    pub within : SameBlock p.grid cells i cell
    pub arrow : OnArrow p.arrows cell
    pub unique : (j : ℕ) → SameBlock p.grid cells i j → OnArrow p.arrows j → j ≡ cell

  -- i and j are squares of one arrow, i before j, with no square between
  pub record Next (i j : ℕ) : Type 0 where
    pub before : List ℕ
    pub between : List ℕ
    pub behind : List ℕ
    pub arrow : Memᴰ (before ++ (i ∷ (between ++ (j ∷ behind)))) p.arrows
    pub first : square cells i ≡ true
    pub second : square cells j ≡ true
    pub none : (k : ℕ) → Memᴰ k between → square cells k ≡ false

  -- the size of the block of a sized cell lies in its range, ends included
  pub record InRange (r : Range) : Type 0 where
    pub counted : ℕ
    pub block_size : HowMany (SameBlock p.grid cells r.cell) (size p.grid) counted
    pub least : r.lowest ≤ counted
    pub most : counted ≤ r.highest

module _ (l : Leaf) (cells : List ℕ) where
  -- the block rules, for a fully decided board
  pub record BlockRules : Type 0 where
    -- each block has exactly one arrow cell
    pub one : (i : ℕ) → i < size l.puzzle.grid → square cells i ≡ true → OneArrowCell l.puzzle cells i
    -- for two squares on one arrow with none between them, the later cell's block is the earlier cell's block, grown
    pub grown : (i j : ℕ) → Next l.puzzle cells i j
        → Grown l.edition l.puzzle.grid (SameBlock l.puzzle.grid cells i) (SameBlock l.puzzle.grid cells j)
    -- if a sized cell is square, its block's size lies in its range
    pub sized : (r : Range) → Memᴰ r l.sizes → square cells r.cell ≡ true → InRange l.puzzle cells r

-- shifts of sets: what the tests below mean

-- the shift that takes the cell f to the cell t
abbrev pub taking : Grid → ℕ → ℕ → Shift
taking g f t = record { up = row g f; down = row g t; left = col g f; right = col g t }

-- the shift of P lies wholly in Q
abbrev pub Contains : Grid → Shift → (ℕ → Type 0) → (ℕ → Type 0) → Type 0
Contains g s P Q = (x : ℕ) → P x → (y : ℕ) × Q y × Moved g s x y

-- P holds of cells of the grid only
abbrev pub Below : Grid → (ℕ → Type 0) → Type 0
Below g P = (c : ℕ) → P c → c < size g

-- the same as tests

-- the set b, shifted so that its cell f comes to t, lies in the set r
unfoldable pub fits : Grid → List ℕ → List ℕ → ℕ → ℕ → Bool
fits g b r f t = all (λ c. any (lands g f t c) r) b

-- a block of k squares after one of n: exactly one more in edition 1, one or more in edition 2
unfoldable pub more_test : ℕ → ℕ → ℕ → Bool
more_test e n k = cond (eqb e 1) (eqb k (n + 1)) (ltb n k)

module _ (p : Puzzle) (cells : List ℕ) where
  -- the block named f has exactly one arrow cell
  unfoldable pub one_test : List ℕ → ℕ → Bool
  one_test l f = eqb (length (filter (on_arrow p.arrows) (group p.grid (square cells) l f))) 1

  -- the second block of the pair is the first, grown
  unfoldable pub grown_test : ℕ → List ℕ → Pair → Bool
  grown_test e l pair =
      let f = get_or l pair.last 0 in
      let b = group p.grid (square cells) l f in
      let c = group p.grid (square cells) l (get_or l pair.cur 0) in
      more_test e (length b) (length c) && any (fits p.grid b c f) c

  -- if the cell of a range is square, its block's size lies in the range
  unfoldable pub sized_test : List ℕ → Range → Bool
  sized_test l r =
      let n = length (group p.grid (square cells) l (get_or l r.cell 0)) in
      cond (square cells r.cell) (leb r.lowest n && leb n r.highest) true

-- the block rules, computed
unfoldable pub rules_test : Leaf → List ℕ → Bool
rules_test l cells =
    let p = l.puzzle in
    let f = labels p.grid (square cells) in
    all (one_test p cells f) (names p.grid (square cells) f) && all (grown_test p cells l.edition f) (flat_map (pairs cells) p.arrows)
    && all (sized_test p cells f) l.sizes
