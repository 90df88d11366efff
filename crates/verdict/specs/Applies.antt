-- That a reason applies: said by linked cells, arrow cells, pairs of squares of an arrow, reach and sizes. No group is named and no order of rows is used.
-- The definitions give a reason exactly where it applies (proofs/Applied.antt).
-- Assumes nothing.
use Rattle.std.specs.Prelude.{ℕ, ◌+◌, ◌<◌, ◌↔◌, ◌⊎◌, ◌≢◌, ◌≡◌, false, length, get_or}
use Rattle.std.proofs.Math.Bool.{So}
use mathlib.Core.List.{List, Memᴰ}
use Rattle.std.proofs.Math.Option.{some}
use Rattle.grid.specs.Lists.{init, tail, flat_map}
use Rattle.grid.specs.Grid.{size}
use Rattle.grid.specs.Cells.{Literal, square, undecided}
use Rattle.grid.specs.Count.{HowMany}
use Rattle.record.specs.Record.{Puzzle}
use Rattle.record.specs.Leaf.{Range, Leaf}
use Rattle.groups.specs.Arrows.{OnArrow, Pair, pairs}
use Rattle.groups.specs.Rules.{SameBlock, Shift, Contains, Next}
use Rattle.kinds.specs.Kinds.{view}
use Rattle.kinds.specs.Meaning.{partial_in, Reach}
use Rattle.literals.specs.Literals.{Found, first_found_of}
use Rattle.units.specs.Units.{reason1}
use Rattle.units.specs.Chosen.{SamePotential}
use Rattle.paths.specs.Paths.{reason2}
use Rattle.growth.specs.Growth.{most_apart, reason3_at, reason4_at}
use Rattle.growth.specs.Gap.{Most}
use Rattle.sized.specs.Sized.{reason5}
use Rattle.reasons.specs.Reasons.{find_reason}

-- so many cells of the grid of p satisfy P
abbrev pub Size : Puzzle → (ℕ → Type 0) → ℕ → Type 0
Size p P n = HowMany P (size p.grid) n

module _ (p : Puzzle) (cells : List ℕ) where
  -- the cells of the block of i
  abbrev pub BlockOf : ℕ → ℕ → Type 0
  BlockOf = SameBlock p.grid cells

  -- the cells of the reach of the block of i
  abbrev pub ReachOf : ℕ → ℕ → Type 0
  ReachOf = Reach (partial_in p cells)

  -- 1. a square whose potential group has no arrow cell
  pub record Lone : Type 0 where
    pub cell : ℕ
    pub filled : So (square cells cell)
    pub none : (c : ℕ) → SamePotential p.grid cells cell c → ¬ OnArrow p.arrows c

  -- 2. two arrow cells in one block
  pub record TwoArrowCells : Type 0 where
    pub a : ℕ
    pub b : ℕ
    pub one : OnArrow p.arrows a
    pub two : OnArrow p.arrows b
    pub differ : a ≢ b
    pub joined : BlockOf a b

  -- 3. no shift of last's block lies wholly in cur's reach
  abbrev pub NoShift : ℕ → ℕ → Type 0
  NoShift last cur = (s : Shift) → ¬ Contains p.grid s (BlockOf last) (ReachOf cur)

  -- .. for some squares last and cur of an arrow with none between
  pub record Unshiftable : Type 0 where
    pub last : ℕ
    pub cur : ℕ
    pub next : Next p cells last cur
    pub no_shift : NoShift last cur

  -- 4 (a). cur's reach has fewer cells than last's block plus 1
  pub record TooSmall (last cur : ℕ) : Type 0 where
    pub reached : ℕ
    pub filled : ℕ
    pub reach_size : Size p (ReachOf cur) reached
    pub block_size : Size p (BlockOf last) filled
    pub less : reached < filled + 1

  -- 4 (b). the size of last's reach + 1 + g is less than the size of cur's block; between are the cells between the two, and the gap is between without its ends
  pub record TooLarge (last : ℕ) (between : List ℕ) (cur : ℕ) : Type 0 where
    pub reached : ℕ
    pub filled : ℕ
    pub reach_size : Size p (ReachOf last) reached
    pub block_size : Size p (BlockOf cur) filled
    pub less : reached + 1 + most_apart cells false (tail (init between)) < filled

  -- 4, in the edition e. (a) or, in edition 1, (b), for some squares last and cur of an arrow with none between
  pub record Misgrown (e : ℕ) : Type 0 where
    pub last : ℕ
    pub cur : ℕ
    pub next : Next p cells last cur
    pub wrong : TooSmall last cur ⊎ ((e ≡ 1) × TooLarge last next.between cur)

  -- the reach of a sized cell's block is smaller than the lowest
  pub record TooLow (r : Range) : Type 0 where
    pub reached : ℕ
    pub reach_size : Size p (ReachOf r.cell) reached
    pub less : reached < r.lowest

  -- a sized cell's block is larger than the highest
  pub record TooHigh (r : Range) : Type 0 where
    pub filled : ℕ
    pub block_size : Size p (BlockOf r.cell) filled
    pub more : r.highest < filled

  -- 5. the one or the other, for some sized cell that is square
  pub record OutOfRange (sizes : List Range) : Type 0 where
    pub range : Range
    pub listed : Memᴰ range sizes
    pub filled : So (square cells range.cell)
    pub wrong : TooLow range ⊎ TooHigh range

-- some reason applies on the cells of a leaf
pub data Applies (l : Leaf) (cells : List ℕ) : Type 0 where
  first : Lone l.puzzle cells → Applies l cells
  second : TwoArrowCells l.puzzle cells → Applies l cells
  third : Unshiftable l.puzzle cells → Applies l cells
  fourth : Misgrown l.puzzle cells l.edition → Applies l cells
  fifth : OutOfRange l.puzzle cells l.sizes → Applies l cells

-- a reason is given
abbrev pub Given : Found → Type 0
Given f = (r : List Literal) × (f ≡ some r)

-- the pairs of squares of an arrow with none between, of all arrows
abbrev pub pairs_of : Puzzle → List ℕ → List Pair
pairs_of p cells = flat_map (pairs cells) p.arrows

-- the definitions give each reason exactly where it applies, and find gives one exactly where some reason applies
pub record Meant (l : Leaf) (cells : List ℕ) : Type 1 where
  pub one : Given (reason1 l.puzzle cells) ↔ Lone l.puzzle cells
  pub two : Given (reason2 l.puzzle cells) ↔ TwoArrowCells l.puzzle cells
  pub three : Given (first_found_of (reason3_at (view l.puzzle cells)) (pairs_of l.puzzle cells)) ↔ Unshiftable l.puzzle cells
  pub four : Given (first_found_of (λ q. reason4_at (view l.puzzle cells) q l.edition) (pairs_of l.puzzle cells)) ↔ Misgrown l.puzzle cells l.edition
  -- what the gap of 4 (b) counts: the most undecided positions, no two of them consecutive
  pub gap : (is : List ℕ) → Most (λ k. So (undecided cells (get_or is k 0))) (length is) (most_apart cells false is)
  pub five : Given (reason5 (view l.puzzle cells) l.sizes) ↔ OutOfRange l.puzzle cells l.sizes
  pub some : Given (find_reason l cells) ↔ Applies l cells
