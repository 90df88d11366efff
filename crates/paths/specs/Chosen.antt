-- What reason 2 chooses and gives, in terms of cells that are joined. `reason2` of Paths computes it (reasons/proofs/Chosen.antt).
-- Assumes nothing.
use Rattle.std.specs.Prelude.{ℕ, ◌≤◌, ◌<◌, ◌⊎◌, ◌≡◌, List}
use Rattle.grid.specs.Cells.{Literal}
use Rattle.record.specs.Record.{Puzzle}
use Rattle.groups.specs.Arrows.{OnArrow}
use Rattle.groups.specs.Rules.{SameBlock}
use Rattle.paths.specs.BreadthFirst.{ByParents}

module _ (p : Puzzle) (cells : List ℕ) where
  -- a block with two or more arrow cells, the first two being a and b; its number f is its first cell in row order
  pub record Crossed (f a b : ℕ) : Type 0 where
    pub first : (j : ℕ) → SameBlock p.grid cells f j → f ≤ j
    pub one : SameBlock p.grid cells f a × OnArrow p.arrows a
    pub two : SameBlock p.grid cells f b × OnArrow p.arrows b
    pub order : a < b
    pub rest : (j : ℕ) → SameBlock p.grid cells f j → OnArrow p.arrows j → (j ≡ a) ⊎ (b ≤ j)

  -- reason 2: the lowest numbered block with two or more arrow cells, and the way from a by parents to b
  pub record Reason2 (r : List Literal) : Type 0 where
    pub number : ℕ
    pub a : ℕ
    pub b : ℕ
    pub crossed : Crossed number a b
    pub lowest : (f c d : ℕ) → Crossed f c d → number ≤ f
    pub way : ByParents p.grid cells a b r
