-- What reason 1 chooses and gives, in terms of cells that are joined. `reason1` of Units computes it (reasons/proofs/Chosen.antt).
-- Assumes nothing.
use Rattle.std.specs.Prelude.{ℕ, ◌≤◌, ◌↔◌, ◌≡◌}
use Rattle.std.proofs.Math.Bool.{So}
use mathlib.Core.List.{List, [], ◌∷◌, ◌++◌, Memᴰ}
use Rattle.grid.specs.Lists.{Rising}
use Rattle.grid.specs.Grid.{Grid, Adjacent}
use Rattle.grid.specs.Cells.{Literal, empty, square, potential}
use Rattle.record.specs.Record.{Puzzle}
use Rattle.groups.specs.Groups.{Joined}
use Rattle.groups.specs.Arrows.{OnArrow}
use Rattle.literals.specs.Literals.{each}

-- j is in the potential group of i: the largest side-connected set of cells that aren't empty that i is in
abbrev pub SamePotential : Grid → List ℕ → ℕ → ℕ → Type 0
SamePotential g cells i j = Joined g (potential cells) i j

module _ (p : Puzzle) (cells : List ℕ) where
  -- a potential group with a square and no arrow cell; its number f is its first cell in row order
  pub record Stranded (f : ℕ) : Type 0 where
    pub first : (j : ℕ) → SamePotential p.grid cells f j → f ≤ j
    pub some : (j : ℕ) × SamePotential p.grid cells f j × So (square cells j)
    pub none : (j : ℕ) → SamePotential p.grid cells f j → ¬ OnArrow p.arrows j

  -- the empty cells that touch the potential group as 0, rising, each once; then its last square in row order
  pub record Boundary (f : ℕ) (r : List Literal) : Type 0 where
    pub empties : List ℕ
    pub rising : Rising empties
    pub exact : (i : ℕ) → Memᴰ i empties ↔ (So (empty cells i) × ((j : ℕ) × Adjacent p.grid i j × SamePotential p.grid cells f j))
    pub last : ℕ
    pub within : SamePotential p.grid cells f last
    pub filled : So (square cells last)
    pub latest : (j : ℕ) → SamePotential p.grid cells f j → So (square cells j) → j ≤ last
    pub literals : r ≡ each 0 empties ++ each 1 (last ∷ [])

  -- reason 1: the lowest numbered potential group with a square and no arrow cell, and its literals
  pub record Reason1 (r : List Literal) : Type 0 where
    pub number : ℕ
    pub stranded : Stranded number
    pub lowest : (f : ℕ) → Stranded f → number ≤ f
    pub boundary : Boundary number r
