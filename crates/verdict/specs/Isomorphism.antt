-- Two boards that are the same up to the names of their cells, as a board and its turned image are.
-- Assumes nothing.
use Rattle.std.specs.Prelude.{ℕ, ◌<◌, ◌↔◌, ◌≡◌, get_or}
use mathlib.Core.List.{List, map, Memᴰ}
use Rattle.std.proofs.Math.Option.{none}
use Rattle.grid.specs.Grid.{size}
use Rattle.record.specs.Leaf.{Range, Leaf}
use Rattle.reasons.specs.Reasons.{find_reason}
use Rattle.embed.specs.Embedding.{Embedding}
use Rattle.verdict.specs.Applies.{Lone, TwoArrowCells, Unshiftable, Misgrown, OutOfRange}

-- the range r at the cell where f takes its cell
abbrev pub range_to : (ℕ → ℕ) → Range → Range
range_to f r = record { cell = f r.cell; lowest = r.lowest; highest = r.highest }

-- f takes the cells of l one to one onto those of m and keeps sides, shifts both ways, arrows with their order, states, the edition and the sizes, their order aside
pub record Isomorphism (l m : Leaf) (cells cells' : List ℕ) (f : ℕ → ℕ) : Type 0 where
  pub embeds : Embedding l.puzzle.grid m.puzzle.grid f
  pub onto : (j : ℕ) → j < size m.puzzle.grid → (i : ℕ) × (i < size l.puzzle.grid) × (f i ≡ j)
  pub arrows : m.puzzle.arrows ≡ map (map f) l.puzzle.arrows
  pub states : (i : ℕ) → i < size l.puzzle.grid → get_or cells' (f i) 0 ≡ get_or cells i 0
  pub edition : m.edition ≡ l.edition
  pub sizes : (r : Range) → Memᴰ r m.sizes ↔ Memᴰ r (map (range_to f) l.sizes)

-- each reason applies on both or on neither, and find gives none on both or on neither
pub record SameReasons (l m : Leaf) (cells cells' : List ℕ) : Type 0 where
  pub one : Lone l.puzzle cells ↔ Lone m.puzzle cells'
  pub two : TwoArrowCells l.puzzle cells ↔ TwoArrowCells m.puzzle cells'
  pub three : Unshiftable l.puzzle cells ↔ Unshiftable m.puzzle cells'
  pub four : Misgrown l.puzzle cells l.edition ↔ Misgrown m.puzzle cells' m.edition
  pub five : OutOfRange l.puzzle cells l.sizes ↔ OutOfRange m.puzzle cells' m.sizes
  pub find : (find_reason l cells ≡ none) ↔ (find_reason m cells' ≡ none)
