-- A leaf: what the rules of the puzzle read. It is the puzzle of a record, the edition that it is played in, and the sizes beside some arrow cells.
-- Assumes nothing.
use Rattle.std.specs.Prelude.{ℕ, suc, Bool, ◌&&◌, ◌||◌, List, [], ◌∷◌, eqb, leb}
use Rattle.record.specs.Record.{Outcome, ok, refused, ◌>>=◌, unless, Puzzle, read_record}
use Rattle.record.specs.Arrows.{on_arrow}

-- a lowest and a highest size, printed beside a cell
pub record Range : Type 0 where
  pub cell : ℕ
  pub lowest : ℕ
  pub highest : ℕ

-- a puzzle, the edition that it is played in: 1, or 2 for free growth, and the sizes
pub record Leaf : Type 0 where
  pub puzzle : Puzzle
  pub edition : ℕ
  pub sizes : List Range

-- the puzzle p, played in the edition e, with these sizes
abbrev pub leaf_with : ℕ → List Range → Puzzle → Leaf
leaf_with e sizes p = record { puzzle = p; edition = e; sizes = sizes }

-- the same without sizes
abbrev pub in_edition : ℕ → Puzzle → Leaf
in_edition e p = leaf_with e [] p

-- there are two editions
unfoldable pub is_edition : ℕ → Bool
is_edition e = eqb e 1 || eqb e 2

-- the range of a cell
abbrev pub range_at : ℕ → ℕ → ℕ → Range
range_at c l h = record { cell = c; lowest = l; highest = h }

-- a range may stand: it does not start at 0, is not upside down, sits on an arrow, and its cell is `from` or more, above the cell before it
unfoldable pub range_test : (ℕ → Bool) → ℕ → Range → Bool
range_test on from r = leb 1 r.lowest && leb r.lowest r.highest && on r.cell && leb from r.cell

-- the ranges in a list of numbers, cell, lowest and highest for each, the cells rising from `from` on; a range that may not stand is refused, and a list that ends inside one
unfoldable pub ranges_from : (ℕ → Bool) → ℕ → List ℕ → Outcome (List Range)
ranges_from on from [] = ok []
ranges_from on from (c ∷ []) = refused 22
ranges_from on from (c ∷ l ∷ []) = refused 22
ranges_from on from (c ∷ l ∷ h ∷ ns) =
    unless (range_test on from (range_at c l h)) 22 >>= λ _.
    ranges_from on (suc c) ns >>= λ rs.
    ok (range_at c l h ∷ rs)

-- the sizes in a list of numbers, beside arrow cells of a puzzle
unfoldable pub sizes_of : Puzzle → List ℕ → Outcome (List Range)
sizes_of p ns = ranges_from (on_arrow p.arrows) 0 ns

-- the leaf of a record in an edition with sizes: the record's refusals, 1 to 5, then 16 for another edition, then 22 for sizes that may not stand
unfoldable pub leaf_of : List ℕ → ℕ → List ℕ → Outcome Leaf
leaf_of s e ns =
    read_record s >>= λ p.
    unless (is_edition e) 16 >>= λ _.
    sizes_of p ns >>= λ rs.
    ok (leaf_with e rs p)
