-- The clause sheet: the clauses of a puzzle in four parts, their bytes, and what it is that a board satisfies them.
-- Assumes nothing.
use Rattle.std.specs.Prelude.{ℕ, ◌≡◌, Bool, cond, not, eqb, leb, length, get_or}
use mathlib.Core.List.{List, [], ◌∷◌, ◌++◌, map, Memᴰ}
use Rattle.grid.specs.Lists.{upto, filter, flat_map}
use Rattle.grid.specs.Grid.{Grid, cells_of, up, down, left, right}
use Rattle.grid.specs.Cells.{Literal, word}
use Rattle.record.specs.Record.{Outcome, ok, ◌>>=◌, unless, Puzzle, read_record}
use Rattle.groups.specs.Arrows.{on_arrow}
use Rattle.exported.specs.Written.{bytes_of}

-- a clause: literals of which one is to agree
abbrev pub Clause : Type 0
Clause = List Literal

-- ---- the first part

-- a cell i with the code c: black as 0, given as 1
unfoldable pub given_at : ℕ → ℕ → List Clause
given_at c i = cond (eqb c 1) (((i, 0) ∷ []) ∷ []) (cond (eqb c 2) (((i, 1) ∷ []) ∷ []) [])

-- ---- the second part

-- a touching pair: the cells i and j, both 0
abbrev pub apart : ℕ → ℕ → Clause
apart i j = (i, 0) ∷ (j, 0) ∷ []

-- the cell below i before the cell to its right
unfoldable pub onwards : Grid → ℕ → List ℕ
onwards g i = down g i ++ right g i

-- an arrow cell i with each arrow cell of these
unfoldable pub touching_at : (ℕ → Bool) → Grid → ℕ → List Clause
touching_at on g i = cond (on i) (map (apart i) (filter on (onwards g i))) []

-- ---- the third part

-- the neighbours of i, listed up, left, down, right
unfoldable pub around : Grid → ℕ → List ℕ
around g i = up g i ++ (left g i ++ (down g i ++ right g i))

-- the cell i with two of the cells l: the later at place a, the cell, the earlier at place b, all 0
abbrev pub between : ℕ → List ℕ → ℕ → ℕ → Clause
between i l a b = (get_or l a 0, 0) ∷ (i, 0) ∷ (get_or l b 0, 0) ∷ []

-- second with first, then third with first and second, and so on
unfoldable pub pairs_of : ℕ → List ℕ → List Clause
pairs_of i l = flat_map (λ a. map (between i l a) (upto a)) (upto (length l))

-- an off-arrow cell i with two of its arrow neighbours
unfoldable pub between_at : (ℕ → Bool) → Grid → ℕ → List Clause
between_at on g i = cond (on i) [] (pairs_of i (filter on (around g i)))

-- ---- the fourth part

-- the cells of the arrow a but that at place k, in arrow order, all 1
unfoldable pub others_of : List ℕ → ℕ → Clause
others_of a k = map (λ t. (get_or a t 0, 1)) (filter (λ t. not (eqb t k)) (upto (length a)))

-- for each cell of the arrow in arrow order, one other square
unfoldable pub arrow_clauses : List ℕ → List Clause
arrow_clauses a = map (others_of a) (upto (length a))

-- ---- the sheet: cells in row order, arrows in record order

module _ (p : Puzzle) where
  unfoldable pub given_part : List Clause
  given_part = flat_map (λ i. given_at (get_or p.given i 0) i) (cells_of p.grid)

  unfoldable pub touching_part : List Clause
  touching_part = flat_map (touching_at (on_arrow p.arrows) p.grid) (cells_of p.grid)

  unfoldable pub between_part : List Clause
  between_part = flat_map (between_at (on_arrow p.arrows) p.grid) (cells_of p.grid)

  unfoldable pub arrow_part : List Clause
  arrow_part = flat_map arrow_clauses p.arrows

  unfoldable pub sheet : List Clause
  sheet = given_part ++ (touching_part ++ (between_part ++ arrow_part))

-- a clause as bytes: a 16-bit count and that many literals, laid out as in the host call
unfoldable pub clause_bytes : Clause → List ℕ
clause_bytes c = bytes_of (length c ∷ map word c)

-- clauses one after another
unfoldable pub clauses_bytes : List Clause → List ℕ
clauses_bytes = flat_map clause_bytes

unfoldable pub sheet_bytes : Puzzle → List ℕ
sheet_bytes p = clauses_bytes (sheet p)

-- the sheet for an output of n bytes; 13 where that is too short for the whole sheet
unfoldable pub sheet_within : ℕ → Puzzle → Outcome (List ℕ)
sheet_within n p = unless (leb (length (sheet_bytes p)) n) 13 >>= λ _. ok (sheet_bytes p)

-- the sheet of the record s: the record's refusals, then 13
unfoldable pub sheet_for : ℕ → List ℕ → Outcome (List ℕ)
sheet_for n s = read_record s >>= sheet_within n

-- ---- what a clause says

-- the cells satisfy a clause: some literal of it has the value of its cell
pub record Satisfied (cells : List ℕ) (c : Clause) : Type 0 where
  pub index : ℕ
  pub value : ℕ
  pub among : Memᴰ (index, value) c
  pub agrees : get_or cells index 0 ≡ value

-- they satisfy every clause of the sheet
abbrev pub SheetHolds : Puzzle → List ℕ → Type 0
SheetHolds p cells = (c : Clause) → Memᴰ c (sheet p) → Satisfied cells c
