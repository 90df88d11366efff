-- Joining two puzzles of equal height: the left grid, a column of black cells, the right grid; the left's arrows and then the right's.
-- Assumes nothing.
use Rattle.std.specs.Prelude.{ℕ, ◌+◌, ◌-◌, ◌*◌, ◌/◌, ◌%◌, ◌<◌, ◌≡◌, cond, List, ◌++◌, map, eqb, ltb, leb, length, get_or}
use Rattle.grid.specs.Grid.{Grid, row, col, cells_of}
use Rattle.fields.specs.Fields.{Outcome, ok, ◌>>=◌, unless}
use Rattle.record.specs.Record.{Puzzle, read_record}
use Rattle.record.specs.Write.{write_record}

-- the two grids, with a column between them
abbrev pub beside : Grid → Grid → Grid
beside g h = record { height = g.height; width = g.width + 1 + h.width }

-- where the cell i of a grid of w columns comes, when that grid stands from the column d on in one of m columns
unfoldable pub placed : ℕ → ℕ → ℕ → ℕ → ℕ
placed d w m i = i / w * m + (d + i % w)

-- the cells of the grid g, cut out of those of a board of m columns, from the column d on
unfoldable pub cut : ℕ → Grid → ℕ → List ℕ → List ℕ
cut d g m cells = map (λ i. get_or cells (placed d g.width m i) 0) (cells_of g)

-- the code at row y, column x: one of the codes l of a columns, black in the column behind them, then one of the codes r of b columns
unfoldable pub code_beside : List ℕ → ℕ → List ℕ → ℕ → ℕ → ℕ → ℕ
code_beside l a r b y x = cond (ltb x a) (get_or l (y * a + x) 0) (cond (eqb x a) 1 (get_or r (y * b + (x - (a + 1))) 0))

module _ (p q : Puzzle) where
  -- the joined grid
  abbrev pub joined_grid : Grid
  joined_grid = beside p.grid q.grid

  -- where the cells of the left puzzle come
  abbrev pub left_cell : ℕ → ℕ
  left_cell = placed 0 p.grid.width joined_grid.width

  -- where those of the right one come: behind the left's columns and the column between
  abbrev pub right_cell : ℕ → ℕ
  right_cell = placed (p.grid.width + 1) q.grid.width joined_grid.width

  -- the codes of the joined puzzle, cell by cell
  unfoldable pub codes_beside : List ℕ
  codes_beside = map (λ j. code_beside p.given p.grid.width q.given q.grid.width (row joined_grid j) (col joined_grid j)) (cells_of joined_grid)

  -- the joined puzzle
  abbrev pub joined : Puzzle
  joined = record {
    grid = joined_grid;
    given = codes_beside;
    arrows = map (map left_cell) p.arrows ++ map (map right_cell) q.arrows;
  }

  -- the left half of a board of the joined puzzle
  abbrev pub left_half : List ℕ → List ℕ
  left_half = cut 0 p.grid joined_grid.width

  -- the right half
  abbrev pub right_half : List ℕ → List ℕ
  right_half = cut (p.grid.width + 1) q.grid joined_grid.width

  -- the column between the halves is empty
  abbrev pub ColumnEmpty : List ℕ → Type 0
  ColumnEmpty cells = (y : ℕ) → y < joined_grid.height → get_or cells (y * joined_grid.width + p.grid.width) 0 ≡ 0

-- the joined record of two puzzles for an output of n bytes: 18 for unequal heights, then 19 for a joined width above 32, then 15 for an output that is shorter than the record
unfoldable pub join_puzzles : ℕ → Puzzle → Puzzle → Outcome (List ℕ)
join_puzzles n p q =
    unless (eqb p.grid.height q.grid.height) 18 >>= λ _.
    unless (leb (joined_grid p q).width 32) 19 >>= λ _.
    unless (leb (length (write_record (joined p q))) n) 15 >>= λ _.
    ok (write_record (joined p q))

-- that of two records: the left's own refusals, 1 to 5, then the right's, and then those of the two puzzles
unfoldable pub join_record : ℕ → List ℕ → List ℕ → Outcome (List ℕ)
join_record n s t =
    read_record s >>= λ p.
    read_record t >>= λ q.
    join_puzzles n p q
