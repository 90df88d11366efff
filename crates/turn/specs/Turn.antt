-- Turning: k from 0 to 7 flips left and right first if k is 4 or more, then makes k modulo 4 quarter turns clockwise.
-- Assumes nothing.
use Rattle.std.specs.Prelude.{ℕ, zero, suc, ◌+◌, ◌-◌, ◌*◌, ◌%◌, Bool, true, false, cond, List, map, ltb, leb, length, get_or}
use Rattle.grid.specs.Grid.{Grid, row, col, cells_of}
use Rattle.fields.specs.Fields.{Outcome, ok, ◌>>=◌, unless}
use Rattle.record.specs.Record.{Puzzle, read_record}
use Rattle.record.specs.Write.{write_record}

-- a turn of a grid: the grid that it makes, the cell that each cell goes to, and the one that each comes from
pub record Turn : Type 0 where
  pub grid : Grid
  pub to : ℕ → ℕ
  pub from : ℕ → ℕ

-- rows for columns
abbrev pub swapped : Grid → Grid
swapped g = record { height = g.width; width = g.height }

-- the cell in the same row, as far from the right as this is from the left
unfoldable pub flip_cell : Grid → ℕ → ℕ
flip_cell g i = row g i * g.width + (g.width - 1 - col g i)

-- after a quarter turn clockwise the first row is the last column
unfoldable pub quarter_cell : Grid → ℕ → ℕ
quarter_cell g i = col g i * g.height + (g.height - 1 - row g i)

-- the cell of g that comes to the cell j of the turned grid
unfoldable pub quarter_from : Grid → ℕ → ℕ
quarter_from g j = (g.height - 1 - col (swapped g) j) * g.width + row (swapped g) j

abbrev pub stay : Grid → Turn
stay g = record { grid = g; to = λ i. i; from = λ i. i }

-- left and right flipped
abbrev pub flip : Grid → Turn
flip g = record { grid = g; to = flip_cell g; from = flip_cell g }

-- a quarter turn clockwise
abbrev pub quarter : Grid → Turn
quarter g = record { grid = swapped g; to = quarter_cell g; from = quarter_from g }

-- one turn, and then another
abbrev pub then : Turn → (Grid → Turn) → Turn
then m s = record { grid = (s m.grid).grid; to = λ i. (s m.grid).to (m.to i); from = λ j. m.from ((s m.grid).from j) }

-- r quarter turns after m
unfoldable pub quarters : ℕ → Turn → Turn
quarters zero m = m
quarters (suc r) m = then (quarters r m) quarter

-- flipped, or not
unfoldable pub flip_if : Bool → Grid → Turn
flip_if true g = flip g
flip_if false g = stay g

-- turning k
unfoldable pub turning : ℕ → Grid → Turn
turning k g = quarters (k % 4) (flip_if (leb 4 k) g)

-- a list with a value for each cell, turned: codes, or the cells of a board
unfoldable pub carried : Turn → List ℕ → List ℕ
carried m l = map (λ j. get_or l (m.from j) 0) (cells_of m.grid)

-- a puzzle, turned; the arrows stay in order
abbrev pub turned_by : Turn → Puzzle → Puzzle
turned_by m p = record { grid = m.grid; given = carried m p.given; arrows = map (map m.to) p.arrows }

-- the puzzle, turned by k
unfoldable pub turned : ℕ → Puzzle → Puzzle
turned k p = turned_by (turning k p.grid) p

-- a board of the puzzle, turned by k
unfoldable pub turned_cells : ℕ → Grid → List ℕ → List ℕ
turned_cells k g cells = carried (turning k g) cells

-- the turning that undoes k: the turns left to four, and a flipped one itself
unfoldable pub inverse : ℕ → ℕ
inverse k = cond (leb 4 k) k ((4 - k) % 4)

-- the turned record for an output of n bytes: refusals 1 to 5, then 14 for k above 7, then 15 for an output shorter than the record
unfoldable pub turn_record : ℕ → ℕ → List ℕ → Outcome (List ℕ)
turn_record k n s =
    read_record s >>= λ p.
    unless (ltb k 8) 14 >>= λ _.
    unless (leb (length s) n) 15 >>= λ _.
    ok (write_record (turned k p))
