-- A record at the head of a longer file: its fields, and zero bits to the end of its last byte.
-- Assumes nothing.
use Rattle.std.specs.Prelude.{ℕ, zero, suc, ◌+◌, ◌*◌, List, [], ◌∷◌, ◌++◌, length}
use Rattle.grid.specs.Grid.{Grid, size}
use Rattle.fields.specs.Fields.{Outcome, ok, ◌>>=◌, unless, field, bytes_for, rest_zero}
use Rattle.record.specs.Record.{Puzzle, cell_codes, arrow_at}
use Rattle.record.specs.Problem.{arrow_cells}

-- m arrows from at, whatever stands behind them
unfoldable pub arrows_in : List ℕ → Grid → List ℕ → ℕ → ℕ → Outcome (List (List ℕ))
arrows_in s g used at zero = ok []
arrows_in s g used at (suc m) =
    arrow_at s g used at >>= λ a.
    arrows_in s g (a ++ used) (at + 18 + 2 * length a) m >>= λ rest.
    ok (a ∷ rest)

-- the puzzle of a record's fields, whatever stands behind them: the faults 1 to 4
unfoldable pub read_fields : List ℕ → Outcome Puzzle
read_fields s =
    field s 0 5 >>= λ h.
    field s 5 5 >>= λ w.
    field s 10 11 >>= λ m.
    let g : Grid = record { height = h + 1; width = w + 1 } in
    cell_codes s 21 (size g) >>= λ cs.
    arrows_in s g [] (21 + 2 * size g) m >>= λ rest.
    ok (record { grid = g; given = cs; arrows = rest })

-- how many bits the fields of a puzzle take
unfoldable pub head_bits : Puzzle → ℕ
head_bits p = 21 + 2 * size p.grid + 18 * length p.arrows + 2 * length (arrow_cells p.arrows)

-- the puzzle of a record at the head of a file, and the number of bytes that the record takes
pub record Head : Type 0 where
  pub puzzle : Puzzle
  pub bytes : ℕ

-- the head that the record of a puzzle is
unfoldable pub head_of : Puzzle → Head
head_of p = record { puzzle = p; bytes = bytes_for (head_bits p) }

-- the record at the head of a file, or its first fault; here 5 counts filler of the record only
unfoldable pub read_head : List ℕ → Outcome Head
read_head s =
    read_fields s >>= λ p.
    unless (rest_zero s (head_bits p)) 5 >>= λ _.
    ok (head_of p)

-- the puzzle alone
unfoldable pub puzzle_in : Outcome Head → Outcome Puzzle
puzzle_in o = o >>= λ h. ok h.puzzle
