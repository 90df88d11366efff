-- Sheets by computing: the strip S, a grid of 2 by 3 with two arrows, an arrow of one cell, no arrow; and the refusals.
-- Assumes nothing.
use Prim.Native.Nat.{ℕ}
use mathlib.Core.Path.{◌≡◌, refl}
use mathlib.Core.List.{List, [], ◌∷◌}
use Rattle.grid.specs.Lists.{range, upto, member}
use Rattle.grid.specs.Grid.{size, cells_of, row, col, only, up, down, left, right}
use Rattle.grid.specs.Cells.{word}
use Rattle.record.specs.Record.{Outcome, ok, refused, ◌>>=◌, unless, bit, number, field, cell_codes, there, step_from, step_cells, arrow_at, filler, arrows_at, read_record}
use Rattle.groups.specs.Arrows.{on_arrow}
use Rattle.exported.specs.Written.{bytes_of}
use Rattle.clauses.specs.Clauses.{given_at, onwards, touching_at, around, pairs_of, between_at, others_of, arrow_clauses, given_part, touching_part, between_part, arrow_part, sheet, clause_bytes, clauses_bytes, sheet_bytes, sheet_within, sheet_for}

-- strip S of document 01
abbrev pub S : List ℕ
S = 0x00 ∷ 0x80 ∷ 0x08 ∷ 0x00 ∷ 0x00 ∷ 0x05 ∷ 0xE0 ∷ []

-- 2 by 3: plain, black, given / plain, plain, given; arrows 0 3 4 and 2 5
abbrev pub leaf : List ℕ
leaf = 8 ∷ 128 ∷ 16 ∷ 193 ∷ 0 ∷ 0 ∷ 19 ∷ 128 ∷ 64 ∷ 10 ∷ []

-- 1 by 1, an arrow of one cell
abbrev pub lonely : List ℕ
lonely = 0 ∷ 0 ∷ 8 ∷ 0 ∷ 0 ∷ 0 ∷ []

-- pair T: no arrow
abbrev pub pair_t : List ℕ
pair_t = 0x00 ∷ 0x40 ∷ 0x00 ∷ 0x00 ∷ []

pub sheets :
    ◌≡◌ {A = List (Outcome (List ℕ))}
    (sheet_for 30 S
    ∷ sheet_for 86 leaf
    ∷ sheet_for 85 leaf
    ∷ sheet_for 2 lonely
    ∷ sheet_for 1 lonely
    ∷ sheet_for 0 pair_t
    ∷ sheet_for 0 []
    ∷ [])
    (ok (0 ∷ 2 ∷ 0 ∷ 0 ∷ 0 ∷ 1 ∷ 0 ∷ 2 ∷ 0 ∷ 1 ∷ 0 ∷ 2 ∷ 0 ∷ 2 ∷ 128 ∷ 1 ∷ 128 ∷ 2 ∷ 0 ∷ 2 ∷ 128 ∷ 0 ∷ 128 ∷ 2 ∷ 0 ∷ 2 ∷ 128 ∷ 0 ∷ 128 ∷ 1 ∷ [])
    ∷ ok (0 ∷ 1 ∷ 0 ∷ 1 ∷ 0 ∷ 1 ∷ 128 ∷ 2 ∷ 0 ∷ 1 ∷ 128 ∷ 5 ∷ 0 ∷ 2 ∷ 0 ∷ 0 ∷ 0 ∷ 3 ∷ 0 ∷ 2 ∷ 0 ∷ 2 ∷ 0 ∷ 5 ∷ 0 ∷ 2 ∷ 0 ∷ 3 ∷ 0 ∷ 4 ∷ 0 ∷ 2 ∷ 0 ∷ 4 ∷ 0 ∷ 5 ∷ 0 ∷ 3 ∷ 0 ∷ 4 ∷ 0 ∷ 1 ∷ 0 ∷ 0 ∷ 0 ∷ 3 ∷ 0 ∷ 2 ∷ 0 ∷ 1 ∷ 0 ∷ 0 ∷ 0 ∷ 3 ∷ 0 ∷ 2 ∷ 0 ∷ 1 ∷ 0 ∷ 4 ∷ 0 ∷ 2 ∷ 128 ∷ 3 ∷ 128 ∷ 4 ∷ 0 ∷ 2 ∷ 128 ∷ 0 ∷ 128 ∷ 4 ∷ 0 ∷ 2 ∷ 128 ∷ 0 ∷ 128 ∷ 3 ∷ 0 ∷ 1 ∷ 128 ∷ 5 ∷ 0 ∷ 1 ∷ 128 ∷ 2 ∷ [])
    ∷ refused 13
    ∷ ok (0 ∷ 0 ∷ [])
    ∷ refused 13
    ∷ ok []
    ∷ refused 1
    ∷ [])
unfolding range upto member size cells_of row col only up down left right word ◌>>=◌ unless bit number field there step_from filler cell_codes step_cells arrow_at arrows_at read_record on_arrow given_at onwards touching_at around pairs_of between_at others_of arrow_clauses given_part touching_part between_part arrow_part sheet bytes_of clause_bytes clauses_bytes sheet_bytes sheet_within sheet_for
sheets = refl
