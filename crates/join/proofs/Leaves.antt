-- Leaves for joining: a 2 by 1 and a 2 by 2 record, each with an arrow, joined in both orders; the widest that is taken; the order of the refusals; and the halves of a board.
-- Assumes nothing.
use Prim.Native.Nat.{ℕ}
use mathlib.Core.Path.{◌≡◌, refl}
use mathlib.Core.List.{List, [], ◌∷◌}
use Rattle.grid.specs.Lists.{range, upto, any, flat_map, member}
use Rattle.grid.specs.Grid.{size, cells_of, row, col, only, up, down, left, right}
use Rattle.grid.specs.Side.{sized}
use Rattle.fields.specs.Fields.{Outcome, ok, refused, ◌>>=◌, unless, bit, number, field, there, step_from, filler}
use Rattle.record.specs.Record.{cell_codes, step_cells, arrow_at, arrows_at, read_record}
use Rattle.record.specs.Write.{bits_of, value_of, pack, direction, step_bits, arrow_bits, record_bits, write_record}
use Rattle.join.specs.Join.{placed, cut, code_beside, codes_beside, join_puzzles, join_record}

-- 2 by 1: given square / plain; the arrow goes up
abbrev slim : List ℕ
slim = 8 ∷ 0 ∷ 12 ∷ 4 ∷ 0 ∷ 8 ∷ []

-- 2 by 2: plain, black / given square, plain; the arrow goes down, and then right
abbrev even : List ℕ
even = 8 ∷ 64 ∷ 8 ∷ 192 ∷ 0 ∷ 1 ∷ 56 ∷ []

-- without arrows: 1 by 1, 2 by 1, 1 by 30, 1 by 31, and a 1 by 1 with code 3
abbrev one : List ℕ
one = 0 ∷ 0 ∷ 0 ∷ []

abbrev tall : List ℕ
tall = 8 ∷ 0 ∷ 0 ∷ 0 ∷ []

abbrev thirty : List ℕ
thirty = 7 ∷ 64 ∷ 0 ∷ 0 ∷ 0 ∷ 0 ∷ 0 ∷ 0 ∷ 0 ∷ 0 ∷ 0 ∷ []

abbrev thirty_one : List ℕ
thirty_one = 7 ∷ 128 ∷ 0 ∷ 0 ∷ 0 ∷ 0 ∷ 0 ∷ 0 ∷ 0 ∷ 0 ∷ 0 ∷ []

abbrev bad : List ℕ
bad = 0 ∷ 0 ∷ 6 ∷ []

pub joins :
    ◌≡◌ {A = List (Outcome (List ℕ))}
    (join_record 11 slim even
    ∷ join_record 11 even slim
    ∷ join_record 4 one one
    ∷ join_record 11 thirty one
    ∷ join_record 0 bad []
    ∷ join_record 0 tall []
    ∷ join_record 0 tall thirty_one
    ∷ join_record 0 one thirty_one
    ∷ join_record 3 one one
    ∷ [])
    (ok (8 ∷ 192 ∷ 20 ∷ 136 ∷ 192 ∷ 64 ∷ 0 ∷ 128 ∷ 16 ∷ 4 ∷ 224 ∷ [])
    ∷ ok (8 ∷ 192 ∷ 16 ∷ 180 ∷ 32 ∷ 0 ∷ 1 ∷ 56 ∷ 70 ∷ 0 ∷ 128 ∷ [])
    ∷ ok (0 ∷ 128 ∷ 0 ∷ 128 ∷ [])
    ∷ ok (7 ∷ 192 ∷ 0 ∷ 0 ∷ 0 ∷ 0 ∷ 0 ∷ 0 ∷ 0 ∷ 0 ∷ 32 ∷ [])
    ∷ refused 2
    ∷ refused 1
    ∷ refused 18
    ∷ refused 19
    ∷ refused 15
    ∷ [])
unfolding range upto member size cells_of row col only up down left right ◌>>=◌ unless bit number field there step_from filler cell_codes step_cells arrow_at arrows_at read_record bits_of value_of pack direction step_bits arrow_bits record_bits write_record placed code_beside codes_beside join_puzzles join_record
joins = refl

-- of a board of 2 by 4 cells, each with its own number here: the halves of 2 by 1 and 2 by 2, beside the column 1
pub halves :
    ◌≡◌ {A = List (List ℕ)}
    (cut 0 (sized 2 1) 4 (upto 8) ∷ cut 2 (sized 2 2) 4 (upto 8) ∷ [])
    ((0 ∷ 4 ∷ []) ∷ (2 ∷ 3 ∷ 6 ∷ 7 ∷ []) ∷ [])
unfolding range upto size cells_of placed cut
halves = refl
