-- Leaves for files: a grid of 2 by 3 with one arrow along its first row, grade 5 and a solution. They pin where the tail begins and where its parts stand, and the order of the refusals.
-- Assumes nothing.
use Prim.Native.Nat.{ℕ}
use mathlib.Core.Path.{◌≡◌, refl}
use mathlib.Core.List.{List, [], ◌∷◌, ◌++◌}
use Rattle.grid.specs.Lists.{range, upto, member}
use Rattle.grid.specs.Grid.{size, cells_of, row, col, only, up, down, left, right, neighbours}
use Rattle.grid.specs.Cells.{square}
use Rattle.fields.specs.Fields.{Outcome, ok, refused, ◌>>=◌, unless, bit, number, field, there, step_from, filler, bytes_for, rest_zero}
use Rattle.record.specs.Record.{Puzzle, cell_codes, step_cells, arrow_at}
use Rattle.record.specs.Leaf.{is_edition}
use Rattle.record.specs.Problem.{arrow_cells}
use Rattle.record.specs.Head.{arrows_in, read_fields, head_bits, head_of, read_head}
use Rattle.record.specs.Write.{bits_of, value_of, pack, direction, step_bits, arrow_bits, record_bits, write_record}
use Rattle.groups.specs.Groups.{rename, join, join_all, edges, labels, group, names}
use Rattle.groups.specs.Arrows.{on_arrow, pairs_from, pairs}
use Rattle.groups.specs.Rules.{fits, more_test, one_test, grown_test, rules_test}
use Rattle.finished.specs.Finished.{keeps, keeps_all, two_squares, all_but_rules, finished_test}
use Rattle.file.specs.File.{tail_test, grade_in, solution_in, graded_in, solved_in, player_behind, setter_behind, read_player, read_setter, write_tail, write_file}
use Rattle.file.specs.Call.{Given, to_player, to_setter, player_within, setter_within, player_given, setter_given}

-- 2 by 3, all plain, an arrow over 0 1 2: 57 bits in 8 bytes
abbrev pub leaf : List ℕ
leaf = 8 ∷ 128 ∷ 8 ∷ 0 ∷ 0 ∷ 0 ∷ 23 ∷ 128 ∷ []

abbrev puzzle : Puzzle
puzzle = record { grid = record { height = 2; width = 3 }; given = 0 ∷ 0 ∷ 0 ∷ 0 ∷ 0 ∷ 0 ∷ []; arrows = (0 ∷ 1 ∷ 2 ∷ []) ∷ [] }

-- the same with a bit of its filler set
abbrev pub unfilled : List ℕ
unfilled = 8 ∷ 128 ∷ 8 ∷ 0 ∷ 0 ∷ 0 ∷ 23 ∷ 129 ∷ []

-- grade 5 and 0, 2, 5 square: finished in both editions
abbrev pub solved : List ℕ
solved = 180 ∷ 128 ∷ []

-- grade 5 and 0, 2, 4, 5 square: the second block has two squares more, so it is finished in edition 2 alone
abbrev pub grown : List ℕ
grown = 181 ∷ 128 ∷ []

abbrev given : List ℕ → Outcome Given
given bytes = ok (record { length = 8; bytes = bytes })

-- the player's call, with an output of so many bytes
pub played :
    ◌≡◌ {A = List (Outcome Given)}
    (player_given 1 (leaf ++ solved)
    ∷ player_given 1 (leaf ++ grown)
    ∷ player_given 1 leaf
    ∷ player_given 1 (leaf ++ (0 ∷ []))
    ∷ player_given 1 (leaf ++ (180 ∷ 128 ∷ 0 ∷ []))
    ∷ player_given 1 (leaf ++ (180 ∷ 129 ∷ []))
    ∷ player_given 0 (leaf ++ (180 ∷ 129 ∷ []))
    ∷ player_given 1 (unfilled ++ solved)
    ∷ player_given 0 unfilled
    ∷ player_given 0 (8 ∷ 128 ∷ 8 ∷ [])
    ∷ [])
    (given (5 ∷ [])
    ∷ given (5 ∷ [])
    ∷ refused 20
    ∷ refused 20
    ∷ refused 20
    ∷ refused 20
    ∷ refused 11
    ∷ refused 5
    ∷ refused 5
    ∷ refused 1
    ∷ [])
unfolding range upto member size col only up down left right ◌>>=◌ unless bit number field there step_from filler bytes_for rest_zero cell_codes step_cells arrow_at arrow_cells arrows_in read_fields head_bits head_of read_head tail_test grade_in graded_in player_behind player_within to_player player_given
played = refl

-- the setter's call, with an output of so many bytes and in an edition
pub set :
    ◌≡◌ {A = List (Outcome Given)}
    (setter_given 7 1 (leaf ++ solved)
    ∷ setter_given 7 2 (leaf ++ solved)
    ∷ setter_given 7 1 (leaf ++ grown)
    ∷ setter_given 7 2 (leaf ++ grown)
    ∷ setter_given 7 3 (leaf ++ grown)
    ∷ setter_given 7 0 (leaf ++ (0 ∷ 0 ∷ []))
    ∷ setter_given 7 3 (leaf ++ (180 ∷ 129 ∷ []))
    ∷ setter_given 6 3 (leaf ++ (180 ∷ 129 ∷ []))
    ∷ setter_given 6 3 unfilled
    ∷ [])
    (given (5 ∷ 1 ∷ 0 ∷ 1 ∷ 0 ∷ 0 ∷ 1 ∷ [])
    ∷ given (5 ∷ 1 ∷ 0 ∷ 1 ∷ 0 ∷ 0 ∷ 1 ∷ [])
    ∷ refused 21
    ∷ given (5 ∷ 1 ∷ 0 ∷ 1 ∷ 0 ∷ 1 ∷ 1 ∷ [])
    ∷ refused 16
    ∷ refused 16
    ∷ refused 20
    ∷ refused 11
    ∷ refused 5
    ∷ [])
unfolding range upto member size cells_of row col only up down left right neighbours square ◌>>=◌ unless bit number field there step_from filler bytes_for rest_zero cell_codes step_cells arrow_at is_edition arrow_cells arrows_in read_fields head_bits head_of read_head rename join join_all edges labels group names on_arrow pairs_from pairs fits more_test one_test grown_test rules_test keeps keeps_all two_squares all_but_rules finished_test tail_test grade_in solution_in graded_in solved_in setter_behind setter_within to_setter setter_given
set = refl

-- the two readers and the writer
pub told :
    (read_player (leaf ++ solved) ≡ ok (record { head = record { puzzle = puzzle; bytes = 8 }; grade = 5 }))
    × (read_setter 1 (leaf ++ solved) ≡ ok (record { graded = record { head = record { puzzle = puzzle; bytes = 8 }; grade = 5 }; solution = 1 ∷ 0 ∷ 1 ∷ 0 ∷ 0 ∷ 1 ∷ [] }))
    × (write_file puzzle 5 (1 ∷ 0 ∷ 1 ∷ 0 ∷ 0 ∷ 1 ∷ []) ≡ leaf ++ solved)
unfolding range upto member size cells_of row col only up down left right neighbours square ◌>>=◌ unless bit number field there step_from filler bytes_for rest_zero cell_codes step_cells arrow_at is_edition arrow_cells arrows_in read_fields head_bits head_of read_head bits_of value_of pack direction step_bits arrow_bits record_bits write_record rename join join_all edges labels group names on_arrow pairs_from pairs fits more_test one_test grown_test rules_test keeps keeps_all two_squares all_but_rules finished_test tail_test grade_in solution_in graded_in solved_in player_behind setter_behind read_player read_setter write_tail write_file
told = (refl, refl, refl)
