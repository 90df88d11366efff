-- The leaves of document 01: those that it stars as one computed theorem, and the others beside it; and those of document 02.
-- Assumes nothing.
use Prim.Native.Nat.{ℕ, ◌*◌}
use mathlib.Core.Path.{◌≡◌, refl}
use mathlib.Core.Bool.{Bool, true, false}
use mathlib.Core.List.{List, [], ◌∷◌, ◌++◌}
use mathlib.Core.Option.{none, some}
use lib.ListN.{replicate}
use Rattle.grid.specs.Lists.{range, upto, filter, any, all, last, init, tail, flat_map, member, once}
use Rattle.grid.specs.Grid.{size, cells_of, row, col, only, up, down, left, right, neighbours, touches}
use Rattle.record.specs.Record.{◌>>=◌, unless, bit, number, field, cell_codes, there, step_from, step_cells, arrow_at, filler, arrows_at, read_record, Puzzle, Outcome, ok, refused}
use Rattle.grid.specs.Cells.{empty, square, undecided, potential}
use Rattle.board.specs.Board.{value_at, cells_after, decided, after, refusal, after_all, Call, decide, find, enough}
use Rattle.groups.specs.Groups.{rename, join, join_all, edges, labels, group, names}
use Rattle.groups.specs.Arrows.{on_arrow, pairs_from, pairs}
use Rattle.record.specs.Leaf.{in_edition}
use Rattle.groups.specs.Rules.{fits, more_test, one_test, grown_test, rules_test}
use Rattle.kinds.specs.Kinds.{is_floating, is_in, is_neighbour, kind_touching, arrow_block, blocks_touched, kind_at, kinds_of, has, view_with, view, block, float_near, in_reach, reach, disturbing, fence_at, fence}
use Rattle.literals.specs.Literals.{or_else, reason_if, first_found_of, each, Found}
use Rattle.units.specs.Units.{reason1_at, reason1}
use Rattle.paths.specs.Paths.{appended, breadth_first, parent, path, reason2_at, reason2}
use Rattle.growth.specs.Growth.{most_apart, block_name, reason_grow, reason3_at, gap, reason_shrink, reason4_at, reason4a_at, reason4b_at, reason34}
use Rattle.sized.specs.Sized.{reason5}
use Rattle.reasons.specs.Reasons.{find_reason, find_on}
use Rattle.finished.specs.Finished.{keeps, keeps_all, two_squares, all_but_rules, finished_test}
use Rattle.calls.specs.Call.{accept_or, decide_bytes}
use Rattle.calls.specs.Found.{host_finds}
use Rattle.calls.specs.Judged.{host_finished}

-- open a record, decide in order, find
abbrev pub find_after : List ℕ → List Call → Outcome Found
find_after s cs = read_record s >>= λ p. ok (find_reason (in_edition 1 p) (cells_after p.grid (after_all p.grid cs [])))

-- open a record, make the calls, and ask for the refusal of one more: 0 for none
abbrev pub refusal_after : List ℕ → List Call → Call → Outcome ℕ
refusal_after s cs c = read_record s >>= λ p. ok (refusal p.grid c (after_all p.grid cs []))

-- strip S of document 01, with its last byte
abbrev pub S : ℕ → List ℕ
S z = 0x00 ∷ 0x80 ∷ 0x08 ∷ 0x00 ∷ 0x00 ∷ 0x05 ∷ z ∷ []

-- pair T
abbrev pub pair_t : List ℕ
pair_t = 0x00 ∷ 0x40 ∷ 0x00 ∷ 0x00 ∷ []

-- the grid of 2 by 5, one arrow along row 0
abbrev pub grid25 : List ℕ
grid25 = 0x09 ∷ 0x00 ∷ 0x08 ∷ 0x00 ∷ 0x00 ∷ 0x00 ∷ 0x00 ∷ 0x27 ∷ 0xF8 ∷ []

-- 0, 4, 8, 9 square, 1 and 5 empty
abbrev pub some25 : List Call
some25 = decide 0 1 ∷ decide 4 1 ∷ decide 8 1 ∷ decide 9 1 ∷ decide 1 0 ∷ decide 5 0 ∷ []

-- the leaves marked *
pub starred :
    ◌≡◌ {A = List (Outcome Found)}
    (find_after (S 0xE0) []
    ∷ find_after (S 0xE0) (decide 0 1 ∷ decide 1 1 ∷ [])
    ∷ find_after (S 0xE0) (decide 0 1 ∷ decide 2 1 ∷ [])
    ∷ find_after (S 0xE0) (decide 0 0 ∷ decide 1 0 ∷ decide 2 0 ∷ [])
    ∷ find_after pair_t (decide 1 1 ∷ [])
    ∷ find_after pair_t (decide 0 0 ∷ decide 1 1 ∷ [])
    ∷ find_after grid25 some25
    ∷ find_after grid25 (some25 ++ (decide 2 0 ∷ []))
    ∷ find_after (S 0xE1) []
    ∷ find_after (0x00 ∷ 0x80 ∷ 0x08 ∷ 0x00 ∷ 0x00 ∷ 0x05 ∷ []) []
    ∷ find_after (S 0xC0) []
    ∷ find_after (S 0x80) []
    ∷ find_after (0x00 ∷ 0x40 ∷ 0x01 ∷ 0x80 ∷ []) []
    ∷ [])
    (ok none
    ∷ ok (some ((0, 1) ∷ (1, 1) ∷ []))
    ∷ ok (some ((0, 1) ∷ (2, 1) ∷ (0, 1) ∷ []))
    ∷ ok none
    ∷ ok (some ((1, 1) ∷ []))
    ∷ ok (some ((0, 0) ∷ (1, 1) ∷ []))
    ∷ ok none
    ∷ ok (some ((4, 1) ∷ (8, 1) ∷ (9, 1) ∷ (0, 1) ∷ (1, 0) ∷ (5, 0) ∷ (2, 0) ∷ []))
    ∷ refused 5
    ∷ refused 1
    ∷ refused 4
    ∷ refused 3
    ∷ refused 2
    ∷ [])
unfolding range upto last init tail member once size cells_of row col only up down left right neighbours touches rename join join_all edges labels group names ◌>>=◌ unless bit number field cell_codes there step_from step_cells arrow_at filler arrows_at read_record value_at cells_after empty square undecided potential decided after after_all is_floating is_in is_neighbour kind_touching on_arrow arrow_block blocks_touched kind_at kinds_of has view_with view block float_near in_reach reach disturbing fence_at fence or_else reason_if first_found_of each reason1_at reason1 appended breadth_first parent path reason2_at reason2 pairs_from pairs fits most_apart block_name reason_grow reason3_at gap reason_shrink reason4_at reason4a_at reason4b_at reason34 reason5 find_reason
starred = refl

-- S: index 3 gives 7, cell 0 twice 9; find with 9 literals gives 11, with 10 not, and player 4 is given 17 with either
pub refusals :
    ◌≡◌ {A = List (Outcome ℕ)}
    (refusal_after (S 0xE0) [] (decide 3 1)
    ∷ refusal_after (S 0xE0) (decide 0 1 ∷ []) (decide 0 1)
    ∷ refusal_after (S 0xE0) [] (find 0 9)
    ∷ refusal_after (S 0xE0) [] (find 3 10)
    ∷ refusal_after (S 0xE0) [] (find 4 9)
    ∷ refusal_after (S 0xE0) [] (find 4 10)
    ∷ [])
    (ok 7 ∷ ok 9 ∷ ok 11 ∷ ok 0 ∷ ok 17 ∷ ok 17 ∷ [])
unfolding member size col only right ◌>>=◌ unless bit number field cell_codes there step_from step_cells arrow_at filler arrows_at read_record decided after refusal after_all enough
refusals = refl

-- the host call on S: its answer, and its refusals in their order
pub hosts :
    ◌≡◌ {A = List (Outcome Found)}
    (host_finds (S 0xE0) (0x80 ∷ 0x00 ∷ 0x80 ∷ 0x02 ∷ []) 20
    ∷ host_finds (S 0xE0) (0x80 ∷ 0x00 ∷ 0x80 ∷ 0x02 ∷ []) 19
    ∷ host_finds (S 0xE0) (0x80 ∷ 0x00 ∷ 0x80 ∷ []) 20
    ∷ host_finds (S 0xE0) (0x80 ∷ 0x03 ∷ 0x80 ∷ []) 20
    ∷ host_finds (S 0xE0) (0x80 ∷ 0x00 ∷ 0x00 ∷ 0x00 ∷ []) 20
    ∷ host_finds (S 0xE0) (0x84 ∷ 0x03 ∷ []) 20
    ∷ [])
    (ok (some ((0, 1) ∷ (2, 1) ∷ (0, 1) ∷ [])) ∷ refused 11 ∷ refused 12 ∷ refused 7 ∷ refused 9 ∷ refused 12 ∷ [])
unfolding range upto member once size cells_of row col only up down left right neighbours touches rename join join_all edges labels group names ◌>>=◌ unless bit number field cell_codes there step_from step_cells arrow_at filler arrows_at read_record value_at cells_after empty square undecided potential decided after refusal is_floating is_in is_neighbour kind_touching on_arrow arrow_block blocks_touched kind_at kinds_of has view_with view block in_reach reach disturbing fence_at fence or_else reason_if first_found_of each reason1_at reason1 reason2_at reason2 pairs_from pairs fits block_name reason_grow reason3_at reason4_at reason4a_at reason34 reason5 find_reason find_on accept_or decide_bytes enough host_finds
hosts = refl

-- a row of five cells, an arrow along its first four
abbrev pub row5 : List ℕ
row5 = 0x01 ∷ 0x00 ∷ 0x08 ∷ 0x00 ∷ 0x00 ∷ 0x00 ∷ 0x7F ∷ 0x80 ∷ []

-- document 02, §1: S with no square, and with one; T with none; blocks of one square and of two on an arrow. Then the refusals in their order
pub crowned :
    ◌≡◌ {A = List (Outcome Bool)}
    (host_finished (S 0xE0) (0x00 ∷ 0x00 ∷ 0x00 ∷ 0x01 ∷ 0x00 ∷ 0x02 ∷ [])
    ∷ host_finished (S 0xE0) (0x80 ∷ 0x00 ∷ 0x00 ∷ 0x01 ∷ 0x00 ∷ 0x02 ∷ [])
    ∷ host_finished pair_t (0x00 ∷ 0x00 ∷ 0x00 ∷ 0x01 ∷ [])
    ∷ host_finished row5 (0x80 ∷ 0x00 ∷ 0x00 ∷ 0x01 ∷ 0x00 ∷ 0x02 ∷ 0x80 ∷ 0x03 ∷ 0x80 ∷ 0x04 ∷ [])
    ∷ host_finished (S 0xE1) (0x04 ∷ [])
    ∷ host_finished (S 0xE0) (0x84 ∷ 0x03 ∷ [])
    ∷ host_finished (S 0xE0) (0x80 ∷ 0x03 ∷ 0x04 ∷ 0x00 ∷ [])
    ∷ host_finished (S 0xE0) (0x80 ∷ 0x00 ∷ 0x00 ∷ 0x00 ∷ 0x00 ∷ [])
    ∷ host_finished (S 0xE0) (0x80 ∷ 0x00 ∷ 0x00 ∷ [])
    ∷ [])
    (ok false ∷ ok false ∷ ok true ∷ ok true ∷ refused 5 ∷ refused 12 ∷ refused 7 ∷ refused 9 ∷ refused 12 ∷ [])
unfolding range upto member size cells_of row col only up down left right neighbours rename join join_all edges labels group names ◌>>=◌ unless bit number field cell_codes there step_from step_cells arrow_at filler arrows_at read_record value_at cells_after square decided after refusal on_arrow pairs_from pairs fits more_test one_test grown_test rules_test keeps keeps_all two_squares all_but_rules finished_test accept_or decide_bytes host_finished
crowned = refl

-- a puzzle of h rows and w columns, all plain, with one arrow
abbrev pub plain : ℕ → ℕ → List ℕ → Puzzle
plain h w a = record { grid = record { height = h; width = w }; given = replicate (h * w) 0; arrows = a ∷ [] }

-- two boards that tell the tempting faults: a barrier taken for reachable, and 4 tested before every pair has passed 3
pub tempting :
    ◌≡◌ {A = List Found}
    (find_reason (in_edition 1 (plain 1 3 (2 ∷ 1 ∷ 0 ∷ []))) (1 ∷ 2 ∷ 1 ∷ [])
    ∷ find_reason (in_edition 1 (plain 2 4 (7 ∷ 6 ∷ 5 ∷ 1 ∷ 2 ∷ 3 ∷ []))) (1 ∷ 0 ∷ 1 ∷ 0 ∷ 1 ∷ 1 ∷ 0 ∷ 1 ∷ [])
    ∷ [])
    (some ((2, 1) ∷ (0, 1) ∷ (2, 1) ∷ [])
    ∷ some ((0, 1) ∷ (4, 1) ∷ (5, 1) ∷ (2, 1) ∷ (1, 0) ∷ (3, 0) ∷ (6, 0) ∷ [])
    ∷ [])
unfolding range upto member once size cells_of row col only up down left right neighbours touches rename join join_all edges labels group names empty square undecided potential is_floating is_in is_neighbour kind_touching on_arrow arrow_block blocks_touched kind_at kinds_of has view_with view block in_reach reach disturbing fence_at fence or_else reason_if first_found_of each reason1_at reason1 reason2_at reason2 pairs_from pairs fits block_name reason_grow reason3_at reason4_at reason4a_at reason34 reason5 find_reason
tempting = refl
