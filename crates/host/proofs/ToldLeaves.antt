-- Document 02, §8: the search on small leaves, and the bytes of the call, as computed theorems.
-- Assumes nothing.
use Prim.Native.Nat.{ℕ}
use mathlib.Core.Path.{◌≡◌, refl}
use mathlib.Core.List.{List, [], ◌∷◌}
use lib.IntN.{pos}
use Rattle.grid.specs.Lists.{range, upto, filter, any, all, last, init, tail, flat_map, member, how_many, once, array_of}
use Rattle.grid.specs.Grid.{size, cells_of, row, col, only, up, down, left, right, neighbours, touches}
use Rattle.grid.specs.Cells.{empty, square, undecided, potential}
use Rattle.record.specs.Record.{◌>>=◌, unless, bit, number, field, cell_codes, there, step_from, step_cells, arrow_at, filler, arrows_at, read_record, Outcome, ok, refused}
use Rattle.record.specs.Leaf.{is_edition, ranges_from, sizes_of, leaf_of}
use Rattle.board.specs.Board.{value_at, cells_after, decided, after, refusal}
use Rattle.groups.specs.Groups.{rename, join, join_all, edges, labels, group, names}
use Rattle.groups.specs.Arrows.{on_arrow, pairs_from, pairs}
use Rattle.groups.specs.Rules.{fits, more_test, one_test, grown_test, rules_test}
use Rattle.kinds.specs.Kinds.{is_floating, is_in, is_neighbour, kind_touching, arrow_block, blocks_touched, kind_at, kinds_of, has, view_with, view, block, float_near, in_reach, reach, disturbing, fence_at, fence}
use Rattle.literals.specs.Literals.{or_else, reason_if, first_found_of, each}
use Rattle.units.specs.Units.{reason1_at, reason1}
use Rattle.paths.specs.Paths.{appended, breadth_first, parent, path, reason2_at, reason2}
use Rattle.growth.specs.Growth.{most_apart, block_name, reason_grow, reason3_at, gap, reason_shrink, reason4_at, reason4a_at, reason4b_at, reason34}
use Rattle.sized.specs.Sized.{reason5}
use Rattle.reasons.specs.Reasons.{find_reason}
use Rattle.finished.specs.Finished.{keeps, keeps_all, two_squares, all_but_rules, finished_test}
use Rattle.certain.specs.Tree.{lowest, Reached, counted, both, stepped, search_in, search_of}
use Rattle.certain.specs.Facts.{seen, fact_of, facts_in, certainty, untold, known, certain_by}
use Rattle.exported.specs.Written.{bytes_of}
use Rattle.calls.specs.Call.{accept_or, decide_bytes}
use Rattle.calls.specs.Told.{certainty_number, step_bytes, certain_bytes, Said, said_of, host_certain}
use Rattle.host.proofs.Leaves.{S, pair_t}

-- two rows of three cells, one arrow along the first row
abbrev pub grid23 : List ℕ
grid23 = 0x08 ∷ 0x80 ∷ 0x08 ∷ 0x00 ∷ 0x00 ∷ 0x00 ∷ 0x17 ∷ 0x80 ∷ []

-- open a record in an edition, and search from these cells
abbrev search_from : List ℕ → ℕ → List ℕ → Outcome Reached
search_from s e cells = leaf_of s e [] >>= λ l. ok (search_of l cells)

-- the boards that are gathered
abbrev boards_from : List ℕ → ℕ → List ℕ → Outcome (List (List ℕ))
boards_from s e cells = leaf_of s e [] >>= λ l. ok (search_of l cells).boards

-- T is empty, after five steps: on a square it turns back at once. S has no finished board. Of six cells with an arrow there is one, and none with the
-- middle of the arrow square
pub searched :
    ◌≡◌ {A = List (Outcome Reached)}
    (search_from pair_t 1 (2 ∷ 2 ∷ [])
    ∷ search_from (S 0xE0) 1 (2 ∷ 2 ∷ 2 ∷ [])
    ∷ search_from grid23 1 (2 ∷ 2 ∷ 2 ∷ 2 ∷ 2 ∷ 2 ∷ [])
    ∷ search_from grid23 1 (2 ∷ 1 ∷ 2 ∷ 2 ∷ 2 ∷ 2 ∷ [])
    ∷ [])
    (ok (record { boards = (0 ∷ 0 ∷ []) ∷ []; steps = 5 })
    ∷ ok (record { boards = []; steps = 13 })
    ∷ ok (record { boards = (1 ∷ 0 ∷ 1 ∷ 0 ∷ 0 ∷ 1 ∷ []) ∷ []; steps = 63 })
    ∷ ok (record { boards = []; steps = 17 })
    ∷ [])
unfolding range upto last init tail member how_many once size cells_of row col only up down left right neighbours touches rename join join_all edges labels group names ◌>>=◌ unless bit number field cell_codes there step_from step_cells arrow_at filler arrows_at read_record is_edition ranges_from sizes_of leaf_of empty square undecided potential is_floating is_in is_neighbour kind_touching on_arrow arrow_block blocks_touched kind_at kinds_of has view_with view block float_near in_reach reach disturbing fence_at fence or_else reason_if first_found_of each reason1_at reason1 appended breadth_first parent path reason2_at reason2 pairs_from pairs fits more_test one_test grown_test rules_test most_apart block_name reason_grow reason3_at gap reason_shrink reason4_at reason4a_at reason4b_at reason34 reason5 find_reason keeps keeps_all two_squares all_but_rules finished_test lowest counted both stepped search_in search_of
searched = refl

-- in edition 2 there are two, in the search's order: square before empty
pub free_growth : boards_from grid23 2 (2 ∷ 2 ∷ 2 ∷ 2 ∷ 2 ∷ 2 ∷ []) ≡ ok ((1 ∷ 0 ∷ 1 ∷ 0 ∷ 1 ∷ 1 ∷ []) ∷ (1 ∷ 0 ∷ 1 ∷ 0 ∷ 0 ∷ 1 ∷ []) ∷ [])
unfolding range upto last init tail member how_many once size cells_of row col only up down left right neighbours touches rename join join_all edges labels group names ◌>>=◌ unless bit number field cell_codes there step_from step_cells arrow_at filler arrows_at read_record is_edition ranges_from sizes_of leaf_of empty square undecided potential is_floating is_in is_neighbour kind_touching on_arrow arrow_block blocks_touched kind_at kinds_of has view_with view block float_near in_reach reach disturbing fence_at fence or_else reason_if first_found_of each reason1_at reason1 appended breadth_first parent path reason2_at reason2 pairs_from pairs fits more_test one_test grown_test rules_test most_apart block_name reason_grow reason3_at gap reason_shrink reason4_at reason4a_at reason4b_at reason34 reason5 find_reason keeps keeps_all two_squares all_but_rules finished_test lowest counted both stepped search_in search_of
free_growth = refl

-- the bytes: the steps, and behind them the cells where they are told; no such board; spent one step short, and with a budget of 0; then the refusals in
-- their order
pub certain_bytes_lem :
    ◌≡◌ {A = List (Outcome Said)}
    (host_certain pair_t [] 5 10
    ∷ host_certain grid23 [] 63 14
    ∷ host_certain grid23 (0x80 ∷ 0x01 ∷ []) 1000 16
    ∷ host_certain pair_t [] 4 10
    ∷ host_certain pair_t [] 0 10
    ∷ host_certain (S 0xE1) (0x04 ∷ []) 5 10
    ∷ host_certain (S 0xE0) (0x04 ∷ []) 5 10
    ∷ host_certain (S 0xE0) (0x04 ∷ []) 5 11
    ∷ host_certain (S 0xE0) (0x80 ∷ 0x03 ∷ 0x04 ∷ 0x00 ∷ []) 5 11
    ∷ host_certain (S 0xE0) (0x80 ∷ 0x00 ∷ 0x00 ∷ 0x00 ∷ 0x00 ∷ []) 5 11
    ∷ [])
    (ok (record { number = pos 0; bytes = 0 ∷ 0 ∷ 0 ∷ 0 ∷ 0 ∷ 0 ∷ 0 ∷ 5 ∷ 0 ∷ 0 ∷ [] })
    ∷ ok (record { number = pos 0; bytes = 0 ∷ 0 ∷ 0 ∷ 0 ∷ 0 ∷ 0 ∷ 0 ∷ 63 ∷ 1 ∷ 0 ∷ 1 ∷ 0 ∷ 0 ∷ 1 ∷ [] })
    ∷ ok (record { number = pos 1; bytes = 0 ∷ 0 ∷ 0 ∷ 0 ∷ 0 ∷ 0 ∷ 0 ∷ 17 ∷ [] })
    ∷ ok (record { number = pos 2; bytes = 0 ∷ 0 ∷ 0 ∷ 0 ∷ 0 ∷ 0 ∷ 0 ∷ 4 ∷ [] })
    ∷ ok (record { number = pos 2; bytes = 0 ∷ 0 ∷ 0 ∷ 0 ∷ 0 ∷ 0 ∷ 0 ∷ 0 ∷ [] })
    ∷ refused 5
    ∷ refused 11
    ∷ refused 12
    ∷ refused 7
    ∷ refused 9
    ∷ [])
unfolding range upto last init tail member how_many once size cells_of row col only up down left right neighbours touches rename join join_all edges labels group names ◌>>=◌ unless bit number field cell_codes there step_from step_cells arrow_at filler arrows_at read_record is_edition ranges_from sizes_of leaf_of empty square undecided potential is_floating is_in is_neighbour kind_touching on_arrow arrow_block blocks_touched kind_at kinds_of has view_with view block float_near in_reach reach disturbing fence_at fence or_else reason_if first_found_of each reason1_at reason1 appended breadth_first parent path reason2_at reason2 pairs_from pairs fits more_test one_test grown_test rules_test most_apart block_name reason_grow reason3_at gap reason_shrink reason4_at reason4a_at reason4b_at reason34 reason5 find_reason keeps keeps_all two_squares all_but_rules finished_test lowest counted both stepped search_in search_of value_at cells_after decided after refusal accept_or decide_bytes array_of seen fact_of facts_in certainty untold known certain_by bytes_of certainty_number step_bytes certain_bytes said_of host_certain
certain_bytes_lem = refl
