-- The text of document 01's example, and of the answers beside it.
-- Assumes nothing.
use Prim.Native.Nat.{ℕ}
use mathlib.Core.Path.{◌≡◌, refl}
use mathlib.Core.List.{List, [], ◌∷◌, ◌++◌}
use Rattle.grid.specs.Lists.{range, upto, filter, any, all, last, init, tail, flat_map, member, once}
use Rattle.grid.specs.Grid.{size, cells_of, row, col, only, up, down, left, right, neighbours, touches}
use Rattle.record.specs.Record.{◌>>=◌, unless, bit, number, field, cell_codes, there, step_from, step_cells, arrow_at, filler, arrows_at, read_record}
use Rattle.grid.specs.Cells.{empty, square, undecided, potential}
use Rattle.board.specs.Board.{value_at, cells_after, decided, after, refusal, after_all, enough}
use Rattle.groups.specs.Groups.{rename, join, join_all, edges, labels, group, names}
use Rattle.groups.specs.Arrows.{on_arrow, pairs_from, pairs}
use Rattle.groups.specs.Rules.{fits}
use Rattle.kinds.specs.Kinds.{is_floating, is_in, is_neighbour, kind_touching, arrow_block, blocks_touched, kind_at, kinds_of, has, view_with, view, block, float_near, in_reach, reach, disturbing, fence_at, fence}
use Rattle.literals.specs.Literals.{or_else, reason_if, first_found_of, each}
use Rattle.units.specs.Units.{reason1_at, reason1}
use Rattle.paths.specs.Paths.{appended, breadth_first, parent, path, reason2_at, reason2}
use Rattle.growth.specs.Growth.{most_apart, block_name, reason_grow, reason3_at, gap, reason_shrink, reason4_at, reason4a_at, reason4b_at, reason34}
use Rattle.sized.specs.Sized.{reason5}
use Rattle.reasons.specs.Reasons.{find_reason, find_on}
use Rattle.calls.specs.Call.{accept_or, decide_bytes}
use Rattle.calls.specs.Found.{host_finds}
use Rattle.host.proofs.Leaves.{S}
use Rattle.text.specs.Text.{digits_within, digits, line, none_text, reason_text, refused_text, two_words, literal_line}
use Rattle.answer.specs.Program.{text_of, output_limit, answer_of, input_answer, program_finds, printed}

-- the program's example, `none`, and the refusals that it tests itself
pub prints :
    ◌≡◌ {A = List (List ℕ)}
    (printed (0x00 ∷ 0x07 ∷ (S 0xE0 ++ (0x80 ∷ 0x00 ∷ 0x80 ∷ 0x02 ∷ [])))
    ∷ printed (0x00 ∷ 0x07 ∷ S 0xE0)
    ∷ printed (0x00 ∷ 0x08 ∷ S 0xE0)
    ∷ printed (0x00 ∷ [])
    ∷ [])
    ((114 ∷ 101 ∷ 97 ∷ 115 ∷ 111 ∷ 110 ∷ 32 ∷ 51 ∷ 10 ∷ 48 ∷ 32 ∷ 49 ∷ 10 ∷ 50 ∷ 32 ∷ 49 ∷ 10 ∷ 48 ∷ 32 ∷ 49 ∷ 10 ∷ [])
    ∷ (110 ∷ 111 ∷ 110 ∷ 101 ∷ 10 ∷ [])
    ∷ (114 ∷ 101 ∷ 102 ∷ 117 ∷ 115 ∷ 101 ∷ 100 ∷ 32 ∷ 49 ∷ 10 ∷ [])
    ∷ (114 ∷ 101 ∷ 102 ∷ 117 ∷ 115 ∷ 101 ∷ 100 ∷ 32 ∷ 49 ∷ 10 ∷ [])
    ∷ [])
unfolding range upto last init tail member once size cells_of row col only up down left right neighbours touches rename join join_all edges labels group names ◌>>=◌ unless bit number field cell_codes there step_from step_cells arrow_at filler arrows_at read_record value_at cells_after empty square undecided potential decided after refusal after_all is_floating is_in is_neighbour kind_touching on_arrow arrow_block blocks_touched kind_at kinds_of has view_with view block float_near in_reach reach disturbing fence_at fence or_else reason_if first_found_of each reason1_at reason1 appended breadth_first parent path reason2_at reason2 pairs_from pairs fits most_apart block_name reason_grow reason3_at gap reason_shrink reason4_at reason4a_at reason4b_at reason34 reason5 find_reason find_on accept_or decide_bytes enough host_finds digits_within digits line none_text reason_text refused_text two_words literal_line text_of output_limit answer_of input_answer program_finds printed
prints = refl
