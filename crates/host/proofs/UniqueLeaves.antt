-- A certificate of one solution for a leaf of two rows of three cells with one arrow along the first row: what the call returns for it and for what is changed in it, as computed theorems.
-- Assumes nothing.
use Prim.Native.Nat.{ℕ, ◌+◌, ◌/◌, ◌%◌}
use mathlib.Core.Path.{◌≡◌, refl}
use mathlib.Core.List.{List, [], ◌∷◌, ◌++◌, map}
use lib.IntN.{ℤ, pos, neg_ℤ}
use lib.ListN.{length, take, drop}
use Rattle.grid.specs.Lists.{range, upto, filter, any, all, last, init, tail, flat_map, member, how_many, once, array_of}
use Rattle.grid.specs.Grid.{size, cells_of, row, col, only, up, down, left, right, neighbours, touches}
use Rattle.grid.specs.Cells.{empty, square, undecided, potential}
use Rattle.record.specs.Record.{◌>>=◌, unless, bit, number, field, cell_codes, there, step_cells, arrow_at, filler, arrows_at, read_record}
use Rattle.record.specs.Record as records
use Rattle.record.specs.Leaf.{is_edition, range_test, ranges_from, sizes_of}
use Rattle.groups.specs.Groups.{rename, join, join_all, edges, labels, group, names}
use Rattle.groups.specs.Arrows.{on_arrow, pairs_from, pairs}
use Rattle.groups.specs.Rules.{fits, more_test, one_test, grown_test, sized_test, rules_test}
use Rattle.kinds.specs.Kinds.{is_floating, is_in, is_neighbour, kind_touching, arrow_block, blocks_touched, kind_at, kinds_of, has, view_with, view, block, float_near, in_reach, reach, disturbing, fence_at, fence}
use Rattle.literals.specs.Literals.{or_else, reason_if, first_found_of, each}
use Rattle.units.specs.Units.{reason1_at, reason1}
use Rattle.paths.specs.Paths.{appended, breadth_first, parent, path, reason2_at, reason2}
use Rattle.growth.specs.Growth.{most_apart, block_name, reason_grow, reason3_at, gap, reason_shrink, reason4_at, reason4a_at, reason4b_at, reason34}
use Rattle.sized.specs.Sized.{reason_low, reason_high, reason5_at, reason5}
use Rattle.reasons.specs.Reasons.{find_reason}
use Rattle.finished.specs.Finished.{keeps, keeps_all, two_squares, all_but_rules, finished_test}
use Rattle.sizes.specs.Bytes.{numbers_in, sizes_in}
use Rattle.calls.specs.Call.{leaf_from}
use Rattle.certificate.specs.Certificate.{tag, word_at, words_of, whole_words, literal, whole, earlier, look_step, look_from, hint_of, assume_from, follow_from, hints_from, step_from, head_word, head_at, claimed, headed}
use Rattle.unique.specs.Unique.{base_cell, base_of, two_open, lonely, has_reason, refuted, close_of, step_of, steps_from, solution_or, host_unique, unique_returned}
use Rattle.host.proofs.ToldLeaves.{grid23}

-- the literals of a cell: it is square, it is empty
abbrev sq : ℕ → ℕ
sq i = 32768 + i

abbrev em : ℕ → ℕ
em i = i

-- a step of a clause and hints
abbrev step : List ℕ → List ℕ → List ℕ
step clause hints = (tag + length clause) ∷ (clause ++ (length hints ∷ hints))

-- words as bytes
abbrev bytes : List ℕ → List ℕ
bytes = flat_map (λ w. (w / 65536) ∷ (w / 256 % 256) ∷ (w % 256) ∷ [])

-- the solution has squares on the cells 0, 2 and 5. The first step stands at 0: a board that differs from it
abbrev head : List ℕ
head = step (em 0 ∷ sq 1 ∷ em 2 ∷ sq 3 ∷ sq 4 ∷ em 5 ∷ []) []

-- at 8 to 39: two cells of the arrow are square, and no two that are neighbours. So are the cells 0 and 2
abbrev arrow : List ℕ
arrow =
    step (sq 0 ∷ sq 1 ∷ []) [] ++ (step (sq 0 ∷ sq 2 ∷ []) [] ++ (step (em 1 ∷ em 2 ∷ []) [] ++ (step (sq 0 ∷ []) (8 ∷ 12 ∷ 16 ∷ [])
    ++ (step (em 0 ∷ em 1 ∷ []) [] ++ (step (sq 1 ∷ sq 2 ∷ []) [] ++ step (sq 2 ∷ []) (20 ∷ 26 ∷ 30 ∷ []))))))

-- at 40 to 55: then the block of 0 has one cell, and that of 2 has two
abbrev grown : List ℕ
grown = step (em 0 ∷ em 2 ∷ em 3 ∷ []) [] ++ (step (em 0 ∷ em 2 ∷ sq 5 ∷ []) [] ++ step (em 0 ∷ em 2 ∷ em 4 ∷ em 5 ∷ []) [])

-- at 56: so no board differs
abbrev ending : List ℕ
ending = step [] (20 ∷ 34 ∷ 26 ∷ 40 ∷ 45 ∷ 50 ∷ 0 ∷ [])

abbrev words : List ℕ
words = head ++ (arrow ++ (grown ++ ending))

-- what the call returns for these words
abbrev told : ℕ → List ℕ → List ℕ → ℤ
told e sizes ws = unique_returned (host_unique grid23 e sizes (bytes ws))

-- it is accepted in edition 1. In edition 2 the block of 2 may have three cells, and a step does not close; it does with a size of 2 beside that cell. Then the refusals: another edition and
-- a cut list of sizes; a byte that is left out, words that start elsewhere, another solution; a word that is left out, a literal of the seventh cell, a hint that is no place of a step; the last step left
-- out, and a word behind it
pub one_solution :
    ◌≡◌ {A = List ℤ}
    (told 1 [] words
    ∷ told 2 [] words
    ∷ told 2 (0 ∷ 2 ∷ 0 ∷ 2 ∷ 0 ∷ 2 ∷ []) words
    ∷ told 3 [] words
    ∷ told 1 (0 ∷ []) []
    ∷ unique_returned (host_unique grid23 1 [] (take 194 (bytes words)))
    ∷ told 1 [] (drop 8 words)
    ∷ told 1 [] (step (em 0 ∷ sq 1 ∷ em 2 ∷ sq 3 ∷ sq 4 ∷ sq 5 ∷ []) [])
    ∷ told 1 [] (take 64 words)
    ∷ told 1 [] (head ++ step (em 6 ∷ []) [])
    ∷ told 1 [] (head ++ (take 4 arrow ++ step (sq 0 ∷ []) (8 ∷ 9 ∷ [])))
    ∷ told 1 [] (take 56 words)
    ∷ told 1 [] (words ++ (0 ∷ []))
    ∷ [])
    (pos 1 ∷ map (λ k. neg_ℤ (pos k)) (29 ∷ []) ++ (pos 1 ∷ map (λ k. neg_ℤ (pos k)) (16 ∷ 22 ∷ 23 ∷ 24 ∷ 25 ∷ 26 ∷ 27 ∷ 28 ∷ 30 ∷ 30 ∷ [])))
unfolding range upto last init tail member how_many once array_of size cells_of row col only up down left right neighbours touches rename join join_all edges labels group names ◌>>=◌ unless bit number field cell_codes there step_cells arrow_at filler arrows_at read_record is_edition ranges_from sizes_of empty square undecided potential is_floating is_in is_neighbour kind_touching on_arrow arrow_block blocks_touched kind_at kinds_of has view_with view block float_near in_reach reach disturbing fence_at fence or_else reason_if first_found_of each reason1_at reason1 appended breadth_first parent path reason2_at reason2 pairs_from pairs fits more_test one_test grown_test rules_test most_apart block_name reason_grow reason3_at gap reason_shrink reason4_at reason4a_at reason4b_at reason34 reason5 find_reason keeps keeps_all two_squares all_but_rules finished_test sized_test reason_low reason_high reason5_at records.step_from range_test leaf_from numbers_in sizes_in word_at words_of whole_words literal whole earlier look_step look_from hint_of assume_from follow_from hints_from step_from head_word head_at claimed headed base_cell base_of two_open lonely has_reason refuted close_of step_of steps_from solution_or host_unique unique_returned
one_solution = refl
