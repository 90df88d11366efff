-- Reason 4 goes pair by pair, (a) and then (b) for each, in the order of the record: a board that tells it from the other readings.
-- Assumes nothing.
use Prim.Native.Nat.{ℕ}
use mathlib.Core.Path.{◌≡◌, refl}
use mathlib.Core.List.{List, [], ◌∷◌}
use mathlib.Core.Option.{some}
use lib.ListN.{replicate}
use Rattle.grid.specs.Lists.{range, upto, filter, any, all, last, init, tail, flat_map, member, once}
use Rattle.grid.specs.Grid.{size, cells_of, row, col, only, up, down, left, right, neighbours, touches}
use Rattle.record.specs.Record.{Puzzle}
use Rattle.grid.specs.Cells.{empty, square, undecided, potential}
use Rattle.groups.specs.Groups.{rename, join, join_all, edges, labels, group, names}
use Rattle.groups.specs.Arrows.{on_arrow, pairs_from, pairs}
use Rattle.record.specs.Leaf.{in_edition}
use Rattle.groups.specs.Rules.{fits}
use Rattle.kinds.specs.Kinds.{View, is_floating, is_in, is_neighbour, kind_touching, arrow_block, blocks_touched, kind_at, kinds_of, has, view_with, view, block, float_near, in_reach, reach, disturbing, fence_at, fence}
use Rattle.literals.specs.Literals.{Found, or_else, reason_if, first_found_of, each}
use Rattle.units.specs.Units.{reason1_at, reason1}
use Rattle.paths.specs.Paths.{appended, breadth_first, parent, path, reason2_at, reason2}
use Rattle.growth.specs.Growth.{most_apart, block_name, reason_grow, reason3_at, gap, reason_shrink, reason4_at, reason4a_at, reason4b_at, reason34}
use Rattle.sized.specs.Sized.{reason5}
use Rattle.reasons.specs.Reasons.{find_reason}

-- a row of nine plain cells with two arrows
abbrev pub nine : List ℕ → List ℕ → Puzzle
nine a b = record { grid = record { height = 1; width = 9 }; given = replicate 9 0; arrows = a ∷ b ∷ [] }

-- one from cell 0 to cell 2, one from cell 6 to cell 8
abbrev pub front : List ℕ
front = 0 ∷ 1 ∷ 2 ∷ []

abbrev pub back : List ℕ
back = 6 ∷ 7 ∷ 8 ∷ []

-- 0, 2, 3, 4, 6 and 8 square, the others empty: (b) applies to the first pair, (a) to the second, and 3 to neither
abbrev pub blocks : List ℕ
blocks = 1 ∷ 0 ∷ 1 ∷ 1 ∷ 1 ∷ 0 ∷ 1 ∷ 0 ∷ 1 ∷ []

-- another reading: (a) for every pair, and then (b) for every pair
abbrev pub a_then_b : View → Found
a_then_b v =
    let ps = flat_map (pairs v.cells) v.arrows in
    or_else (first_found_of (reason4a_at v) ps) (first_found_of (reason4b_at v) ps)

-- find gives (b) of the first pair, where the other reading gives (a) of the second; with the arrows in the other order find gives that one too
pub pair_by_pair :
    ◌≡◌ {A = List Found}
    (find_reason (in_edition 1 (nine front back)) blocks ∷ a_then_b (view (nine front back) blocks) ∷ find_reason (in_edition 1 (nine back front)) blocks ∷ [])
    (some ((2, 1) ∷ (3, 1) ∷ (4, 1) ∷ (0, 1) ∷ (1, 0) ∷ [])
    ∷ some ((6, 1) ∷ (8, 1) ∷ (7, 0) ∷ [])
    ∷ some ((6, 1) ∷ (8, 1) ∷ (7, 0) ∷ [])
    ∷ [])
unfolding range upto last init tail member once size cells_of row col only up down left right neighbours touches rename join join_all edges labels group names empty square undecided potential is_floating is_in is_neighbour kind_touching on_arrow arrow_block blocks_touched kind_at kinds_of has view_with view block float_near in_reach reach disturbing fence_at fence or_else reason_if first_found_of each reason1_at reason1 appended breadth_first parent path reason2_at reason2 pairs_from pairs fits most_apart block_name reason_grow reason3_at gap reason_shrink reason4_at reason4a_at reason4b_at reason34 reason5 find_reason
pair_by_pair = refl
