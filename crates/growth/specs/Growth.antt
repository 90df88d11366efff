-- Reasons 3 and 4, for the pairs of squares of an arrow with none between.
-- Assumes nothing.
use Rattle.std.specs.Prelude.{ℕ, suc, ◌+◌, max, Bool, true, false, cond, not, List, [], ◌∷◌, ◌++◌, eqb, ltb, length, get_or}
use Rattle.std.proofs.Math.Option.{none}
use Rattle.grid.specs.Lists.{filter, flat_map, init, tail}
use Rattle.grid.specs.Cells.{Literal, empty, undecided}
use Rattle.groups.specs.Arrows.{Pair, pairs}
use Rattle.kinds.specs.Kinds.{View, block, reach, fence}
use Rattle.literals.specs.Literals.{Found, or_else, reason_if, first_found_of, each}
use Rattle.shift.specs.Fits.{shift_fits}

-- the most undecided cells, no two consecutive; taken: the cell before was counted
unfoldable pub most_apart : List ℕ → Bool → List ℕ → ℕ
most_apart cells taken [] = 0
most_apart cells true (i ∷ is) = most_apart cells false is
most_apart cells false (i ∷ is) =
    cond (undecided cells i) (max (suc (most_apart cells true is)) (most_apart cells false is)) (most_apart cells false is)

-- the name of the block of a square
unfoldable pub block_name : View → ℕ → ℕ
block_name v i = get_or v.blocks i 0

-- positions last + 2 to cur - 2
unfoldable pub gap : Pair → List ℕ
gap pair = tail (init pair.between)

-- an arrow cell i and the fence of the arrow block f
abbrev pub cell_fence : View → ℕ → ℕ → List Literal
cell_fence v i f = each 1 (i ∷ []) ++ fence v f

-- the arrow block b, an arrow cell i and the fence of the arrow block f
abbrev pub block_cell_fence : View → ℕ → ℕ → ℕ → List Literal
block_cell_fence v b i f = each 1 (block v b) ++ each 1 (i ∷ []) ++ fence v f

module _ (v : View) (pair : Pair) where
  -- last's block, cur's arrow cell, the fence of cur's block
  unfoldable pub reason_grow : List Literal
  reason_grow = block_cell_fence v (block_name v pair.last) pair.cur (block_name v pair.cur)

  -- 3. no shift of last's block lies wholly in cur's reach
  unfoldable pub reason3_at : Found
  reason3_at = reason_if (not (shift_fits v (block_name v pair.last) (block_name v pair.cur))) reason_grow

  -- cur's block, last's arrow cell, the fence of last's block, the empty cells of the gap
  unfoldable pub reason_shrink : List Literal
  reason_shrink = block_cell_fence v (block_name v pair.cur) pair.last (block_name v pair.last) ++ each 0 (filter (empty v.cells) (gap pair))

  -- 4 (a). cur's reach is too small for last's block and one more
  unfoldable pub reason4a_at : Found
  reason4a_at = reason_if (ltb (length (reach v (block_name v pair.cur))) (length (block v (block_name v pair.last)) + 1)) reason_grow

  -- 4 (b). cur's block is too large for last's reach, one more and the gap
  unfoldable pub reason4b_at : Found
  reason4b_at =
      reason_if
      (ltb (length (reach v (block_name v pair.last)) + 1 + most_apart v.cells false (gap pair)) (length (block v (block_name v pair.cur))))
      reason_shrink

  -- 4, in the edition e. (a), then (b), which exists in edition 1 only
  unfoldable pub reason4_at : ℕ → Found
  reason4_at e = or_else reason4a_at (cond (eqb e 1) reason4b_at none)

-- 3 for every pair of every arrow, then 4, in the edition e
unfoldable pub reason34 : ℕ → View → Found
reason34 e v =
    let ps = flat_map (pairs v.cells) v.arrows in
    or_else (first_found_of (reason3_at v) ps) (first_found_of (λ p. reason4_at v p e) ps)
