-- What is found for the squares at two places of an arrow.
-- Assumes nothing.
use Prim.Native.Nat.{ℕ, ◌+◌, ◌-◌, ◌*◌, ◌≤◌, ◌<◌}
use native.Mathlib.Omega.{arith}
use mathlib.Core.Path.{◌≡◌, ◌∙◌}
use mathlib.Core.Bool.{true, false}
use mathlib.Core.List.{List, ◌++◌, Memᴰ}
use lib.ListN.{length, get_or, take}
use lib.Seq.{slice}
use Rattle.grid.specs.Lists.{filter}
use Rattle.grid.proofs.SliceLaws.{slice-mem, slice_short}
use Rattle.std.specs.List.{All}
use Rattle.std.proofs.lemmas.List.Elements.{All-drop, All-take, All-from_get_or}
use Rattle.grid.specs.Cells.{empty, square}
use Rattle.groups.specs.Arrows.{Pair}
use Rattle.kinds.specs.Kinds.{View, view, view_with, block, reach}
use Rattle.literals.specs.Inside.{Wrote, FoundAs}
use Rattle.growth.specs.Pairs.{pair_at, pair_in, view_on, Stretch, Squares}
use Rattle.growth.specs.Growth.{reason4a_at, reason4b_at, most_apart, block_cell_fence, gap, reason3_at}
use Rattle.literals.specs.Literals.{each}
use Rattle.shift.specs.Fits.{shift_fits}
use Rattle.std.specs.Prelude.{Some, None}
use Rattle.literals.proofs.Findings.{found_none, Wrote-found}
use Rattle.growth.proofs.PairChecks.{shift_none, shift_some, growth_none, growth_some, gap-none, gap-some, gap_places, gap_part, most_taken, empty_agree}
use Rattle.growth.proofs.PairNames.{scene_owner}

-- two squares of an arrow, and the names of their blocks in the array
module _ {h w : ℕ} {lines : List (List ℕ)} {cells arrows kinds owners : List ℕ} {last cur : ℕ} (s : Stretch h w lines cells arrows kinds owners) (order : last < cur) (low : cur < length arrows)
    (first : square cells (get_or arrows last 0) ≡ true) (second : square cells (get_or arrows cur 0) ≡ true)
    (f e : ℕ) (ef : f ≡ get_or owners (get_or arrows last 0) 0) (ee : e ≡ get_or owners (get_or arrows cur 0) 0) where
  abbrev board : View
  board = view_on h w lines cells

  abbrev both : Pair
  both = pair_at arrows last cur

  last_name : f ≡ get_or (view_on h w lines cells).blocks both.last 0
  unfolding pair_at
  last_name = ef ∙ scene_owner s last (omega arith) first

  cur_name : e ≡ get_or (view_on h w lines cells).blocks both.cur 0
  unfolding pair_at
  cur_name = ee ∙ scene_owner s cur low second

  module _ {b : List ℕ} where
    -- reason 3
    pub no_shift : shift_fits board f e ≡ true → FoundAs (reason3_at board both) b b None
    no_shift t = rw (shift_none board both f e last_name cur_name t) (found_none b)

    pub shift_found : shift_fits board f e ≡ false → {a : List ℕ} {k : ℕ} → Wrote (block_cell_fence board f (get_or arrows cur 0) e) b a k → FoundAs (reason3_at board both) b a (Some k)
    unfolding pair_at
    shift_found t w = rw (shift_some board both f e last_name cur_name t) (Wrote-found w)

    -- reason 4 (a)
    pub no_growth : length (block board f) + 1 ≤ length (reach board e) → FoundAs (reason4a_at board both) b b None
    no_growth t = rw (growth_none board both f e last_name cur_name t) (found_none b)

    pub growth_found : length (reach board e) < length (block board f) + 1 → {a : List ℕ} {k : ℕ} → Wrote (block_cell_fence board f (get_or arrows cur 0) e) b a k → FoundAs (reason4a_at board both) b a (Some k)
    unfolding pair_at
    growth_found t w = rw (growth_some board both f e last_name cur_name t) (Wrote-found w)

  -- the places between
  gap_is : gap both ≡ slice (last + 2) (cur - 1) arrows
  gap_is = gap_places arrows last cur order (omega arith)

  within : (x : ℕ) → Memᴰ x (gap both) → x < h * w
  within x m =
      let k = slice-mem arrows (last + 2) (cur - 1) (omega arith) (rw gap_is at m) in
      rw k.3 at (s.inside k.0 (omega (arith, k.2)))

  count_is : most_apart board.cells false (gap both) ≡ most_apart cells false (gap both)
  unfolding view view_with
  count_is = most_taken cells (h * w) false (gap both) within

  empties_are : filter (empty board.cells) (gap both) ≡ filter (empty cells) (gap both)
  unfolding view view_with
  empties_are = empty_agree cells (h * w) (gap both) within

  module _ {b : List ℕ} where
    -- reason 4 (b)
    pub no_gap : length (block board e) ≤ length (reach board f) + 1 + most_apart cells false (gap both) → FoundAs (reason4b_at board both) b b None
    no_gap t = rw (gap-none board both f e last_name cur_name (rw count_is t)) (found_none b)

    pub gap_found : length (reach board f) + 1 + most_apart cells false (gap both) < length (block board e)
        → {a : List ℕ} {k : ℕ} → Wrote (block_cell_fence board e (get_or arrows last 0) f ++ each 0 (filter (empty cells) (gap both))) b a k → FoundAs (reason4b_at board both) b a (Some k)
    unfolding pair_at
    gap_found t w = rw (gap-some board both f e last_name cur_name (rw count_is t), empties_are) (Wrote-found w)

-- the gap of two squares of an arrow: it has cells of the grid, and no more of them than the grid has
module _ {h w : ℕ} {cells arrows kinds owners : List ℕ} (s : Squares h w cells arrows kinds owners) where
  pub gap_cells : All (λ i. i < 1024) (gap (pair_in arrows))
  gap_cells =
      rw (gap_part arrows s.two)
      (All-drop (λ i. i < 1024) 2 (take (length arrows - 2) arrows) (All-take (λ i. i < 1024) (length arrows - 2) arrows (All-from_get_or (λ i. i < 1024) arrows 0 (λ i l. s.line.places.small i l))))

  pub gap_few : length (gap (pair_in arrows)) ≤ h * w
  gap_few = rw (gap_part arrows s.two) (omega (arith, slice_short arrows 2 (length arrows - 2), s.line.stretch.few))
