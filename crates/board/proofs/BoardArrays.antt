-- The arrays of a well-formed board, as a leaf that is lent asks for them.
-- Assumes nothing.
use Prim.Native.Nat.{ℕ, zero, suc, ◌+◌, ◌*◌, ◌≤◌, ◌<◌}
use native.Mathlib.Omega.{arith}
use native.Mathlib.Decide.{dec_lt}
use native.Mathlib.Numerals.{add-one}
use mathlib.Core.Logic.{◌⊎◌, inl, inr}
use mathlib.Core.Path.{◌≡◌, refl, ap, ◌∙◌, subst}
use mathlib.Core.Bool.{true, ◌&&◌}
use mathlib.Core.List.{List, [], ◌∷◌}
use lib.Dec.{leb, ltb}
use lib.ListN.{length, get_or, take, get_or-eq_default}
use borrow.Author.Tests.{ltb-true, leb-true}
use Rattle.grid.specs.Lists.{last, array_of}
use Rattle.grid.specs.Grid.{size}
use Rattle.grid.proofs.ListLaws.{and-true, at_mem}
use Rattle.grid.proofs.ArrayLaws.{array_length, array_take, array_in, array_out}
use Rattle.record.specs.Record.{Puzzle}
use Rattle.record.specs.Leaf.{leaf_with}
use Rattle.record.specs.Valid.{Valid}
use Rattle.record.specs.Sizes.{kept_ranges}
use Rattle.sizes.specs.Form.{SizeArrays}
use Rattle.sizes.specs.Lent.{SizesOn}
use Rattle.record.specs.Problem.{arrow_cells, ends_from, problem_of, puzzle_of, grid_of}
use Rattle.record.specs.declared.Problem.{Problem}
use Rattle.record.proofs.FreshLaws.{Arrows-size, one_length, arrows_length}
use Rattle.record.proofs.ProblemLaws.{length_ends, problem_puzzle}
use Rattle.record.proofs.RecordLaws.{Valid-size}
use Rattle.record.proofs.LeafLaws.{edition_is}
use Rattle.form.specs.Form.{rises, ended, behind}
use Rattle.board.specs.Form.{well_formed}
use Rattle.board.specs.declared.Board.{Board}
use Rattle.board.proofs.BoardForm.{Whole-is, whole_most}
use Rattle.form.proofs.ProblemForm.{Formed, valid_Formed, formed_Valid, formed_again, rises-last, ends_taken, last_end, line_below}
use Rattle.groups.specs.Arrays.{lines_of}
use Rattle.sizes.specs.Lent.{ArrowArrays}
use Rattle.board.specs.Kept.{sizes_on, leaf_on}
use Rattle.board.specs.Inside.{lent_sizes}
use Rattle.board.proofs.LentSizes.{lent_on, lent_kept}

-- numbers that rise
rises_step : (at : ℕ) (es : List ℕ) → rises at es ≡ true → (a : ℕ) → suc a < length es → get_or es a 0 ≤ get_or es (suc a) 0
unfolding rises
rises_step at [] h a k = absurd (omega arith)
rises_step at (e ∷ []) h a k = absurd (omega arith)
rises_step at (e ∷ f ∷ es) h zero k =
    let p = and-true (ltb at e) (ltb e f && rises f es) h in
    let q = and-true (ltb e f) (rises f es) p.1 in
    omega (arith, ltb-true e f q.0)
rises_step at (e ∷ f ∷ es) h (suc a) k = rises_step e (f ∷ es) (and-true (ltb at e) (rises e (f ∷ es)) h).1 a (omega arith)

rises_low : (at : ℕ) (es : List ℕ) → rises at es ≡ true → (a : ℕ) → a < length es → get_or es a 0 ≤ last at es
unfolding rises last
rises_low at [] h a k = absurd (omega arith)
rises_low at (e ∷ es) h zero k = rises-last e es (and-true (ltb at e) (rises e es) h).1
rises_low at (e ∷ es) h (suc a) k = rises_low e es (and-true (ltb at e) (rises e es) h).1 a (omega arith)

module _ (p : Puzzle) (v : Valid p) where
  few_cells : length (arrow_cells p.arrows) ≤ size p.grid
  unfolding arrow_cells
  few_cells = arrows_length p v

  lines_are : lines_of (array_of 0 (arrow_cells p.arrows)) (array_of 0 (ends_from 0 p.arrows)) (length p.arrows) ≡ p.arrows
  unfolding puzzle_of problem_of
  lines_are = ap (λ (q : Puzzle). q.arrows) (problem_puzzle p v)

  -- every place of the array holds a cell, or 0 behind them
  place_low : (k : ℕ) → get_or (array_of 0 (arrow_cells p.arrows)) k 0 < 1024
  place_low k = go (dec_lt k (length (arrow_cells p.arrows))) (dec_lt k 1024)
    where
      l : List ℕ
      l = arrow_cells p.arrows

      go : Dec (k < length (arrow_cells p.arrows)) → Dec (k < 1024) → get_or (array_of 0 (arrow_cells p.arrows)) k 0 < 1024
      go (yes h) _ = rw (array_in 0 (arrow_cells p.arrows) 0 k h) (omega (arith, line_below p v (get_or (arrow_cells p.arrows) k 0) (at_mem (arrow_cells p.arrows) k h), Valid-size v))
      go (no n) (yes h) = rw (array_out 0 (arrow_cells p.arrows) 0 k (omega arith) h) (omega arith)
      go (no n) (no m) =
          rw (get_or-eq_default (array_of 0 (arrow_cells p.arrows)) 0 {n = k} (omega (arith, array_length 0 (arrow_cells p.arrows) (omega (arith, few_cells, Valid-size v))))) (omega arith)

  -- the ends rise, and are no more than the arrays hold
  ends_formed : (leb (length p.arrows) 1024 && rises 0 (ends_from 0 p.arrows)) ≡ true
  unfolding ended problem_of
  ends_formed = rw (ends_taken p v) at (and-true (leb (length p.arrows) 1024 && rises 0 (take (length p.arrows) (array_of 0 (ends_from 0 p.arrows)))) (behind 0 (length p.arrows) (array_of 0 (ends_from 0 p.arrows))) (valid_Formed p v).ends).0

  -- the arrays of a valid puzzle hold its arrows
  pub arrow_arrays : ArrowArrays (size p.grid) (problem_of p).arrows (problem_of p).ends (problem_of p).count (last 0 (take (problem_of p).count (problem_of p).ends))
  unfolding problem_of
  arrow_arrays =
      let f = and-true (leb (length p.arrows) 1024) (rises 0 (ends_from 0 p.arrows)) ends_formed in
      let n : length (ends_from 0 p.arrows) ≡ length p.arrows = length_ends 0 p.arrows in
      let end : (a : ℕ) → a < length p.arrows → get_or (array_of 0 (ends_from 0 p.arrows)) a 0 ≡ get_or (ends_from 0 p.arrows) a 0 =
      λ a h. array_in 0 (ends_from 0 p.arrows) 0 a (omega arith) in
      let many = leb-true (length p.arrows) 1024 f.0 in
      record {
        drawn = record {
          places = record { long = array_length 0 (arrow_cells p.arrows) (omega (arith, few_cells, Valid-size v)); cells = place_low };
          many = many;
          ends_long = omega (arith, array_length 0 (ends_from 0 p.arrows) (omega arith));
          ends_low = λ a h. rw (end a h) (omega (arith, rises_low 0 (ends_from 0 p.arrows) f.1 a (omega arith), last_end p v, few_cells, Valid-size v));
          ends_rise = λ a h. rw (end a (omega arith), end (a + 1) h, add-one a) (rises_step 0 (ends_from 0 p.arrows) f.1 a (omega arith));
          inside = rw lines_are (λ a m i k. Arrows-size v.arrows a m i k);
          few = rw lines_are (λ a m. omega (arith, one_length p.arrows a m, arrows_length p v));
        };
        within = rw (ends_taken p v, last_end p v) (omega (arith, few_cells, Valid-size v));
        cells_are = rw (lines_are, ends_taken p v, last_end p v) (array_take 0 (arrow_cells p.arrows));
      }

-- the arrays of an accepted record hold its arrows
pub problem_arrays : (q : Problem) → Formed q → ArrowArrays (q.height * q.width) q.arrows q.ends q.count (last 0 (take q.count q.ends))
unfolding puzzle_of grid_of size
problem_arrays q f =
    subst
    (λ (r : Problem). ArrowArrays (q.height * q.width) r.arrows r.ends r.count (last 0 (take r.count r.ends)))
    (formed_again q f) (arrow_arrays (puzzle_of q) (formed_Valid q f))

-- a well-formed board has a grid of at most 32 by 32
pub board_sizes : (b : Board) → well_formed b ≡ true → (b.problem.height ≤ 32) × (b.problem.width ≤ 32)
unfolding grid_of
board_sizes b h = (Whole-is b h).problem.sizes.high

-- and its arrays hold its arrows
pub board_arrays : (b : Board) → well_formed b ≡ true
    → ArrowArrays (b.problem.height * b.problem.width) b.problem.arrows b.problem.ends b.problem.count (last 0 (take b.problem.count b.problem.ends))
board_arrays b h = problem_arrays b.problem (Whole-is b h).problem

-- and its edition is not 0
pub board_edition : (b : Board) → well_formed b ≡ true → b.edition ≡ 0 → ⊥
board_edition b h z = go ((edition_is b.edition).0 (Whole-is b h).edition)
  where
    go : (b.edition ≡ 1) ⊎ (b.edition ≡ 2) → ⊥
    go (inl e) = omega (arith, e, z)
    go (inr e) = omega (arith, e, z)

-- the sizes of a board, as they are lent
pub record Lent (b : Board) (lows highs : List ℕ) : Type 0 where
  pub lowest : lows ≡ take (lent_sizes b.lowest (b.problem.height * b.problem.width)) b.lowest
  pub highest : highs ≡ take (lent_sizes b.lowest (b.problem.height * b.problem.width)) b.highest

-- those of the first n cells, by the count of the cells that are lent
pub Lent-by : (b : Board) {n : ℕ} {lows highs : List ℕ} → n ≡ lent_sizes b.lowest (b.problem.height * b.problem.width) → lows ≡ take n b.lowest → highs ≡ take n b.highest → Lent b lows highs
Lent-by b e f g = record { lowest = f ∙ ap (λ (k : ℕ). take k b.lowest) e; highest = g ∙ ap (λ (k : ℕ). take k b.highest) e }

module _ (b : Board) (h : well_formed b ≡ true) where
  arrays : SizeArrays (puzzle_of b.problem).arrows b.lowest b.highest
  arrays = (Whole-is b h).sizes

  cells : ℕ
  cells = b.problem.height * b.problem.width

  most : cells ≤ 1024
  unfolding cells grid_of size
  most = whole_most b (Whole-is b h)

  module _ {lows highs : List ℕ} (lent : Lent b lows highs) where
    -- they sit on its arrows
    pub board_lent : SizesOn (b.problem.height * b.problem.width) (lines_of b.problem.arrows b.problem.ends b.problem.count) lows highs
    unfolding puzzle_of cells
    board_lent = rw (lent.lowest, lent.highest) (lent_on (puzzle_of b.problem).arrows b.lowest b.highest arrays cells most)

    -- and are all that it keeps
    pub board_kept : kept_ranges lows highs (length lows) ≡ sizes_on b
    unfolding sizes_on grid_of size cells
    board_kept = rw (lent.lowest, lent.highest) (lent_kept (puzzle_of b.problem).arrows b.lowest b.highest arrays cells most)

    -- so the leaf that is lent is the board's
    pub lent_leaf : leaf_with b.edition (kept_ranges lows highs (length lows)) (puzzle_of b.problem) ≡ leaf_on b
    unfolding leaf_on
    lent_leaf = rw board_kept refl
