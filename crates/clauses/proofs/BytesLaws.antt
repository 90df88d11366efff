-- What is written from the arrays of a puzzle is its sheet.
-- Assumes nothing.
use Prim.Native.Nat.{ℕ, ◌*◌, ◌≤◌, ◌<◌}
use native.Mathlib.Omega.{arith}
use mathlib.Core.Path.{◌≡◌, refl, sym, ap, subst, ◌∙◌}
use mathlib.Core.Bool.{Bool}
use mathlib.Core.List.{List, ◌++◌, Memᴰ}
use lib.ListN.{length, get_or, take}
use Rattle.groups.specs.Arrays.{lines_of}
use Rattle.grid.specs.Lists.{flat_map, upto, last, member, array_of}
use Rattle.grid.specs.Side.{sized}
use Rattle.grid.specs.Marks.{Marks}
use Rattle.grid.specs.Grid.{Grid, size, cells_of, neighbours}
use Rattle.grid.proofs.ListLaws.{upto-mem, at_mem}
use Rattle.grid.proofs.AppendLaws.{filter_agree, flat_map_agree}
use Rattle.grid.proofs.ArrayLaws.{array_in, array_length, array_take}
use Rattle.grid.proofs.MarkLaws.{mark_is}
use Rattle.grid.proofs.GridLaws.{beside, on_grid}
use Rattle.record.specs.Record.{Puzzle}
use Rattle.record.specs.Lines.{Lines}
use Rattle.record.specs.Valid.{Valid}
use Rattle.record.specs.Problem.{arrow_cells, ends_from, problem_of, puzzle_of, total_of}
use Rattle.record.specs.declared.Problem.{Problem}
use Rattle.record.proofs.RecordLaws.{Valid-size}
use Rattle.record.proofs.FreshLaws.{arrows_length}
use Rattle.record.proofs.ProblemLaws.{length_ends, problem_puzzle}
use Rattle.record.proofs.LinesLaws.{problem_Lines}
use Rattle.groups.specs.Arrows.{on_arrow}
use Rattle.groups.proofs.MarkLaws.{on_arrow_lem}
use Rattle.form.proofs.ProblemForm.{ends_taken, last_end, line_below}
use Rattle.clauses.specs.Clauses.{Clause, given_at, onwards, touching_at, around, between_at, arrow_clauses, given_part, touching_part, between_part, arrow_part, sheet, clauses_bytes, sheet_bytes}
use Rattle.clauses.specs.Inside.{marked}
use Rattle.clauses.proofs.AroundLaws.{around_near, onwards_near}

-- two tests that agree on the grid's cells make the same clauses
module _ (on test : ℕ → Bool) (g : Grid) (same : (j : ℕ) → j < size g → on j ≡ test j) (i : ℕ) (h : i < size g) where
  near : (j : ℕ) → Memᴰ j (neighbours g i) → on j ≡ test j
  near j m = same j (on_grid g h (beside g i m))

  touching_same : touching_at on g i ≡ touching_at test g i
  unfolding touching_at
  touching_same = rw (same i h, filter_agree on test (onwards g i) (λ j m. near j (onwards_near g i m))) refl

  between_same : between_at on g i ≡ between_at test g i
  unfolding between_at
  between_same = rw (same i h, filter_agree on test (around g i) (λ j m. near j (around_near g i m))) refl

-- the clauses of the four parts, by arrays and by marks at the arrow cells
abbrev pub clauses_in : Problem → List ℕ → List Clause
clauses_in q marks =
    flat_map (λ i. given_at (get_or q.cells i 0) i) (upto (q.height * q.width))
    ++ (flat_map (touching_at (marked marks) (sized q.height q.width)) (upto (q.height * q.width))
    ++ (flat_map (between_at (marked marks) (sized q.height q.width)) (upto (q.height * q.width))
    ++ flat_map arrow_clauses (lines_of q.arrows q.ends q.count)))

module _ (p : Puzzle) (v : Valid p) where
  few : length (arrow_cells p.arrows) ≤ 1024
  unfolding arrow_cells
  few = omega (arith, arrows_length p v, Valid-size v)

  -- the cells of the arrows stand first in their array
  cells_are : take (total_of (problem_of p)) (problem_of p).arrows ≡ arrow_cells p.arrows
  unfolding problem_of
  cells_are = ap (λ (n : ℕ). take n (array_of 0 (arrow_cells p.arrows))) (ap (last 0) (ends_taken p v) ∙ last_end p v) ∙ array_take 0 (arrow_cells p.arrows)

  given_there : flat_map (λ i. given_at (get_or (array_of 0 p.given) i 0) i) (upto (p.grid.height * p.grid.width)) ≡ given_part p
  unfolding given_part cells_of size
  given_there =
      flat_map_agree (λ i. given_at (get_or (array_of 0 p.given) i 0) i) (λ i. given_at (get_or p.given i 0) i) (upto (p.grid.height * p.grid.width))
      (λ i m. ap (λ (c : ℕ). given_at c i) (array_in 0 p.given 0 i (omega (arith, v.total, upto-mem (p.grid.height * p.grid.width) m))))

  arrows_there : flat_map arrow_clauses (lines_of (array_of 0 (arrow_cells p.arrows)) (array_of 0 (ends_from 0 p.arrows)) (length p.arrows)) ≡ arrow_part p
  unfolding arrow_part puzzle_of problem_of
  arrows_there = ap (λ (q : Puzzle). flat_map arrow_clauses q.arrows) (problem_puzzle p v)

  module _ (M : List ℕ) (K : Marks M (λ i. member i (take (total_of (problem_of p)) (problem_of p).arrows))) where
    on_same : (j : ℕ) → j < size p.grid → marked M j ≡ on_arrow p.arrows j
    on_same j h = mark_is K j (omega (arith, h, Valid-size v)) ∙ ap (member j) cells_are ∙ on_arrow_lem p.arrows j

    touching_there : flat_map (touching_at (marked M) p.grid) (upto (p.grid.height * p.grid.width)) ≡ touching_part p
    unfolding touching_part cells_of size
    touching_there =
        flat_map_agree (touching_at (marked M) p.grid) (touching_at (on_arrow p.arrows) p.grid) (upto (p.grid.height * p.grid.width))
        (λ i m. touching_same (marked M) (on_arrow p.arrows) p.grid on_same i (upto-mem (p.grid.height * p.grid.width) m))

    between_there : flat_map (between_at (marked M) p.grid) (upto (p.grid.height * p.grid.width)) ≡ between_part p
    unfolding between_part cells_of size
    between_there =
        flat_map_agree (between_at (marked M) p.grid) (between_at (on_arrow p.arrows) p.grid) (upto (p.grid.height * p.grid.width))
        (λ i m. between_same (marked M) (on_arrow p.arrows) p.grid on_same i (upto-mem (p.grid.height * p.grid.width) m))

    sheet_there : clauses_in (problem_of p) M ≡ sheet p
    unfolding problem_of sheet
    sheet_there = rw (given_there, touching_there, between_there, arrows_there) refl

    bytes_there : clauses_bytes (clauses_in (problem_of p) M) ≡ sheet_bytes p
    unfolding sheet_bytes
    bytes_there = ap clauses_bytes sheet_there

  ends_there : (problem_of p).count ≤ length (problem_of p).ends
  unfolding problem_of
  ends_there =
      let n = (problem_Lines p v (problem_of p) refl).few in
      omega (arith, n, array_length 0 (ends_from 0 p.arrows) (omega (arith, n, length_ends 0 p.arrows)))

  cells_long : length (problem_of p).arrows ≡ 1024
  unfolding problem_of
  cells_long = array_length 0 (arrow_cells p.arrows) few

  within : total_of (problem_of p) ≤ 1024
  unfolding problem_of
  within = omega (arith, few, ap (last 0) (ends_taken p v) ∙ last_end p v)

  cells_small : (k : ℕ) → k < total_of (problem_of p) → get_or (problem_of p).arrows k 0 < 1024
  unfolding problem_of
  cells_small k h =
      let b : k < length (arrow_cells p.arrows) = omega (arith, h, ap (last 0) (ends_taken p v) ∙ last_end p v) in
      rw (array_in 0 (arrow_cells p.arrows) 0 k b)
      (omega (arith, line_below p v (get_or (arrow_cells p.arrows) k 0) (at_mem (arrow_cells p.arrows) k b), Valid-size v))

-- what stands in the arrays of the problem of a puzzle, and that the clauses in them are its sheet
pub record Sheeted (p : Puzzle) (q : Problem) : Type 0 where
  pub lines : Lines q.height q.width q.arrows q.ends q.count
  pub there : q.count ≤ length q.ends
  pub long : length q.arrows ≡ 1024
  pub within : total_of q ≤ 1024
  pub cells : (k : ℕ) → k < total_of q → get_or q.arrows k 0 < 1024
  pub clauses : (M : List ℕ) → Marks M (λ i. member i (take (total_of q) q.arrows)) → clauses_in q M ≡ sheet p
  pub bytes : (M : List ℕ) → Marks M (λ i. member i (take (total_of q) q.arrows)) → clauses_bytes (clauses_in q M) ≡ sheet_bytes p

Sheeted-of : (p : Puzzle) → Valid p → Sheeted p (problem_of p)
Sheeted-of p v = record {
  lines = problem_Lines p v (problem_of p) refl;
  there = ends_there p v;
  long = cells_long p v;
  within = within p v;
  cells = cells_small p v;
  clauses = λ M K. sheet_there p v M K;
  bytes = λ M K. bytes_there p v M K;
}

-- the clauses in the arrays of a puzzle are its sheet, and their bytes its bytes
pub sheeted : (p : Puzzle) → Valid p → (q : Problem) → q ≡ problem_of p → Sheeted p q
sheeted p v q e = subst (λ x. Sheeted p x) (sym e) (Sheeted-of p v)
