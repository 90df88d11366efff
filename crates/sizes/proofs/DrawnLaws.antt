-- The arrays of a puzzle's arrows: their cells stand first in the line, and the marks of these are the arrow cells.
-- Assumes nothing.
use Prim.Native.Nat.{ℕ, ◌≤◌, ◌<◌}
use native.Mathlib.Omega.{arith}
use mathlib.Core.Path.{◌≡◌, sym, ap, ◌∙◌}
use mathlib.Core.Bool.{false}
use mathlib.Core.List.{List}
use lib.ListN.{length, get_or, take}
use Rattle.std.specs.List.{All}
use Rattle.grid.specs.Lists.{last, member}
use Rattle.grid.specs.Marks.{Marks}
use Rattle.grid.proofs.ListLaws.{So-false, member-mem, at_mem}
use Rattle.grid.proofs.ArrayLaws.{array_in}
use Rattle.grid.proofs.MarkLaws.{Marks-same}
use Rattle.record.specs.Record.{Puzzle}
use Rattle.record.specs.Arrows.{on_arrow}
use Rattle.record.specs.Valid.{Valid}
use Rattle.record.specs.declared.Problem.{Problem}
use Rattle.record.specs.Problem.{arrow_cells, problem_of}
use Rattle.record.proofs.RecordLaws.{Valid-size}
use Rattle.record.proofs.LinesLaws.{Lines-of}
use Rattle.form.proofs.ProblemForm.{few_cells, ends_taken, last_end, line_taken, line_below, valid_Formed}
use Rattle.groups.proofs.MarkLaws.{on_arrow_lem, line_cells}
use Rattle.sizes.specs.Inside.{Drawn, MarkedAll}

-- the arrays of a valid puzzle's problem
pub problem_Drawn : {p : Puzzle} {q : Problem} → Valid p → q ≡ problem_of p → Drawn p q.arrows q.ends q.count
problem_Drawn v e = record {
  valid = v;
  line = ap (λ (q : Problem). q.arrows) e;
  cuts = ap (λ (q : Problem). q.ends) e;
  number = ap (λ (q : Problem). q.count) e;
}

module _ (p : Puzzle) {arrows ends : List ℕ} {count : ℕ} (d : Drawn p arrows ends count) where
  -- there is an end for each arrow
  pub drawn_few : (count ≤ 1024) × (count ≤ length ends)
  unfolding problem_of
  drawn_few =
      let e : count ≤ 1024 = omega (arith, d.number, (Lines-of p d.valid).few) in
      (e, omega (arith, ap length d.cuts, (valid_Formed p d.valid).ends_long))

  module _ (total : ℕ) (t : total ≡ last 0 (take count ends)) where
    total_is : total ≡ length (arrow_cells p.arrows)
    unfolding problem_of
    total_is = t ∙ rw (d.cuts, d.number) (ap (last 0) (ends_taken p d.valid) ∙ last_end p d.valid)

    -- the line has the cells of all arrows
    line_is : take total arrows ≡ arrow_cells p.arrows
    unfolding problem_of
    line_is = rw (t, d.line, d.cuts, d.number) (line_taken p d.valid)

    pub drawn_fits : total ≤ 1024
    drawn_fits = omega (arith, total_is, few_cells p d.valid)

    -- each of them can be marked
    pub drawn_cells : All (λ i. i < 1024) (take total arrows)
    unfolding problem_of
    drawn_cells = line_cells arrows total low
      where
        low : (k : ℕ) → k < total → get_or arrows k 0 < 1024
        low k h =
            let l : k < length (arrow_cells p.arrows) = omega (arith, total_is) in
            omega (
              arith,
              ap (λ (a : List ℕ). get_or a k 0) d.line,
              array_in 0 (arrow_cells p.arrows) 0 k l,
              line_below p d.valid (get_or (arrow_cells p.arrows) k 0) (at_mem (arrow_cells p.arrows) k l),
              Valid-size d.valid,
            )

    -- the marks of that line
    pub drawn_Marks : {M : List ℕ} → Marks M (λ i. member i (take total arrows)) → MarkedAll M (on_arrow p.arrows)
    drawn_Marks m = record { marks_are = Marks-same (λ i. member i (take total arrows)) (on_arrow p.arrows) (λ i h. same i) m; none = none }
      where
        same : (i : ℕ) → member i (take total arrows) ≡ on_arrow p.arrows i
        same i = ap (member i) line_is ∙ on_arrow_lem p.arrows i

        none : (i : ℕ) → 1024 ≤ i → on_arrow p.arrows i ≡ false
        none i h =
            sym (on_arrow_lem p.arrows i) ∙ So-false (member i (arrow_cells p.arrows)) (λ s.
            omega (arith, line_below p d.valid i (member-mem i (arrow_cells p.arrows) s), Valid-size d.valid))
