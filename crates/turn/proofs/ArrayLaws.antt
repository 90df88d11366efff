-- A step of a turning, in arrays.
-- Assumes nothing.
use Prim.Native.Nat.{ℕ, ◌+◌, ◌*◌, ◌≤◌, ◌<◌}
use native.Mathlib.Omega.{arith}
use native.Mathlib.Nat.{mul_comm}
use mathlib.Core.Path.{◌≡◌, refl, sym, ap, subst, ◌∙◌}
use mathlib.Core.Bool.{true}
use mathlib.Core.List.{List, [], ◌∷◌, ◌++◌, map, map-append}
use lib.ListN.{length, get_or, set, take, replicate, length-map}
use Rattle.std.proofs.lemmas.List.{take_more, length-take-le}
use Rattle.grid.specs.Lists.{upto, array_of}
use Rattle.grid.specs.Grid.{Grid, size, cells_of}
use Rattle.grid.specs.Side.{sized}
use Rattle.grid.proofs.ArrayLaws.{array_in, array_more, array_take}
use Rattle.grid.proofs.FilledLaws.{filled_same}
use Rattle.record.specs.Record.{Puzzle}
use Rattle.record.specs.Valid.{Valid}
use Rattle.record.specs.Problem.{arrow_cells, problem_of, puzzle_of, total_of}
use Rattle.record.specs.declared.Problem.{Problem}
use Rattle.record.proofs.RecordLaws.{Valid-size}
use Rattle.form.specs.Form.{problem_formed}
use Rattle.form.proofs.AcceptedLaws.{valid_formed, valid_kept}
use Rattle.writer.proofs.ArrayLaws.{ends_map, cells_map, total_is}
use Rattle.turn.specs.Turn.{Turn, carried, turned_by}
use Rattle.turn.specs.Inside.{step_of}
use Rattle.turn.specs.declared.Move.{Move}
use Rattle.turn.specs.declared.Move.TheVariants.{Quarter, Flip}
use Rattle.turn.proofs.TurnLaws.{Turns, flip-Turns, quarter-Turns, Sides-size}
use Rattle.turn.proofs.PuzzleLaws.{Valid-by}

-- each step is a turn
step_Turns : (b : Move) (g : Grid) → Turns g (step_of b g)
step_Turns Quarter g = quarter-Turns g
step_Turns Flip g = flip-Turns g

-- a code has come for each cell
pub all_carried : (b : Move) (g : Grid) (codes : List ℕ) → array_of 0 (map (λ j. get_or codes ((step_of b g).from j) 0) (upto (g.height * g.width))) ≡ array_of 0 (carried (step_of b g) codes)
unfolding carried cells_of size
all_carried Quarter g codes = ap (λ (n : ℕ). array_of 0 (map (λ j. get_or codes ((step_of Quarter g).from j) 0) (upto n))) (mul_comm g.height g.width)
all_carried Flip g codes = refl

-- no cell is moved, and one more
pub moved_none : (f : ℕ → ℕ) (l : List ℕ) → replicate 1024 0 ≡ array_of 0 (map f (take 0 l))
unfolding array_of
moved_none f l = refl

pub moved_more : (f : ℕ → ℕ) (l : List ℕ) (k v : ℕ) → k < length l → length l ≤ 1024 → v ≡ f (get_or l k 0) → set (array_of 0 (map f (take k l))) k v ≡ array_of 0 (map f (take (k + 1) l))
moved_more f l k v h m e =
    let n : length (map f (take k l)) ≡ k = length-map (take k l) f ∙ length-take-le k l (omega arith) in
    subst (λ (i : ℕ). set (array_of 0 (map f (take k l))) i v ≡ array_of 0 (map f (take k l) ++ (v ∷ []))) n (array_more 0 (map f (take k l)) v (omega arith))
    ∙ ap (array_of 0) (ap (λ (x : ℕ). map f (take k l) ++ (x ∷ [])) e ∙ sym (map-append f (take k l) (get_or l k 0 ∷ [])) ∙ ap (map f) (sym (take_more l k 0 h)))

-- what a step makes of a problem
pub record Stepped (b : Move) (q : Problem) (moved : Grid) (total : ℕ) (cells arrows : List ℕ) : Type 0 where
  pub sides : moved ≡ (step_of b (sized q.height q.width)).grid
  pub all : total ≡ total_of q
  pub codes : cells ≡ array_of 0 (carried (step_of b (sized q.height q.width)) q.cells)
  pub line : arrows ≡ array_of 0 (map (step_of b (sized q.height q.width)).to (take total q.arrows))

abbrev pub after_step : Problem → Grid → List ℕ → List ℕ → Problem
after_step q moved cells arrows = record { height = moved.height; width = moved.width; cells = cells; arrows = arrows; ends = q.ends; count = q.count }

module _ (p : Puzzle) (v : Valid p) (b : Move) where
  -- the codes
  codes_are : array_of 0 (carried (step_of b p.grid) (array_of 0 p.given)) ≡ array_of 0 (carried (step_of b p.grid) p.given)
  unfolding carried cells_of
  codes_are =
      let m : Turn = step_of b p.grid in
      filled_same 0 (λ j. get_or (array_of 0 p.given) (m.from j) 0) (λ j. get_or p.given (m.from j) 0) (size m.grid) (omega (arith, Sides-size p.grid m.grid (step_Turns b p.grid).sides, Valid-size v))
      (λ i l. array_in 0 p.given 0 (m.from i) (omega (arith, v.total, (step_Turns b p.grid).into i l)))

  stepped_of : {moved : Grid} {total : ℕ} {cells arrows : List ℕ} → Stepped b (problem_of p) moved total cells arrows → after_step (problem_of p) moved cells arrows ≡ problem_of (turned_by (step_of b p.grid) p)
  unfolding problem_of
  stepped_of s =
      let to : ℕ → ℕ = (step_of b p.grid).to in
      rw (s.sides, s.codes, s.line, s.all ∙ total_is p v, codes_are, array_take 0 (arrow_cells p.arrows), ends_map to 0 p.arrows, cells_map to p.arrows, length-map p.arrows (map to)) refl

  stepped : (q : Problem) → q ≡ problem_of p → {moved : Grid} {total : ℕ} {cells arrows : List ℕ} → Stepped b q moved total cells arrows → after_step q moved cells arrows ≡ problem_of (turned_by (step_of b p.grid) p)
  stepped q e {moved} {total} {cells} {arrows} =
      subst (λ x. Stepped b x moved total cells arrows → after_step x moved cells arrows ≡ problem_of (turned_by (step_of b p.grid) p)) (sym e) stepped_of

  turned_Valid : Valid (turned_by (step_of b p.grid) p)
  turned_Valid = Valid-by p v (step_of b p.grid) (step_Turns b p.grid)

  -- what a step makes of the arrays of p is accepted, and keeps the turned puzzle
  module _ {q : Problem} (e : q ≡ problem_of p) {moved : Grid} {total : ℕ} {cells arrows : List ℕ} (s : Stepped b q moved total cells arrows) where
    pub step_formed : problem_formed (after_step q moved cells arrows) ≡ true
    step_formed = valid_formed (turned_by (step_of b p.grid) p) turned_Valid (stepped q e s)

    pub step_kept : puzzle_of (after_step q moved cells arrows) ≡ turned_by (step_of b p.grid) p
    step_kept = valid_kept (turned_by (step_of b p.grid) p) turned_Valid (stepped q e s)
