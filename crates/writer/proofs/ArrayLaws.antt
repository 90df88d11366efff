-- An accepted puzzle in arrays, for those who make another problem of it: how many arrow cells it has, what bounds its arrays, and its arrows with every cell moved.
-- Assumes nothing.
use Prim.Native.Nat.{ℕ, ◌+◌, ◌*◌, ◌≤◌, ◌<◌}
use native.Mathlib.Omega.{arith}
use mathlib.Core.Path.{◌≡◌, refl, sym, ap, subst, ◌∙◌}
use mathlib.Core.List.{List, [], ◌∷◌, map, map-append}
use lib.ListN.{length, get_or, length-map}
use Rattle.grid.specs.Lists.{last}
use Rattle.grid.specs.Grid.{size}
use Rattle.grid.proofs.ListLaws.{at_mem}
use Rattle.grid.proofs.ArrayLaws.{array_length, array_in}
use Rattle.fields.specs.Fields.{bytes_for}
use Rattle.record.specs.Record.{Puzzle}
use Rattle.record.specs.Head.{head_bits}
use Rattle.record.specs.Valid.{Valid}
use Rattle.record.specs.Problem.{ends_from, arrow_cells, problem_of, total_of}
use Rattle.record.specs.declared.Problem.{Problem}
use Rattle.record.proofs.FreshLaws.{arrows_length}
use Rattle.record.proofs.ProblemLaws.{length_ends}
use Rattle.record.proofs.RecordLaws.{Valid-size}
use Rattle.record.proofs.LinesLaws.{Lines-of}
use Rattle.form.proofs.ProblemForm.{ends_taken, last_end, line_below}

-- arrows with every cell moved: the ends stay, and so does the order of the cells
pub ends_map : (f : ℕ → ℕ) (at : ℕ) (as' : List (List ℕ)) → ends_from at (map (map f) as') ≡ ends_from at as'
unfolding ends_from
ends_map f at [] = refl
ends_map f at (a ∷ as') = rw (length-map a f, ends_map f (at + length a) as')

pub cells_map : (f : ℕ → ℕ) (as' : List (List ℕ)) → arrow_cells (map (map f) as') ≡ map f (arrow_cells as')
unfolding arrow_cells
cells_map f [] = refl
cells_map f (a ∷ as') = rw (cells_map f as') (sym (map-append f a (arrow_cells as')))

-- what bounds the arrays
pub record Parts (q : Problem) : Type 0 where
  pub tall : q.height ≤ 32
  pub wide : q.width ≤ 32
  pub few : q.count ≤ 1024
  pub ended : q.count ≤ length q.ends
  pub short : total_of q ≤ 1024
  pub cells : (t : ℕ) → t < total_of q → get_or q.arrows t 0 < q.height * q.width

module _ (p : Puzzle) (v : Valid p) where
  -- how many cells the arrows have together
  pub total_is : total_of (problem_of p) ≡ length (arrow_cells p.arrows)
  unfolding problem_of
  total_is = ap (last 0) (ends_taken p v) ∙ last_end p v

  -- how many bytes the record has
  pub length_in : (q : Problem) → q ≡ problem_of p → bytes_for (21 + 2 * (q.height * q.width) + 18 * q.count + 2 * total_of q) ≡ bytes_for (head_bits p)
  unfolding head_bits problem_of size
  length_in q e = ap (λ (x : Problem). bytes_for (21 + 2 * (x.height * x.width) + 18 * x.count + 2 * total_of x)) e
      ∙ ap (λ (n : ℕ). bytes_for (21 + 2 * (p.grid.height * p.grid.width) + 18 * length p.arrows + 2 * n)) total_is

  pub few : length (arrow_cells p.arrows) ≤ 1024
  unfolding arrow_cells
  few = omega (arith, arrows_length p v, Valid-size v)

  Parts-of : Parts (problem_of p)
  unfolding problem_of size
  Parts-of =
      let many = (Lines-of p v).few in
      record {
        tall = v.high.0;
        wide = v.high.1;
        few = many;
        ended = omega (arith, array_length 0 (ends_from 0 p.arrows) (omega (arith, length_ends 0 p.arrows, many)), many);
        short = omega (arith, total_is, few);
        cells = λ t l.
            let h : t < length (arrow_cells p.arrows) = omega (arith, total_is) in
            rw (array_in 0 (arrow_cells p.arrows) 0 t h) (line_below p v (get_or (arrow_cells p.arrows) t 0) (at_mem (arrow_cells p.arrows) t h));
      }

  pub parts : (q : Problem) → q ≡ problem_of p → Parts q
  parts q e = subst Parts (sym e) Parts-of
