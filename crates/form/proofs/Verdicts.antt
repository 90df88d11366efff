-- The tests of a problem, taken part by part: a law for each way out of the code.
-- Assumes nothing.
use Prim.Native.Nat.{ℕ, ◌*◌, ◌≤◌, ◌<◌}
use native.Mathlib.Omega.{arith}
use mathlib.Core.Path.{◌≡◌, ap}
use mathlib.Core.Bool.{true, false, and-false, and-true}
use mathlib.Core.List.{List, []}
use lib.Dec.{ltb}
use lib.ListN.{length, get_or, take, replicate, length-replicate, get_or-replicate, get_or-eq_default}
use lib.Seq.{length-take-le, get_or-take}
use native.Mathlib.Decide.{dec_lt}
use borrow.Author.Tests.{eq-eqb, lt-leb, le-leb}
use Rattle.grid.specs.Lists.{all, last}
use Rattle.grid.specs.Grid.{Grid, size}
use Rattle.grid.specs.Side.{sized}
use Rattle.grid.proofs.ListLaws.{at_mem}
use Rattle.record.specs.Problem.{grid_of, arrows_from}
use Rattle.record.specs.declared.Problem.{Problem}
use Rattle.form.specs.Form.{long, behind, rises, fresh, is_path, good_size, coded, ended, drawn, problem_formed}
use Rattle.form.specs.Inside.{Blank, Cut}
use Rattle.form.proofs.ArrayTests.{Fresh-is}
use Rattle.form.proofs.ProblemForm.{Sized-is}

-- ---- arrays

-- zeros are blank
pub zeros_blank : Blank (replicate 1024 0)
zeros_blank = record { long = length-replicate {A = ℕ} 1024 0; each = λ i. go i (dec_lt i 1024) }
  where
    go : (i : ℕ) → Dec (i < 1024) → ◌≡◌ {A = ℕ} (get_or (replicate 1024 0) i 0) 0
    go i (yes h) = get_or-replicate {A = ℕ} 1024 i 0 0 h
    go i (no h) = get_or-eq_default (replicate 1024 0) 0 {n = i} (omega (arith, length-replicate {A = ℕ} 1024 0))

-- ---- the arrows
module _ (h w : ℕ) (es l : List ℕ) where
  pub drawn_far : 1024 < last 0 es → false ≡ drawn (sized h w) es l
  unfolding drawn
  drawn_far e = simp (lt-leb (last 0 es) 1024 e)

  pub drawn_twice : fresh (h * w) [] (take (last 0 es) l) ≡ false → false ≡ drawn (sized h w) es l
  unfolding drawn size
  drawn_twice e = simp (e, and-false)

  pub drawn_broken : false ≡ all (is_path (sized h w)) (arrows_from l 0 es) → false ≡ drawn (sized h w) es l
  unfolding drawn
  drawn_broken e = simp (← e, and-false)

  pub drawn_is : last 0 es ≤ 1024 → fresh (h * w) [] (take (last 0 es) l) ≡ true → true ≡ all (is_path (sized h w)) (arrows_from l 0 es) → behind 0 (last 0 es) l ≡ drawn (sized h w) es l
  unfolding drawn size
  drawn_is few f p = simp (le-leb (last 0 es) 1024 few, f, ← p, and-true)

-- arrow cells of which none stands twice, and ends that rise
pub cut_of : (n : ℕ) (es l : List ℕ) → length l ≡ 1024 → rises 0 es ≡ true → last 0 es ≤ 1024 → fresh n [] (take (last 0 es) l) ≡ true → Cut n es l
cut_of n es l long rise few f = record { rise = rise; few = few; on_grid = λ i h. below i h }
  where
    below : (i : ℕ) → i < last 0 es → get_or l i 0 < n
    below i h = rw (get_or-take (last 0 es) l i 0 h) at ((Fresh-is n [] (take (last 0 es) l) f).1 (get_or (take (last 0 es) l) i 0) (at_mem (take (last 0 es) l) i (omega (arith, length-take-le (last 0 es) l (omega arith)))))

-- ---- the problem
module _ (q : Problem) where
  pub problem_size : good_size (grid_of q) ≡ false → false ≡ problem_formed q
  unfolding problem_formed
  problem_size e = simp e

  pub problem_count : 1024 < q.count → false ≡ problem_formed q
  unfolding problem_formed ended
  problem_count e = simp (lt-leb q.count 1024 e, and-false)

  pub problem_rise : false ≡ rises 0 (take q.count q.ends) → false ≡ problem_formed q
  unfolding problem_formed ended
  problem_rise e = simp (← e, and-false)

  module _ {h w : ℕ} (g : sized h w ≡ grid_of q) where
    area : h * w ≡ size (grid_of q)
    unfolding size
    area = ap size g

    pub good_width : good_size (grid_of q) ≡ true → 0 < w
    good_width s = omega (arith, (Sized-is (grid_of q) s).low.1, ap (λ (r : Grid). r.width) g)

    pub problem_drawn : false ≡ drawn (sized h w) (take q.count q.ends) q.arrows → false ≡ problem_formed q
    unfolding problem_formed
    problem_drawn e = let d : false ≡ drawn (grid_of q) (take q.count q.ends) q.arrows = rw g at e in simp (← d, and-false)

    pub problem_codes : false ≡ all (λ (x : ℕ). ltb x 3) (take (h * w) q.cells) → false ≡ problem_formed q
    unfolding problem_formed coded
    problem_codes e = let d : false ≡ all (λ (x : ℕ). ltb x 3) (take (size (grid_of q)) q.cells) = rw area at e in simp (← d, and-false)

    pub problem_behind : false ≡ behind 0 (h * w) q.cells → false ≡ problem_formed q
    unfolding problem_formed coded
    problem_behind e = let d : false ≡ behind 0 (size (grid_of q)) q.cells = rw area at e in simp (← d, and-false)

    pub problem_is : good_size (grid_of q) ≡ true → length q.cells ≡ 1024 → length q.arrows ≡ 1024 → length q.ends ≡ 1024 → q.count ≤ 1024
        → true ≡ rises 0 (take q.count q.ends) → true ≡ drawn (sized h w) (take q.count q.ends) q.arrows
        → true ≡ all (λ (x : ℕ). ltb x 3) (take (h * w) q.cells) → true ≡ behind 0 (h * w) q.cells
        → behind 0 q.count q.ends ≡ problem_formed q
    unfolding problem_formed coded ended long
    problem_is s l m n few r d c b =
        let d' : true ≡ drawn (grid_of q) (take q.count q.ends) q.arrows = rw g at d in
        let c' : true ≡ all (λ (x : ℕ). ltb x 3) (take (size (grid_of q)) q.cells) = rw area at c in
        let b' : true ≡ behind 0 (size (grid_of q)) q.cells = rw area at b in
        simp (s, eq-eqb (length q.cells) 1024 l, eq-eqb (length q.arrows) 1024 m, eq-eqb (length q.ends) 1024 n, le-leb q.count 1024 few, ← r, ← d', ← c', ← b', and-true)

-- the ways out of the test of the arrows, and of that of a problem
pub ruleset arrow_tests = (drawn_far, drawn_twice, drawn_broken, drawn_is, cut_of)

pub ruleset problem_tests = (problem_size, problem_count, problem_rise, problem_drawn, problem_codes, problem_behind, problem_is)
