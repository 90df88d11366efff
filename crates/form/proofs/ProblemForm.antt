-- A problem passes the test exactly when it is that of a valid puzzle.
-- Assumes nothing.
use Prim.Native.Nat.{ℕ, suc, ◌+◌, ◌-◌, ◌≤◌, ◌<◌}
use native.Mathlib.Omega.{arith}
use mathlib.Core.Logic.{◌⊎◌, inl, inr}
use mathlib.Core.Path.{◌≡◌, refl, ap, ◌∙◌}
use mathlib.Core.Bool.{Bool, true, ◌&&◌}
use mathlib.Core.List.Memᴰ
use mathlib.Core.List.{List, [], ◌∷◌, ◌++◌, Memᴰ}
use lib.Dec.{leb, ltb}
use lib.ListN.{length, take, drop, replicate, length-append, length-drop}
use lib.Seq.{length-take-le, drop-drop, take-add}
use borrow.Author.Tests.{eqb-true, eq-eqb, ltb-true, lt-ltb, leb-true, le-leb}
use Rattle.std.proofs.lemmas.Bool.{and_from}
use Rattle.grid.specs.Lists.{all, member, last, array_of}
use Rattle.grid.specs.Grid.{Grid, size, neighbours}
use Rattle.grid.proofs.ListLaws.{and-true, member-mem, mem-member, all-mem, mem-all, flat_map-mem}
use Rattle.grid.proofs.ArrayLaws.{array_length, array_take}
use Rattle.grid.proofs.GridLaws.{size_most}
use Rattle.record.specs.Record.{Puzzle}
use Rattle.record.specs.Valid.{Walk, end, on, Fresh, arrow, Arrows, Valid}
use Rattle.record.specs.Problem.{problem_of, puzzle_of, grid_of, arrows_from, ends_from, arrow_cells}
use Rattle.record.specs.declared.Problem.{Problem}
use Rattle.record.proofs.FreshLaws.{fewer, Arrows-size, arrows_length, Fresh-append}
use Rattle.record.proofs.ProblemLaws.{length_ends, arrows_again}
use Rattle.record.proofs.RecordLaws.{Valid-size}
use Rattle.form.specs.Form.{long, behind, rises, fresh, walks, is_path, good_size, coded, ended, drawn, problem_formed}
use Rattle.form.proofs.ArrayTests.{behind_kept, kept_behind, Fresh-is, is_Fresh}

-- ---- walks

walks_is : (g : Grid) (i : ℕ) (js : List ℕ) → walks g i js ≡ true → Walk g i js
unfolding walks
walks_is g i [] h = end
walks_is g i (j ∷ js) h =
    let a = and-true (member j (neighbours g i)) (walks g j js) h in
    on (member-mem j (neighbours g i) a.0) (walks_is g j js a.1)

is_walks : (g : Grid) {i : ℕ} {js : List ℕ} → Walk g i js → walks g i js ≡ true
unfolding walks
is_walks g end = refl
is_walks g {i} (on {j} m w) = and_from _ _ (mem-member j (neighbours g i) m) (is_walks g w)

-- ---- arrows in a row

-- none is empty
nonempty : List ℕ → Bool
nonempty a = ltb 0 (length a)

Fresh-left : {u : List ℕ} (a b : List ℕ) → Fresh u (a ++ b) → Fresh u a
Fresh-left [] b f = Fresh.nil
Fresh-left (j ∷ a) b (Fresh.cons h r) = Fresh.cons h (Fresh-left a b r)

Fresh-right : {u : List ℕ} (a b : List ℕ) → Fresh u (a ++ b) → Fresh (a ++ u) b
Fresh-right [] b f = f
Fresh-right {u} (j ∷ a) b (Fresh.cons h r) = fewer turn (Fresh-right a b r)
  where
    turn : (x : ℕ) → Memᴰ x (j ∷ (a ++ u)) → Memᴰ x (a ++ (j ∷ u))
    turn x (Memᴰ.head e) = Memᴰ.append_right a (Memᴰ.head e)
    turn x (Memᴰ.tail m) = go (Memᴰ.append_cases a m)
      where
        go : Memᴰ x a ⊎ Memᴰ x u → Memᴰ x (a ++ (j ∷ u))
        go (inl k) = Memᴰ.append_left (j ∷ u) k
        go (inr k) = Memᴰ.append_right a (Memᴰ.tail k)

-- arrows that pass the tests
Arrows-is : (g : Grid) (u : List ℕ) (l : List (List ℕ)) → all nonempty l ≡ true → all (is_path g) l ≡ true
    → Fresh u (arrow_cells l) → ((x : ℕ) → Memᴰ x (arrow_cells l) → x < size g) → Arrows g u l
unfolding arrow_cells is_path nonempty
Arrows-is g u [] n h f b = Arrows.nil
Arrows-is g u ([] ∷ l) n h f b = absurd (omega (arith, ltb-true 0 0 (and-true (ltb 0 0) (all nonempty l) n).0))
Arrows-is g u ((i ∷ js) ∷ l) n h f b =
    let k = and-true (walks g i js) (all (is_path g) l) h in
    let m = and-true (ltb 0 (length (i ∷ js))) (all nonempty l) n in
    Arrows.cons
    (arrow (b i (Memᴰ.head refl)) (walks_is g i js k.0))
    (Fresh-left (i ∷ js) (arrow_cells l) f)
    (Arrows-is g ((i ∷ js) ++ u) l m.1 k.1 (Fresh-right (i ∷ js) (arrow_cells l) f) (λ x q. b x (Memᴰ.append_right (i ∷ js) q)))

is_path_lem : {g : Grid} {u : List ℕ} {l : List (List ℕ)} → Arrows g u l → all (is_path g) l ≡ true
unfolding is_path
is_path_lem Arrows.nil = refl
is_path_lem {g} (Arrows.cons (arrow h w) f r) = and_from _ _ (is_walks g w) (is_path_lem r)

is_Fresh_line : {g : Grid} {u : List ℕ} {l : List (List ℕ)} → Arrows g u l → Fresh u (arrow_cells l)
unfolding arrow_cells
is_Fresh_line Arrows.nil = Fresh.nil
is_Fresh_line (Arrows.cons a f r) = Fresh-append f (is_Fresh_line r)

-- ---- arrows cut out of a line

-- the last end is no less than the start
pub rises-last : (at : ℕ) (es : List ℕ) → rises at es ≡ true → at ≤ last at es
unfolding rises last
rises-last at [] h = omega arith
rises-last at (e ∷ es) h =
    let a = and-true (ltb at e) (rises e es) h in
    omega (arith, ltb-true at e a.0, rises-last e es a.1)

module _ (line : List ℕ) where
  cut : (at e : ℕ) → at < e → e ≤ length line → length (take (e - at) (drop at line)) ≡ e - at
  cut at e h k = length-take-le (e - at) (drop at line) (omega (arith, length-drop at line))

  -- the ends of the arrows are the ends by which they were cut
  ends_again : (at : ℕ) (es : List ℕ) → rises at es ≡ true → last at es ≤ length line → ends_from at (arrows_from line at es) ≡ es
  unfolding ends_from arrows_from rises last
  ends_again at [] h k = refl
  ends_again at (e ∷ es) h k =
      let a = and-true (ltb at e) (rises e es) h in
      let lt : at < e = ltb-true at e a.0 in
      let c = cut at e lt (omega (arith, rises-last e es a.1)) in
      let q : at + length (take (e - at) (drop at line)) ≡ e = omega arith in
      rw q (ap (λ (r : List ℕ). e ∷ r) (ends_again e es a.1 k))

  -- the arrows, one after another, are the first places
  line_again : (at : ℕ) (es : List ℕ) → rises at es ≡ true → last at es ≤ length line → arrow_cells (arrows_from line at es) ≡ take (last at es - at) (drop at line)
  unfolding arrows_from rises last arrow_cells
  line_again at [] h k = let z : at - at ≡ 0 = omega arith in rw z refl
  line_again at (e ∷ es) h k =
      let a = and-true (ltb at e) (rises e es) h in
      let lt : at < e = ltb-true at e a.0 in
      let up = rises-last e es a.1 in
      let q : last e es - at ≡ (e - at) + (last e es - e) = omega arith in
      let r : at + (e - at) ≡ e = omega arith in
      rw (line_again e es a.1 k, q, take-add (e - at) (last e es - e) (drop at line), drop-drop (e - at) at line, r) refl

  -- no arrow is empty
  cut_nonempty : (at : ℕ) (es : List ℕ) → rises at es ≡ true → last at es ≤ length line → all nonempty (arrows_from line at es) ≡ true
  unfolding arrows_from rises last nonempty
  cut_nonempty at [] h k = refl
  cut_nonempty at (e ∷ es) h k =
      let a = and-true (ltb at e) (rises e es) h in
      let lt : at < e = ltb-true at e a.0 in
      let c = cut at e lt (omega (arith, rises-last e es a.1)) in
      and_from _ _ (lt-ltb 0 (length (take (e - at) (drop at line))) (omega arith)) (cut_nonempty e es a.1 k)

  -- as many as ends
  cut_length : (at : ℕ) (es : List ℕ) → length (arrows_from line at es) ≡ length es
  unfolding arrows_from
  cut_length at [] = refl
  cut_length at (e ∷ es) = ap suc (cut_length e es)

-- the ends of arrows rise
ends_rise : {g : Grid} {u : List ℕ} (at : ℕ) {l : List (List ℕ)} → Arrows g u l → rises at (ends_from at l) ≡ true
unfolding rises ends_from
ends_rise at Arrows.nil = refl
ends_rise at (Arrows.cons {a} (arrow h w) f r) = and_from _ _ (lt-ltb at (at + length a) (omega arith)) (ends_rise (at + length a) r)

ends_last : (at : ℕ) (l : List (List ℕ)) → last at (ends_from at l) ≡ at + length (arrow_cells l)
unfolding last ends_from arrow_cells
ends_last at [] = omega arith
ends_last at (a ∷ l) = rw length-append (omega (arith, ends_last (at + length a) l))

-- no more arrows than arrow cells
few_Arrows : {g : Grid} {u : List ℕ} {l : List (List ℕ)} → Arrows g u l → length l ≤ length (arrow_cells l)
unfolding arrow_cells
few_Arrows Arrows.nil = omega arith
few_Arrows (Arrows.cons (arrow h w) f r) = rw length-append (omega (arith, few_Arrows r))

-- ---- sizes

-- H and W are 1 to 32
pub record Sized (g : Grid) : Type 0 where
  pub low : (0 < g.height) × (0 < g.width)
  pub high : (g.height ≤ 32) × (g.width ≤ 32)

pub Sized-is : (g : Grid) → good_size g ≡ true → Sized g
unfolding good_size
Sized-is g h =
    let a = and-true (leb 1 g.height && leb g.height 32) (leb 1 g.width && leb g.width 32) h in
    let b = and-true (leb 1 g.height) (leb g.height 32) a.0 in
    let c = and-true (leb 1 g.width) (leb g.width 32) a.1 in
    record { low = (leb-true 1 g.height b.0, leb-true 1 g.width c.0); high = (leb-true g.height 32 b.1, leb-true g.width 32 c.1) }

pub is_Sized : (g : Grid) → Sized g → good_size g ≡ true
unfolding good_size
is_Sized g s =
    and_from _ _
    (and_from _ _ (le-leb 1 g.height s.low.0) (le-leb g.height 32 s.high.0))
    (and_from _ _ (le-leb 1 g.width s.low.1) (le-leb g.width 32 s.high.1))

-- ---- the test of a problem

-- what a problem that passes the test is known to be
pub record Formed (q : Problem) : Type 0 where
  pub sizes : Sized (grid_of q)
  pub cells_long : length q.cells ≡ 1024
  pub arrows_long : length q.arrows ≡ 1024
  pub ends_long : length q.ends ≡ 1024
  pub codes : coded (size (grid_of q)) q.cells ≡ true
  pub ends : ended q.count q.ends ≡ true
  pub arrows : drawn (grid_of q) (take q.count q.ends) q.arrows ≡ true

pub Formed-is : (q : Problem) → problem_formed q ≡ true → Formed q
unfolding problem_formed long
Formed-is q h =
    let a = and-true (good_size (grid_of q) && (long q.cells && (long q.arrows && long q.ends))) (coded (size (grid_of q)) q.cells && (ended q.count q.ends && drawn (grid_of q) (take q.count q.ends) q.arrows)) h in
    let b = and-true (good_size (grid_of q)) (long q.cells && (long q.arrows && long q.ends)) a.0 in
    let c = and-true (long q.cells) (long q.arrows && long q.ends) b.1 in
    let d = and-true (long q.arrows) (long q.ends) c.1 in
    let e = and-true (coded (size (grid_of q)) q.cells) (ended q.count q.ends && drawn (grid_of q) (take q.count q.ends) q.arrows) a.1 in
    let f = and-true (ended q.count q.ends) (drawn (grid_of q) (take q.count q.ends) q.arrows) e.1 in
    record {
      sizes = Sized-is (grid_of q) b.0;
      cells_long = eqb-true (length q.cells) 1024 c.0;
      arrows_long = eqb-true (length q.arrows) 1024 d.0;
      ends_long = eqb-true (length q.ends) 1024 d.1;
      codes = e.0;
      ends = f.0;
      arrows = f.1;
    }

pub is_Formed : (q : Problem) → Formed q → problem_formed q ≡ true
unfolding problem_formed long
is_Formed q f =
    and_from _ _
    (and_from _ _ (is_Sized (grid_of q) f.sizes) (and_from _ _ (eq-eqb (length q.cells) 1024 f.cells_long) (and_from _ _ (eq-eqb (length q.arrows) 1024 f.arrows_long) (eq-eqb (length q.ends) 1024 f.ends_long))))
    (and_from _ _ f.codes (and_from _ _ f.ends f.arrows))

-- what the arrays of a problem keep
module _ (q : Problem) (f : Formed q) where
  most : size (grid_of q) ≤ 1024
  most = size_most (grid_of q) f.sizes.high.0 f.sizes.high.1

  es : List ℕ
  es = take q.count q.ends

  record EndFacts : Type 0 where
    few : q.count ≤ 1024
    rise : rises 0 es ≡ true
    zeros : behind 0 q.count q.ends ≡ true

  end_facts : EndFacts
  unfolding ended es
  end_facts =
      let a = and-true (leb q.count 1024 && rises 0 es) (behind 0 q.count q.ends) f.ends in
      let b = and-true (leb q.count 1024) (rises 0 es) a.0 in
      record { few = leb-true q.count 1024 b.0; rise = b.1; zeros = a.1 }

  record LineFacts : Type 0 where
    few : last 0 es ≤ 1024
    once : fresh (size (grid_of q)) [] (take (last 0 es) q.arrows) ≡ true
    zeros : behind 0 (last 0 es) q.arrows ≡ true
    paths : all (is_path (grid_of q)) (arrows_from q.arrows 0 es) ≡ true

  line_facts : LineFacts
  unfolding drawn es
  line_facts =
      let a = and-true ((leb (last 0 es) 1024 && fresh (size (grid_of q)) [] (take (last 0 es) q.arrows)) && behind 0 (last 0 es) q.arrows) (all (is_path (grid_of q)) (arrows_from q.arrows 0 es)) f.arrows in
      let b = and-true (leb (last 0 es) 1024 && fresh (size (grid_of q)) [] (take (last 0 es) q.arrows)) (behind 0 (last 0 es) q.arrows) a.0 in
      let c = and-true (leb (last 0 es) 1024) (fresh (size (grid_of q)) [] (take (last 0 es) q.arrows)) b.0 in
      record { few = leb-true (last 0 es) 1024 c.0; once = c.1; zeros = b.1; paths = a.1 }

  line : arrow_cells (arrows_from q.arrows 0 es) ≡ take (last 0 es) q.arrows
  line =
      let z : last 0 es - 0 ≡ last 0 es = omega arith in
      line_again q.arrows 0 es end_facts.rise (omega (arith, line_facts.few, f.arrows_long)) ∙ rw z refl

  code_facts : (all (λ c. ltb c 3) (take (size (grid_of q)) q.cells) ≡ true) × (behind 0 (size (grid_of q)) q.cells ≡ true)
  unfolding coded
  code_facts = and-true (all (λ c. ltb c 3) (take (size (grid_of q)) q.cells)) (behind 0 (size (grid_of q)) q.cells) f.codes

  -- the puzzle that the arrays show is valid
  pub formed_Valid : Valid (puzzle_of q)
  unfolding puzzle_of es
  formed_Valid =
      let r = Fresh-is (size (grid_of q)) [] (take (last 0 es) q.arrows) line_facts.once in
      record {
        low = f.sizes.low;
        high = f.sizes.high;
        total = length-take-le (size (grid_of q)) q.cells (omega (arith, most, f.cells_long));
        codes = λ c m. ltb-true c 3 (all-mem (λ d. ltb d 3) (take (size (grid_of q)) q.cells) code_facts.0 c m);
        arrows = Arrows-is (grid_of q) [] (arrows_from q.arrows 0 es)
            (cut_nonempty q.arrows 0 es end_facts.rise (omega (arith, line_facts.few, f.arrows_long)))
            line_facts.paths
            (rw line r.0)
            (rw line r.1);
      }

  -- the arrays of that puzzle are these
  pub formed_again : problem_of (puzzle_of q) ≡ q
  unfolding puzzle_of problem_of grid_of es
  formed_again =
      let c : array_of 0 (take (size (grid_of q)) q.cells) ≡ q.cells = behind_kept 0 (size (grid_of q)) q.cells f.cells_long most code_facts.1 in
      let a : array_of 0 (arrow_cells (arrows_from q.arrows 0 es)) ≡ q.arrows = ap (array_of 0) line ∙ behind_kept 0 (last 0 es) q.arrows f.arrows_long line_facts.few line_facts.zeros in
      let e : array_of 0 (ends_from 0 (arrows_from q.arrows 0 es)) ≡ q.ends =
      ap (array_of 0) (ends_again q.arrows 0 es end_facts.rise (omega (arith, line_facts.few, f.arrows_long))) ∙ behind_kept 0 q.count q.ends f.ends_long end_facts.few end_facts.zeros in
      let n : length (arrows_from q.arrows 0 es) ≡ q.count = cut_length q.arrows 0 es ∙ length-take-le q.count q.ends (omega (arith, end_facts.few, f.ends_long)) in
      rw (c, a, e, n) refl

-- ---- and the other way round

module _ (p : Puzzle) (v : Valid p) where
  pub few_cells : length (arrow_cells p.arrows) ≤ 1024
  unfolding arrow_cells
  few_cells = omega (arith, arrows_length p v, Valid-size v)

  few_ends : length (ends_from 0 p.arrows) ≤ 1024
  few_ends = omega (arith, length_ends 0 p.arrows, few_Arrows v.arrows, few_cells)

  pub ends_taken : take (length p.arrows) (array_of 0 (ends_from 0 p.arrows)) ≡ ends_from 0 p.arrows
  ends_taken = rw (← length_ends 0 p.arrows) (array_take 0 (ends_from 0 p.arrows))

  pub last_end : last 0 (ends_from 0 p.arrows) ≡ length (arrow_cells p.arrows)
  last_end = ends_last 0 p.arrows ∙ omega arith

  -- the line up to the last end
  pub line_taken : take (last 0 (take (length p.arrows) (array_of 0 (ends_from 0 p.arrows)))) (array_of 0 (arrow_cells p.arrows)) ≡ arrow_cells p.arrows
  line_taken = rw (ends_taken, last_end) (array_take 0 (arrow_cells p.arrows))

  cells_taken : take (size p.grid) (array_of 0 p.given) ≡ p.given
  cells_taken = rw (← v.total) (array_take 0 p.given)

  codes_pass : coded (size p.grid) (array_of 0 p.given) ≡ true
  unfolding coded
  codes_pass =
      rw cells_taken
      (and_from _ _ (mem-all (λ c. ltb c 3) p.given (λ c m. lt-ltb c 3 (v.codes c m))) (kept_behind 0 (size p.grid) p.given v.total))

  ends_pass : ended (length p.arrows) (array_of 0 (ends_from 0 p.arrows)) ≡ true
  unfolding ended
  ends_pass =
      and_from _ _
      (and_from _ _ (le-leb (length p.arrows) 1024 (omega (arith, few_ends, length_ends 0 p.arrows))) (rw ends_taken (ends_rise 0 v.arrows)))
      (kept_behind 0 (length p.arrows) (ends_from 0 p.arrows) (length_ends 0 p.arrows))

  pub line_below : (x : ℕ) → Memᴰ x (arrow_cells p.arrows) → x < size p.grid
  unfolding arrow_cells
  line_below x m = let r = flat_map-mem (λ a. a) p.arrows m in Arrows-size v.arrows r.0 r.1 x r.2

  arrows_kept : arrows_from (array_of 0 (arrow_cells p.arrows)) 0 (ends_from 0 p.arrows) ≡ p.arrows
  unfolding array_of
  arrows_kept = arrows_again (array_of 0 (arrow_cells p.arrows)) [] (replicate (1024 - length (arrow_cells p.arrows)) 0) 0 p.arrows refl refl

  arrows_pass : drawn p.grid (take (length p.arrows) (array_of 0 (ends_from 0 p.arrows))) (array_of 0 (arrow_cells p.arrows)) ≡ true
  unfolding drawn
  arrows_pass =
      rw (ends_taken, last_end, arrows_kept, array_take 0 (arrow_cells p.arrows))
      (and_from _ _
      (and_from _ _
      (and_from _ _ (le-leb (length (arrow_cells p.arrows)) 1024 few_cells) (is_Fresh (size p.grid) (is_Fresh_line v.arrows) line_below))
      (kept_behind 0 (length (arrow_cells p.arrows)) (arrow_cells p.arrows) refl))
      (is_path_lem v.arrows))

  -- the problem of a valid puzzle passes the test
  pub valid_Formed : Formed (problem_of p)
  unfolding problem_of grid_of
  valid_Formed = record {
    sizes = record { low = v.low; high = v.high };
    cells_long = array_length 0 p.given (omega (arith, v.total, Valid-size v));
    arrows_long = array_length 0 (arrow_cells p.arrows) few_cells;
    ends_long = array_length 0 (ends_from 0 p.arrows) few_ends;
    codes = codes_pass;
    ends = ends_pass;
    arrows = arrows_pass;
  }
