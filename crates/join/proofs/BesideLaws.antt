-- Two puzzles in arrays, side by side: room for both, and the joined puzzle in arrays.
-- Assumes nothing.
use Prim.Native.Nat.{ℕ, ◌+◌, ◌-◌, ◌*◌, ◌/◌, ◌%◌, ◌≤◌, ◌<◌}
use native.Mathlib.Omega.{arith}
use native.Mathlib.Decide.{dec_lt}
use mathlib.Core.Path.{◌≡◌, refl, sym, ap, subst, ◌∙◌}
use mathlib.Core.List.{List, [], ◌∷◌, ◌++◌, map}
use lib.ListN.{length, get_or, take, replicate, length-append, length-map, get_or-eq_default}
use Rattle.std.proofs.lemmas.List.{length-take, get_or-take, get_or_default}
use Rattle.grid.specs.Lists.{upto, array_of, flat_map}
use Rattle.grid.specs.Grid.{size, row, col, cells_of}
use Rattle.grid.specs.Side.{InGrid}
use Rattle.grid.proofs.AppendLaws.{flat_map-append}
use Rattle.grid.proofs.ArrayLaws.{array_length, array_take, array_in, array_out}
use Rattle.grid.proofs.FilledLaws.{filled_same}
use Rattle.grid.proofs.SideLaws.{area, in_place, some_wide}
use Rattle.record.specs.Record.{Puzzle}
use Rattle.record.specs.Valid.{Valid}
use Rattle.record.specs.Problem.{ends_from, arrow_cells, problem_of, total_of}
use Rattle.record.specs.declared.Problem.{Problem}
use Rattle.record.proofs.LinesLaws.{Lines-of, problem_Lines}
use Rattle.record.proofs.ProblemLaws.{length_ends}
use Rattle.record.proofs.RecordLaws.{Valid-size}
use Rattle.form.proofs.AcceptedLaws.{Kept}
use Rattle.writer.proofs.ArrayLaws.{ends_map, cells_map, total_is, few, Parts, parts}
use Rattle.join.specs.Join.{placed, code_beside, joined_grid, left_cell, right_cell, codes_beside, joined}
use Rattle.join.specs.Inside.{SideBySide, Placing, code_on, Behind}
use Rattle.join.proofs.JoinLaws.{joined-Valid}

-- ---- arrows one after another

cells_append : (as' bs : List (List ℕ)) → arrow_cells (as' ++ bs) ≡ arrow_cells as' ++ arrow_cells bs
unfolding arrow_cells
cells_append = flat_map-append (λ a. a)

ends_append : (at : ℕ) (as' bs : List (List ℕ)) → ends_from at (as' ++ bs) ≡ ends_from at as' ++ ends_from (at + length (arrow_cells as')) bs
unfolding ends_from arrow_cells
ends_append at [] bs = let e : at ≡ at + 0 = omega arith in ap (λ (k : ℕ). ends_from k bs) e
ends_append at (a ∷ as') bs =
    let r = ends_append (at + length a) as' bs in
    let e : at + length a + length (arrow_cells as') ≡ at + length (a ++ arrow_cells as') = omega (arith, length-append a (arrow_cells as')) in
    let d = ap (λ (k : ℕ). ends_from k bs) e in
    cc

ends_later : (n at : ℕ) (bs : List (List ℕ)) → ends_from (n + at) bs ≡ map (λ e. n + e) (ends_from at bs)
unfolding ends_from
ends_later n at [] = refl
ends_later n at (b ∷ bs) =
    let e : n + at + length b ≡ n + (at + length b) = omega arith in
    rw (e, ends_later n (at + length b) bs) refl

-- the joined puzzle in arrays
abbrev beside_arrays : Puzzle → Puzzle → Problem
beside_arrays p q = record {
  height = p.grid.height;
  width = (joined_grid p q).width;
  cells = array_of 0 (codes_beside p q);
  arrows = array_of 0 (map (left_cell p q) (arrow_cells p.arrows) ++ map (right_cell p q) (arrow_cells q.arrows));
  ends = array_of 0 (ends_from 0 p.arrows ++ map (λ e. length (arrow_cells p.arrows) + e) (ends_from 0 q.arrows));
  count = length p.arrows + length q.arrows;
}

module _ (p q : Puzzle) where
  abbrev L : List (List ℕ)
  L = map (map (left_cell p q)) p.arrows

  abbrev R : List (List ℕ)
  R = map (map (right_cell p q)) q.arrows

  line_joined : arrow_cells (L ++ R) ≡ map (left_cell p q) (arrow_cells p.arrows) ++ map (right_cell p q) (arrow_cells q.arrows)
  line_joined = cells_append L R ∙ rw (cells_map (left_cell p q) p.arrows, cells_map (right_cell p q) q.arrows) refl

  ends_joined : ends_from 0 (L ++ R) ≡ ends_from 0 p.arrows ++ map (λ e. length (arrow_cells p.arrows) + e) (ends_from 0 q.arrows)
  ends_joined =
      let n : 0 + length (arrow_cells L) ≡ length (arrow_cells p.arrows) + 0 = ap (λ (k : List ℕ). 0 + length k) (cells_map (left_cell p q) p.arrows) ∙ omega (arith, length-map (arrow_cells p.arrows) (left_cell p q)) in
      ends_append 0 L R ∙ rw (n, ends_map (left_cell p q) 0 p.arrows, ends_map (right_cell p q) (length (arrow_cells p.arrows) + 0) q.arrows, ends_later (length (arrow_cells p.arrows)) 0 q.arrows) refl

  count_joined : length (L ++ R) ≡ length p.arrows + length q.arrows
  count_joined = length-append L R ∙ omega (arith, length-map p.arrows (map (left_cell p q)), length-map q.arrows (map (right_cell p q)))

  problem_joined : beside_arrays p q ≡ problem_of (joined p q)
  unfolding problem_of
  problem_joined = rw (line_joined, ends_joined, count_joined) refl

-- ---- what the loops make

-- a list and the array that keeps it agree at every place
array_all : (l : List ℕ) (i : ℕ) → length l ≤ 1024 → get_or (array_of 0 l) i 0 ≡ get_or l i 0
array_all l i h = go (dec_lt i (length l)) (dec_lt i 1024)
  where
    go : Dec (i < length l) → Dec (i < 1024) → get_or (array_of 0 l) i 0 ≡ get_or l i 0
    go (yes a) _ = array_in 0 l 0 i a
    go (no a) (yes b) = array_out 0 l 0 i (omega arith) b ∙ sym (get_or-eq_default l 0 {n = i} (omega arith))
    go (no a) (no b) = get_or-eq_default (array_of 0 l) 0 {n = i} (omega (arith, array_length 0 l h)) ∙ sym (get_or-eq_default l 0 {n = i} (omega arith))

-- the first n places of an array that keeps a list of n numbers
front : (l : List ℕ) (n : ℕ) → n ≡ length l → take n (array_of 0 l) ≡ l
front l n e = rw e (array_take 0 l)

-- what they make of two problems with a and n arrow cells
pub record Built (l r : Problem) (a n : ℕ) (codes first line ends : List ℕ) : Type 0 where
  pub left_total : a ≡ total_of l
  pub right_total : n ≡ total_of r
  pub cells : codes ≡ array_of 0 (map (code_on l r) (upto (l.height * (l.width + 1 + r.width))))
  pub left : Behind 0 (placed 0 l.width (l.width + 1 + r.width)) (take a l.arrows) (replicate 1024 0) first
  pub right : Behind a (placed (l.width + 1) r.width (l.width + 1 + r.width)) (take n r.arrows) first line
  pub later : Behind l.count (λ e. a + e) (take r.count r.ends) l.ends ends

abbrev pub after_built : Problem → Problem → List ℕ → List ℕ → List ℕ → Problem
after_built l r codes line ends = record {
  height = l.height;
  width = l.width + 1 + r.width;
  cells = codes;
  arrows = line;
  ends = ends;
  count = l.count + r.count;
}

module _ (p q : Puzzle) (v : Valid p) (w : Valid q) (level : p.grid.height ≡ q.grid.height) (wide : (joined_grid p q).width ≤ 32) where
  abbrev W : ℕ
  W = (joined_grid p q).width

  code_same : (y x : ℕ) → code_beside (array_of 0 p.given) p.grid.width (array_of 0 q.given) q.grid.width y x ≡ code_beside p.given p.grid.width q.given q.grid.width y x
  unfolding code_beside
  code_same y x =
      rw (array_all p.given (y * p.grid.width + x) (omega (arith, v.total, Valid-size v)), array_all q.given (y * q.grid.width + (x - (p.grid.width + 1))) (omega (arith, w.total, Valid-size w))) refl

  codes_same : array_of 0 (map (λ j. code_beside (array_of 0 p.given) p.grid.width (array_of 0 q.given) q.grid.width (j / W) (j % W)) (upto (p.grid.height * W))) ≡ array_of 0 (codes_beside p q)
  unfolding codes_beside cells_of size row col
  codes_same =
      filled_same 0 (λ j. code_beside (array_of 0 p.given) p.grid.width (array_of 0 q.given) q.grid.width (j / W) (j % W)) (λ j. code_beside p.given p.grid.width q.given q.grid.width (j / W) (j % W))
      (p.grid.height * W) (area p.grid.height W v.high.0 wide) (λ i l. code_same (i / W) (i % W))

  Built-of : (a n : ℕ) (codes first line ends : List ℕ) → Built (problem_of p) (problem_of q) a n codes first line ends → after_built (problem_of p) (problem_of q) codes line ends ≡ problem_of (joined p q)
  unfolding problem_of array_of
  Built-of s m codes first line ends b =
      let A : List ℕ = arrow_cells p.arrows in
      let B : List ℕ = arrow_cells q.arrows in
      let x = b.left_total ∙ total_is p v in
      let y = b.right_total ∙ total_is q w in
      let e1 = ap (map (left_cell p q)) (front A s x) in
      let e2 = ap (map (right_cell p q)) (front B m y) in
      let one : first ≡ array_of 0 (map (left_cell p q) A) = b.left [] refl refl ∙ ap (array_of 0) e1 in
      let two = b.right (map (left_cell p q) A) (length-map A (left_cell p q) ∙ sym x) one in
      let three = b.later (ends_from 0 p.arrows) (length_ends 0 p.arrows) refl in
      let e3 = ap (map (λ k. s + k)) (front (ends_from 0 q.arrows) (length q.arrows) (sym (length_ends 0 q.arrows))) ∙ ap (λ (n : ℕ). map (λ k. n + k) (ends_from 0 q.arrows)) x in
      let c1 : codes ≡ array_of 0 (codes_beside p q) = b.cells ∙ codes_same in
      let c2 : line ≡ array_of 0 (map (left_cell p q) A ++ map (right_cell p q) B) = two ∙ rw e2 refl in
      let c3 : ends ≡ array_of 0 (ends_from 0 p.arrows ++ map (λ e. length A + e) (ends_from 0 q.arrows)) = three ∙ rw e3 refl in
      rw (c1, c2, c3) (problem_joined p q)

  room_of : (total_of (problem_of p) + total_of (problem_of q) ≤ 1024) × ((problem_of p).count + (problem_of q).count ≤ 1024)
  unfolding problem_of
  room_of =
      let ok = joined-Valid p q level v w wide in
      let n = ap length (line_joined p q) ∙ length-append (map (left_cell p q) (arrow_cells p.arrows)) (map (right_cell p q) (arrow_cells q.arrows)) in (
        omega (arith, n, length-map (arrow_cells p.arrows) (left_cell p q), length-map (arrow_cells q.arrows) (right_cell p q), few (joined p q) ok, total_is p v, total_is q w),
        omega (arith, count_joined p q, (Lines-of (joined p q) ok).few),
      )

-- ---- two problems that can stand side by side

pub record Fit (l r : Problem) : Type 0 where
  pub left : Parts l
  pub right : Parts r
  pub wide : l.width + 1 + r.width ≤ 32
  pub line : total_of l + total_of r ≤ 1024
  pub count : l.count + r.count ≤ 1024
  pub ends : (t : ℕ) → t < r.count → get_or r.ends t 0 ≤ 1024

-- the sizes of a puzzle and of its problem
pub same_height : (p : Puzzle) (l : Problem) → l ≡ problem_of p → l.height ≡ p.grid.height
unfolding problem_of
same_height p l e = ap (λ (x : Problem). x.height) e

pub same_width : (p : Puzzle) (l : Problem) → l ≡ problem_of p → l.width ≡ p.grid.width
unfolding problem_of
same_width p l e = ap (λ (x : Problem). x.width) e

module _ {p q : Puzzle} {l r : Problem} (left : Kept p l) (right : Kept q r) where
  pub level_of : l.height ≡ r.height → p.grid.height ≡ q.grid.height
  level_of h = sym (same_height p l left.arrays) ∙ h ∙ same_height q r right.arrays

  pub wide_of : l.width + 1 + r.width ≤ 32 → (joined_grid p q).width ≤ 32
  wide_of k = omega (arith, k, same_width p l left.arrays, same_width q r right.arrays)

  module _ (level : p.grid.height ≡ q.grid.height) (wide : (joined_grid p q).width ≤ 32) where
    pub fit : Fit l r
    fit =
        let n = room_of p q left.valid right.valid level wide in
        let m = subst (λ x. (total_of x + total_of r ≤ 1024) × (x.count + r.count ≤ 1024)) (sym left.arrays)
        (subst (λ y. (total_of (problem_of p) + total_of y ≤ 1024) × ((problem_of p).count + y.count ≤ 1024)) (sym right.arrays) n) in
        record {
          left = parts p left.valid l left.arrays;
          right = parts q right.valid r right.arrays;
          wide = omega (arith, wide, same_width p l left.arrays, same_width q r right.arrays);
          line = m.0;
          count = m.1;
          ends = (problem_Lines q right.valid r right.arrays).room;
        }

    -- what is built of the two is the arrays of the joined puzzle
    pub built : {a n : ℕ} {codes first line ends : List ℕ} → Built l r a n codes first line ends → after_built l r codes line ends ≡ problem_of (joined p q)
    built {a} {n} {codes} {first} {line} {ends} =
        subst (λ x. Built x r a n codes first line ends → after_built x r codes line ends ≡ problem_of (joined p q)) (sym left.arrays)
        (subst (λ y. Built (problem_of p) y a n codes first line ends → after_built (problem_of p) y codes line ends ≡ problem_of (joined p q)) (sym right.arrays)
        (Built-of p q left.valid right.valid level wide a n codes first line ends))

-- an arrow cell has its place
pub places : (l : Problem) → Parts l → (d m : ℕ) → d + l.width ≤ m → m ≤ 32 → (n : ℕ) → n ≡ total_of l → (t : ℕ) → t < n → Placing d l.width m (get_or l.arrows t 0)
places l P d m inside wide n e t h =
    let i : InGrid l.height l.width (get_or l.arrows t 0) = record { tall = P.tall; wide = P.wide; within = P.cells t (omega (arith, e)) } in
    record { some = some_wide i; row = omega (arith, (in_place i).row, P.tall); inside = inside; wide = wide }

-- the numbers of the first n places
pub front_below : (n : ℕ) (l : List ℕ) (k : ℕ) → k < length (take n l) → k < n
front_below n l k h = omega (arith, length-take n l)

pub front_at : (n : ℕ) (l : List ℕ) (k z : ℕ) → k < length (take n l) → get_or (take n l) k z ≡ get_or l k 0
front_at n l k z h = get_or-take n l k z (front_below n l k h) ∙ get_or_default l k z 0 (omega (arith, length-take n l))

-- its place, where only the first n arrow cells are given
pub place_in : (l : Problem) → Parts l → (d m : ℕ) → d + l.width ≤ m → m ≤ 32 → (n : ℕ) → n ≡ total_of l → (k z : ℕ) → k < length (take n l.arrows) → Placing d l.width m (get_or (take n l.arrows) k z)
place_in l P d m inside wide n e k z h = rw (front_at n l.arrows k z h) (places l P d m inside wide n e k (front_below n l.arrows k h))

pub sides : {l r : Problem} → Fit l r → SideBySide l.height l.width r.width
sides f = record { tall = f.left.tall; wide = f.wide }
