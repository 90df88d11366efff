-- What is kept from a board to one that is the same up to the names of its cells: blocks, reaches, sizes, shifted copies and pairs.
-- Assumes nothing.
use Prim.Native.Nat.{ℕ, ◌<◌, ◌≤◌}
use native.Mathlib.Nat.{le_antisymm}
use mathlib.Core.Logic.{inl, inr}
use mathlib.Core.Path.{◌≡◌, refl, sym, ap, ◌∙◌, subst}
use mathlib.Core.Bool.{Bool, true, false, So, not}
use mathlib.Core.List.Memᴰ
use mathlib.Core.List.{List, [], ◌∷◌, ◌++◌, map, map-append, Memᴰ}
use lib.Dec.{eqb}
use lib.ListN.{get_or}
use Rattle.grid.specs.Count.{count}
use Rattle.grid.specs.Grid.{Grid, size, Adjacent}
use Rattle.grid.specs.Cells.{empty, square, undecided, potential}
use Rattle.grid.proofs.Count.{count_inj}
use Rattle.grid.proofs.LinkLaws.{Linked-start, Linked-end}
use Rattle.grid.proofs.PlaceLaws.{Adjacent-on}
use Rattle.groups.specs.Arrows.{OnArrow}
use Rattle.groups.specs.Rules.{Shift, Contains, Next}
use Rattle.kinds.specs.Meaning.{Setting, partial_of, Block, Touch, Foreign, Neighbour, Floating, Reach}
use Rattle.kinds.proofs.Bridge.{sq<, un<, decisions, Dec-Reach}
use Rattle.kinds.proofs.Fence.{reach<}
use Rattle.units.specs.Chosen.{SamePotential}
use Rattle.growth.specs.Growth.{most_apart}
use Rattle.reasons.proofs.Sound1.{potential<}
use Rattle.embed.specs.Embedding.{Embedding, Image}
use Rattle.embed.proofs.EmbedLaws.{link_to, copy_to}
use Rattle.verdict.specs.Applies.{BlockOf, ReachOf, Size}

-- the grid of a board
abbrev pub grid_of : Setting → Grid
grid_of a = a.puzzle.grid

-- to takes the cells of a to those of b, from takes them back, and both keep sides, shifts, arrows and states
pub record Alike (a b : Setting) (to from : ℕ → ℕ) : Type 0 where
  pub there : Embedding (grid_of a) (grid_of b) to
  pub back : Embedding (grid_of b) (grid_of a) from
  pub home : (i : ℕ) → i < size (grid_of a) → from (to i) ≡ i
  pub away : (j : ℕ) → j < size (grid_of b) → to (from j) ≡ j
  pub arrows : b.puzzle.arrows ≡ map (map to) a.puzzle.arrows
  pub arrows_back : a.puzzle.arrows ≡ map (map from) b.puzzle.arrows
  pub states : (i : ℕ) → i < size (grid_of a) → get_or b.cells (to i) 0 ≡ get_or a.cells i 0

-- the other way round
abbrev pub reverse : {a b : Setting} {to from : ℕ → ℕ} → Alike a b to from → Alike b a from to
reverse {a} {b} {to} {from} s = record {
  there = s.back;
  back = s.there;
  home = s.away;
  away = s.home;
  arrows = s.arrows_back;
  arrows_back = s.arrows;
  states = λ j l. sym (s.states (from j) (s.back.into j l)) ∙ ap (λ z. get_or b.cells z 0) (s.away j l);
}

-- an arrow cell lies on the grid
pub arrow< : (a : Setting) (i : ℕ) → OnArrow a.puzzle.arrows i → i < size (grid_of a)
arrow< a i (l, m, n) = a.lines.on l m i n

module _ {a b : Setting} {to from : ℕ → ℕ} (s : Alike a b to from) where
  open s use {there, back, home, away}

  -- what holds of two cells that went there and back
  pub both_home : (R : ℕ → ℕ → Type 0) (i j : ℕ) → i < size (grid_of a) → j < size (grid_of a) → R (from (to i)) (from (to j)) → R i j
  both_home R i j il jl r = subst (λ z. R z j) (home i il) (subst (R (from (to i))) (home j jl) r)

  -- the same state, so the same tests
  pub square_same : (i : ℕ) → i < size (grid_of a) → square b.cells (to i) ≡ square a.cells i
  unfolding square
  square_same i l = ap (λ z. eqb z 1) (s.states i l)

  undecided_same : (i : ℕ) → i < size (grid_of a) → undecided b.cells (to i) ≡ undecided a.cells i
  unfolding undecided
  undecided_same i l = ap (λ z. eqb z 2) (s.states i l)

  potential_same : (i : ℕ) → i < size (grid_of a) → potential b.cells (to i) ≡ potential a.cells i
  unfolding potential empty
  potential_same i l = ap (λ z. not (eqb z 0)) (s.states i l)

  pub square_to : (i : ℕ) → So (square a.cells i) → So (square b.cells (to i))
  square_to i h = square_same i (sq< a i h) ∙ h

  undecided_to : (i : ℕ) → So (undecided a.cells i) → So (undecided b.cells (to i))
  undecided_to i h = undecided_same i (un< a i h) ∙ h

  -- arrow cells and neighbours
  pub arrow_to : (i : ℕ) → OnArrow a.puzzle.arrows i → OnArrow b.puzzle.arrows (to i)
  arrow_to i (l, m, n) = (map to l, subst (Memᴰ (map to l)) (sym s.arrows) (Memᴰ.map (map to) m), Memᴰ.map to n)

  Adjacent-to : (i j : ℕ) → Adjacent (grid_of a) i j → Adjacent (grid_of b) (to i) (to j)
  Adjacent-to i j e = (there.adj i j e.0 (Adjacent-on (grid_of a) i j e)).0 e

  -- groups
  pub potential_to : (i j : ℕ) → SamePotential (grid_of a) a.cells i j → SamePotential (grid_of b) b.cells (to i) (to j)
  potential_to i j l = (link_to there (λ x k h. potential_same x k ∙ h) (potential< a i (Linked-start l)) l).1

  pub Block-to : (i j : ℕ) → Block (partial_of a) i j → Block (partial_of b) (to i) (to j)
  Block-to i j l = (link_to there (λ x k h. square_same x k ∙ h) (sq< a i (Linked-start l)) l).1

  Touch-to : (d c : ℕ) → Touch (partial_of a) d c → Touch (partial_of b) (to d) (to c)
  Touch-to d c (y, e, l) = (to y, Adjacent-to c y e, Block-to d y l)

module _ {a b : Setting} {to from : ℕ → ℕ} (s : Alike a b to from) where
  -- another arrow block
  Foreign-to : (i c : ℕ) → i < size (grid_of a) → Foreign (partial_of a) i c → Foreign (partial_of b) (to i) (to c)
  Foreign-to i c il (d, ad, nb, t) =
      (to d, arrow_to s d ad, λ l. nb (both_home s (Block (partial_of a)) i d il (arrow< a d ad) (Block-to (reverse s) (to i) (to d) l)), Touch-to s d c t)

module _ {a b : Setting} {to from : ℕ → ℕ} (s : Alike a b to from) where
  open s use {there, home}

  Neighbour-to : (i c : ℕ) → Neighbour (partial_of a) i c → Neighbour (partial_of b) (to i) (to c)
  Neighbour-to i c (u, t, nf) =
      let il : i < size (grid_of a) = sq< a i (Linked-start t.2) in
      (undecided_to s c u, Touch-to s i c t, λ w. nf (both_home s (Foreign (partial_of a)) i c il (un< a c u) (Foreign-to (reverse s) (to i) (to c) (there.into i il) w)))

  Floating-to : (c : ℕ) → Floating (partial_of a) c → Floating (partial_of b) (to c)
  Floating-to c (inl (q, h)) =
      inl (square_to s c q, λ (d, ad, l). h (from d, arrow_to (reverse s) d ad, subst (Block (partial_of a) (from d)) (home c (sq< a c q)) (Block-to (reverse s) d (to c) l)))
  Floating-to c (inr (u, h)) =
      inr (undecided_to s c u, λ (d, ad, t). h (from d, arrow_to (reverse s) d ad, subst (Touch (partial_of a) (from d)) (home c (un< a c u)) (Touch-to (reverse s) d (to c) t)))

  pub Reach-to : (i c : ℕ) → Reach (partial_of a) i c → Reach (partial_of b) (to i) (to c)
  Reach-to i c (inl l) = inl (Block-to s i c l)
  Reach-to i c (inr (inl m)) = inr (inl (Neighbour-to i c m))
  Reach-to i c (inr (inr (m, f, nb, e, l))) =
      inr (inr (to m, to f, Neighbour-to i m nb, Adjacent-to s m f e, (link_to there (λ x _. Floating-to x) (Adjacent-on (grid_of a) m f e) l).1))

-- a set of cells that goes there and comes back
module _ {a b : Setting} {to from : ℕ → ℕ} (s : Alike a b to from) {P Q : ℕ → Type 0}
    (low : (i : ℕ) → P i → i < size (grid_of a)) (low' : (j : ℕ) → Q j → j < size (grid_of b)) (go : (i : ℕ) → P i → Q (to i)) (come : (j : ℕ) → Q j → P (from j)) where
  image : Image (grid_of a) to P Q
  image = record { below = low; to = go; from = λ j q. (from j, come j q, s.away j (low' j q)) }

-- .. has one size
count_to : {a b : Setting} {to from : ℕ → ℕ} (s : Alike a b to from) {P Q : ℕ → Type 0} → ((i : ℕ) → P i → i < size (grid_of a)) → ((i : ℕ) → P i → Q (to i))
    → (d_p : (i : ℕ) → Dec (P i)) (d_q : (i : ℕ) → Dec (Q i)) → count d_p (size (grid_of a)) ≤ count d_q (size (grid_of b))
count_to {a} {b} {to} {from} s {P} {Q} low go d_p d_q = count_inj (λ i k. to i ≡ k) d_p (size (grid_of a)) (size (grid_of b))
    (λ i j k p q e f. sym (s.home i (low i p)) ∙ ap from (e ∙ sym f) ∙ s.home j (low j q)) Q d_q
    (λ i l p. (to i, s.there.into i l, go i p, refl))

module _ {a b : Setting} {to from : ℕ → ℕ} (s : Alike a b to from) (i : ℕ) (il : i < size (grid_of a)) where
  open s use {there, home}

  block< : (x : Setting) (i j : ℕ) → Block (partial_of x) i j → j < size (grid_of x)
  block< x i j l = sq< x j (Linked-end l)

  Block-back : (j : ℕ) → Block (partial_of b) (to i) j → Block (partial_of a) i (from j)
  Block-back j l = subst (λ z. Block (partial_of a) z (from j)) (home i il) (Block-to (reverse s) (to i) j l)

  Reach-back : (j : ℕ) → Reach (partial_of b) (to i) j → Reach (partial_of a) i (from j)
  Reach-back j l = subst (λ z. Reach (partial_of a) z (from j)) (home i il) (Reach-to (reverse s) (to i) j l)

  pub block_Size_to : (k : ℕ) → Size a.puzzle (BlockOf a.puzzle a.cells i) k → Size b.puzzle (BlockOf b.puzzle b.cells (to i)) k
  block_Size_to k (d, e) =
      let d' = (decisions b).blk (to i) in
      (d', le_antisymm (count_to (reverse s) (block< b (to i)) Block-back d' d) (count_to s (block< a i) (Block-to s i) d d') ∙ e)

  pub reach_Size_to : (k : ℕ) → Size a.puzzle (ReachOf a.puzzle a.cells i) k → Size b.puzzle (ReachOf b.puzzle b.cells (to i)) k
  reach_Size_to k (d, e) =
      let d' = Dec-Reach b (to i) in
      (d', le_antisymm (count_to (reverse s) (reach< b (to i)) Reach-back d' d) (count_to s (reach< a i) (Reach-to s i) d d') ∙ e)

  Block-Image : Image (grid_of a) to (Block (partial_of a) i) (Block (partial_of b) (to i))
  Block-Image = image s (block< a i) (block< b (to i)) (Block-to s i) Block-back

  Reach-Image : Image (grid_of a) to (Reach (partial_of a) i) (Reach (partial_of b) (to i))
  Reach-Image = image s (reach< a i) (reach< b (to i)) (Reach-to s i) Reach-back

-- a shifted copy of a block in a reach
pub Contains-to : {a b : Setting} {to from : ℕ → ℕ} (s : Alike a b to from) (i j : ℕ) → i < size (grid_of a) → j < size (grid_of a)
    → (h : Shift) → Contains (grid_of a) h (Block (partial_of a) i) (Reach (partial_of a) j)
    → (t : Shift) × Contains (grid_of b) t (Block (partial_of b) (to i)) (Reach (partial_of b) (to j))
Contains-to {a} {b} s i j il jl h c =
    let w = s.there.shift h in
    (w.0, copy_to s.there (Block-Image s i il) (Reach-Image s j jl) h w.0 w.1 c)

module _ {a b : Setting} {to from : ℕ → ℕ} (s : Alike a b to from) where
  -- the gap counts states
  pub apart_same : (t : Bool) (l : List ℕ) → ((x : ℕ) → Memᴰ x l → x < size (grid_of a)) → most_apart b.cells t (map to l) ≡ most_apart a.cells t l
  unfolding most_apart
  apart_same t [] on = refl
  apart_same true (x ∷ l) on = apart_same false l (λ y m. on y (Memᴰ.tail m))
  apart_same false (x ∷ l) on =
      rw (undecided_same s x (on x (Memᴰ.head refl)), apart_same true l (λ y m. on y (Memᴰ.tail m)), apart_same false l (λ y m. on y (Memᴰ.tail m))) refl

  -- the cells of an arrow lie on the grid
  pub between< : (i j : ℕ) (x : Next a.puzzle a.cells i j) (k : ℕ) → Memᴰ k x.between → k < size (grid_of a)
  between< i j x k m = a.lines.on _ x.arrow k (Memᴰ.append_right x.before (Memᴰ.tail (Memᴰ.append_left (j ∷ x.behind) m)))

  -- a pair of squares of an arrow with none between
  abbrev pub Next-to : (i j : ℕ) → Next a.puzzle a.cells i j → Next b.puzzle b.cells (to i) (to j)
  Next-to i j x = record {
    before = map to x.before;
    between = map to x.between;
    behind = map to x.behind;
    arrow = subst (λ z. Memᴰ z b.puzzle.arrows) (simp map-append)
        (subst (Memᴰ (map to (x.before ++ (i ∷ (x.between ++ (j ∷ x.behind)))))) (sym s.arrows) (Memᴰ.map (map to) x.arrow));
    first = square_to s i x.first;
    second = square_to s j x.second;
    none = λ k m. let w = Memᴰ.of_map to x.between m in
        ap (square b.cells) (sym w.2) ∙ square_same s w.0 (between< i j x w.0 w.1) ∙ x.none w.0 w.1;
  }
