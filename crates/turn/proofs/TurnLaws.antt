-- A turn keeps neighbours and shifts, and each cell comes from the one that goes there: the flip, the quarter turn, and one after another.
-- Assumes nothing.
use Prim.Native.Nat.{ℕ, zero, suc, ◌-◌, ◌%◌, ◌<◌}
use native.Mathlib.Omega.{arith}
use native.Mathlib.Nat.{mul_comm}
use mathlib.Core.Path.{◌≡◌, refl, sym, ap, ◌∙◌}
use mathlib.Core.Bool.{Bool, true, false}
use lib.Dec.{leb}
use Rattle.grid.specs.Grid.{Grid, size, row, col}
use Rattle.grid.proofs.GridLaws.{row_below, col_below, place_below, one_place}
use Rattle.grid.proofs.PlaceLaws.{up, down, left, right, NextOn, row_at, col_at}
use Rattle.groups.specs.Rules.{Shift}
use Rattle.embed.specs.Embedding.{Embedding, Shifts}
use Rattle.embed.proofs.ByPlace.{embedding}
use Rattle.turn.specs.Turn.{Turn, swapped, flip_cell, quarter_cell, quarter_from, stay, flip, quarter, then, quarters, flip_if, turning}

-- the sides of the turned grid are those of the grid
pub data Sides (g h : Grid) : Type 0 where
  same : h.height ≡ g.height → h.width ≡ g.width → Sides g h
  swap : h.height ≡ g.width → h.width ≡ g.height → Sides g h

-- m turns the grid g
pub record Turns (g : Grid) (m : Turn) : Type 0 where
  pub embeds : Embedding g m.grid m.to
  pub into : (j : ℕ) → j < size m.grid → m.from j < size g
  pub from_to : (i : ℕ) → i < size g → m.from (m.to i) ≡ i
  pub to_from : (j : ℕ) → j < size m.grid → m.to (m.from j) ≡ j
  pub sides : Sides g m.grid

Sides-trans : {a b c : Grid} → Sides a b → Sides b c → Sides a c
Sides-trans (same p q) (same r s) = same (r ∙ p) (s ∙ q)
Sides-trans (same p q) (swap r s) = swap (r ∙ q) (s ∙ p)
Sides-trans (swap p q) (same r s) = swap (r ∙ p) (s ∙ q)
Sides-trans (swap p q) (swap r s) = same (r ∙ q) (s ∙ p)

-- as many cells
pub Sides-size : (g h : Grid) → Sides g h → size h ≡ size g
unfolding size
Sides-size g h (same p q) = rw (p, q)
Sides-size g h (swap p q) = rw (p, q) (mul_comm g.width g.height)

-- staying
pub stay-Turns : (g : Grid) → Turns g (stay g)
stay-Turns g = record {
  embeds = record {
    into = λ i l. l;
    inj = λ i j li lj e. e;
    adj = λ i j li lj. (λ e. e, λ e. e);
    shift = λ s. (s, λ x y lx ly. (λ e. e, λ e. e));
    back = λ s. (s, λ x y lx ly. (λ e. e, λ e. e));
  };
  into = λ j l. l;
  from_to = λ i l. refl;
  to_from = λ i l. refl;
  sides = same refl refl;
}

-- the place of a flipped cell
module _ (g : Grid) (i : ℕ) (l : i < size g) where
  pub flip_row : row g (flip_cell g i) ≡ row g i
  unfolding flip_cell
  flip_row = row_at g (row g i) (omega (arith, col_below g l))

  pub flip_col : col g (flip_cell g i) ≡ g.width - 1 - col g i
  unfolding flip_cell
  flip_col = col_at g (row g i) (omega (arith, col_below g l))

  pub flip_into : flip_cell g i < size g
  unfolding flip_cell
  flip_into = place_below g (row_below g l) (omega (arith, col_below g l))

  pub quarter_row : row (swapped g) (quarter_cell g i) ≡ col g i
  unfolding quarter_cell
  quarter_row = row_at (swapped g) (col g i) (omega (arith, row_below g l))

  pub quarter_col : col (swapped g) (quarter_cell g i) ≡ g.height - 1 - row g i
  unfolding quarter_cell
  quarter_col = col_at (swapped g) (col g i) (omega (arith, row_below g l))

  pub quarter_into : quarter_cell g i < size (swapped g)
  unfolding quarter_cell
  quarter_into = place_below (swapped g) (col_below g l) (omega (arith, row_below g l))

module _ (g : Grid) (j : ℕ) (l : j < size (swapped g)) where
  pub from_row : row g (quarter_from g j) ≡ g.height - 1 - col (swapped g) j
  unfolding quarter_from
  from_row = row_at g (g.height - 1 - col (swapped g) j) (row_below (swapped g) l)

  pub from_col : col g (quarter_from g j) ≡ row (swapped g) j
  unfolding quarter_from
  from_col = col_at g (g.height - 1 - col (swapped g) j) (row_below (swapped g) l)

  pub from_into : quarter_from g j < size g
  unfolding quarter_from
  from_into = place_below g (omega (arith, col_below (swapped g) l)) (row_below (swapped g) l)

-- a shift, flipped and turned
abbrev flip_shift : Shift → Shift
flip_shift s = record { up = s.up; down = s.down; left = s.right; right = s.left }

abbrev quarter_shift : Shift → Shift
quarter_shift s = record { up = s.left; down = s.right; left = s.down; right = s.up }

abbrev quarter_shift_back : Shift → Shift
quarter_shift_back t = record { up = t.right; down = t.left; left = t.up; right = t.down }

module _ (g : Grid) where
  flip_moved : (s : Shift) → Shifts g g (flip_cell g) s (flip_shift s)
  flip_moved s x y lx ly = (
    λ m. record {
      rows = rw (flip_row g x lx, flip_row g y ly) m.rows;
      cols = omega (arith, flip_col g x lx, flip_col g y ly, m.cols, col_below g lx, col_below g ly);
    },
    λ m. record {
      rows = omega (arith, flip_row g x lx, flip_row g y ly, m.rows);
      cols = omega (arith, flip_col g x lx, flip_col g y ly, m.cols, col_below g lx, col_below g ly);
    },
  )

  flip_next : (i j : ℕ) → i < size g → j < size g → NextOn g i j → NextOn g (flip_cell g i) (flip_cell g j)
  flip_next i j li lj (up e d) = up (omega (arith, flip_row g i li, flip_row g j lj, e)) (omega (arith, flip_col g i li, flip_col g j lj, d))
  flip_next i j li lj (down e d) = down (omega (arith, flip_row g i li, flip_row g j lj, e)) (omega (arith, flip_col g i li, flip_col g j lj, d))
  flip_next i j li lj (left e d) = right (omega (arith, flip_row g i li, flip_row g j lj, e)) (omega (arith, flip_col g i li, flip_col g j lj, d, col_below g li, col_below g lj))
  flip_next i j li lj (right e d) = left (omega (arith, flip_row g i li, flip_row g j lj, e)) (omega (arith, flip_col g i li, flip_col g j lj, d, col_below g li, col_below g lj))

  -- a flip undoes itself
  pub flip_flip : (i : ℕ) → i < size g → flip_cell g (flip_cell g i) ≡ i
  flip_flip i l =
      let k = flip_into g i l in
      one_place g (flip_cell g (flip_cell g i)) i (flip_row g (flip_cell g i) k ∙ flip_row g i l) (omega (arith, flip_col g (flip_cell g i) k, flip_col g i l, col_below g l))

  flip_back : (i j : ℕ) → i < size g → j < size g → NextOn g (flip_cell g i) (flip_cell g j) → NextOn g i j
  flip_back i j li lj s =
      let r : NextOn g (flip_cell g (flip_cell g i)) (flip_cell g (flip_cell g j)) = flip_next (flip_cell g i) (flip_cell g j) (flip_into g i li) (flip_into g j lj) s in
      rw (flip_flip i li, flip_flip j lj) at r

  pub flip-Turns : Turns g (flip g)
  flip-Turns = record {
    embeds = embedding g g (flip_cell g) (flip_into g)
        (λ i j li lj e d. (sym (flip_row g i li) ∙ e ∙ flip_row g j lj, omega (arith, flip_col g i li, flip_col g j lj, d, col_below g li, col_below g lj)))
        flip_next flip_back (λ s. (flip_shift s, flip_moved s)) (λ t. (flip_shift t, flip_moved (flip_shift t)));
    into = flip_into g;
    from_to = flip_flip;
    to_from = flip_flip;
    sides = same refl refl;
  }

  quarter_moved : (s : Shift) → Shifts g (swapped g) (quarter_cell g) s (quarter_shift s)
  quarter_moved s x y lx ly = (
    λ m. record {
      rows = omega (arith, quarter_row g x lx, quarter_row g y ly, m.cols);
      cols = omega (arith, quarter_col g x lx, quarter_col g y ly, m.rows, row_below g lx, row_below g ly);
    },
    λ m. record {
      rows = omega (arith, quarter_col g x lx, quarter_col g y ly, m.cols, row_below g lx, row_below g ly);
      cols = omega (arith, quarter_row g x lx, quarter_row g y ly, m.rows);
    },
  )

  quarter_next : (i j : ℕ) → i < size g → j < size g → NextOn g i j → NextOn (swapped g) (quarter_cell g i) (quarter_cell g j)
  quarter_next i j li lj (up e d) = right (omega (arith, quarter_row g i li, quarter_row g j lj, d)) (omega (arith, quarter_col g i li, quarter_col g j lj, e, row_below g li, row_below g lj))
  quarter_next i j li lj (down e d) = left (omega (arith, quarter_row g i li, quarter_row g j lj, d)) (omega (arith, quarter_col g i li, quarter_col g j lj, e, row_below g li, row_below g lj))
  quarter_next i j li lj (left e d) = up (omega (arith, quarter_row g i li, quarter_row g j lj, d)) (omega (arith, quarter_col g i li, quarter_col g j lj, e))
  quarter_next i j li lj (right e d) = down (omega (arith, quarter_row g i li, quarter_row g j lj, d)) (omega (arith, quarter_col g i li, quarter_col g j lj, e))

  quarter_back : (i j : ℕ) → i < size g → j < size g → NextOn (swapped g) (quarter_cell g i) (quarter_cell g j) → NextOn g i j
  quarter_back i j li lj (up e d) = left (omega (arith, quarter_col g i li, quarter_col g j lj, d, row_below g li, row_below g lj)) (omega (arith, quarter_row g i li, quarter_row g j lj, e))
  quarter_back i j li lj (down e d) = right (omega (arith, quarter_col g i li, quarter_col g j lj, d, row_below g li, row_below g lj)) (omega (arith, quarter_row g i li, quarter_row g j lj, e))
  quarter_back i j li lj (left e d) = down (omega (arith, quarter_col g i li, quarter_col g j lj, d, row_below g li, row_below g lj)) (omega (arith, quarter_row g i li, quarter_row g j lj, e))
  quarter_back i j li lj (right e d) = up (omega (arith, quarter_col g i li, quarter_col g j lj, d, row_below g li, row_below g lj)) (omega (arith, quarter_row g i li, quarter_row g j lj, e))

  pub quarter_from_to : (i : ℕ) → i < size g → quarter_from g (quarter_cell g i) ≡ i
  quarter_from_to i l =
      let k = quarter_into g i l in
      one_place g (quarter_from g (quarter_cell g i)) i (omega (arith, from_row g (quarter_cell g i) k, quarter_col g i l, row_below g l)) (omega (arith, from_col g (quarter_cell g i) k, quarter_row g i l))

  pub quarter_to_from : (j : ℕ) → j < size (swapped g) → quarter_cell g (quarter_from g j) ≡ j
  quarter_to_from j l =
      let k = from_into g j l in
      one_place (swapped g) (quarter_cell g (quarter_from g j)) j (omega (arith, quarter_row g (quarter_from g j) k, from_col g j l)) (omega (arith, quarter_col g (quarter_from g j) k, from_row g j l, col_below (swapped g) l))

  pub quarter-Turns : Turns g (quarter g)
  quarter-Turns = record {
    embeds = embedding g (swapped g) (quarter_cell g) (quarter_into g)
        (λ i j li lj e d. (omega (arith, quarter_col g i li, quarter_col g j lj, d, row_below g li, row_below g lj), omega (arith, quarter_row g i li, quarter_row g j lj, e)))
        quarter_next quarter_back (λ s. (quarter_shift s, quarter_moved s)) (λ t. (quarter_shift_back t, quarter_moved (quarter_shift_back t)));
    into = from_into g;
    from_to = quarter_from_to;
    to_from = quarter_to_from;
    sides = swap refl refl;
  }

-- one turn and then another
pub then-Turns : (g : Grid) (m : Turn) (s : Grid → Turn) → Turns g m → Turns m.grid (s m.grid) → Turns g (then m s)
then-Turns g m s a b = record {
  embeds = record {
    into = λ i l. b.embeds.into (m.to i) (a.embeds.into i l);
    inj = λ i j li lj e. a.embeds.inj i j li lj (b.embeds.inj (m.to i) (m.to j) (a.embeds.into i li) (a.embeds.into j lj) e);
    adj = λ i j li lj.
        let u = a.embeds.adj i j li lj in
        let w = b.embeds.adj (m.to i) (m.to j) (a.embeds.into i li) (a.embeds.into j lj) in
        (λ e. w.0 (u.0 e), λ e. u.1 (w.1 e));
    shift = λ r.
        let t = a.embeds.shift r in
        let u = b.embeds.shift t.0 in (
          u.0,
          λ x y lx ly.
              let p = t.1 x y lx ly in
              let q = u.1 (m.to x) (m.to y) (a.embeds.into x lx) (a.embeds.into y ly) in
              (λ e. q.0 (p.0 e), λ e. p.1 (q.1 e)),
        );
    back = λ r.
        let t = b.embeds.back r in
        let u = a.embeds.back t.0 in (
          u.0,
          λ x y lx ly.
              let p = u.1 x y lx ly in
              let q = t.1 (m.to x) (m.to y) (a.embeds.into x lx) (a.embeds.into y ly) in
              (λ e. q.0 (p.0 e), λ e. p.1 (q.1 e)),
        );
  };
  into = λ j l. a.into _ (b.into j l);
  from_to = λ i l. ap m.from (b.from_to (m.to i) (a.embeds.into i l)) ∙ a.from_to i l;
  to_from = λ j l. ap (s m.grid).to (a.to_from ((s m.grid).from j) (b.into j l)) ∙ b.to_from j l;
  sides = Sides-trans a.sides b.sides;
}

pub quarters-Turns : (g : Grid) (r : ℕ) (m : Turn) → Turns g m → Turns g (quarters r m)
unfolding quarters
quarters-Turns g zero m a = a
quarters-Turns g (suc r) m a = then-Turns g (quarters r m) quarter (quarters-Turns g r m a) (quarter-Turns (quarters r m).grid)

pub flip_if-Turns : (b : Bool) (g : Grid) → Turns g (flip_if b g)
unfolding flip_if
flip_if-Turns true g = flip-Turns g
flip_if-Turns false g = stay-Turns g

-- every turning turns every grid
pub turning-Turns : (k : ℕ) (g : Grid) → Turns g (turning k g)
unfolding turning
turning-Turns k g = quarters-Turns g (k % 4) (flip_if (leb 4 k) g) (flip_if-Turns (leb 4 k) g)
