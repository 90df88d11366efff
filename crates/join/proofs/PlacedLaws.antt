-- A grid that stands in another from some column on: its cells by rows and columns, that it is embedded, and its part of a board.
-- Assumes nothing.
use Prim.Native.Nat.{ℕ, ◌+◌, ◌-◌, ◌*◌, ◌≤◌, ◌<◌}
use native.Mathlib.Omega.{arith}
use mathlib.Core.Path.{◌≡◌, refl, sym, ap, subst, ◌∙◌}
use mathlib.Core.List.{List}
use lib.ListN.{length, get_or}
use Rattle.grid.specs.Grid.{Grid, size, row, col, cells_of}
use Rattle.grid.proofs.GridLaws.{row_below, col_below, place_below, one_place}
use Rattle.grid.proofs.ListLaws.{length-map-upto, map-upto_at}
use Rattle.grid.proofs.PlaceLaws.{up, down, left, right, NextTo, NextOn, row_at, col_at}
use Rattle.groups.specs.Rules.{Shift}
use Rattle.embed.specs.Embedding.{Embedding, Shifts}
use Rattle.embed.proofs.ByPlace.{embedding}
use Rattle.join.specs.Join.{placed, cut}

-- places that are as far apart are next to each other alike
next_alike : {y x v u y' x' v' u' : ℕ} (d e : ℕ) → y ≡ y' → v ≡ v' → x + d ≡ x' + e → u + d ≡ u' + e → NextTo y x v u → NextTo y' x' v' u'
next_alike d e r s p q (up h k) = up (omega (arith, r, s, h)) (omega (arith, p, q, k))
next_alike d e r s p q (down h k) = down (omega (arith, r, s, h)) (omega (arith, p, q, k))
next_alike d e r s p q (left h k) = left (omega (arith, r, s, h)) (omega (arith, p, q, k))
next_alike d e r s p q (right h k) = right (omega (arith, r, s, h)) (omega (arith, p, q, k))

-- where the cells of g come, when it stands from the column d on in h
abbrev pub put : ℕ → Grid → Grid → ℕ → ℕ
put d g h = placed d g.width h.width

module _ (d : ℕ) (g h : Grid) (tall : g.height ≤ h.height) (wide : d + g.width ≤ h.width) where
  module _ (i : ℕ) (l : i < size g) where
    placed_is : put d g h i ≡ row g i * h.width + (d + col g i)
    unfolding placed row col
    placed_is = refl

    inside : d + col g i < h.width
    inside = omega (arith, col_below g l)

    pub placed_row : row h (put d g h i) ≡ row g i
    placed_row = ap (row h) placed_is ∙ row_at h (row g i) inside

    pub placed_col : col h (put d g h i) ≡ d + col g i
    placed_col = ap (col h) placed_is ∙ col_at h (row g i) inside

    placed_into : put d g h i < size h
    placed_into = subst (λ k. k < size h) (sym placed_is) (place_below h (omega (arith, row_below g l)) inside)

  placed_moved : (s : Shift) → Shifts g h (put d g h) s s
  placed_moved s x y lx ly = (
    λ m. record {
      rows = omega (arith, placed_row x lx, placed_row y ly, m.rows);
      cols = omega (arith, placed_col x lx, placed_col y ly, m.cols);
    },
    λ m. record {
      rows = omega (arith, placed_row x lx, placed_row y ly, m.rows);
      cols = omega (arith, placed_col x lx, placed_col y ly, m.cols);
    },
  )

  placed_next : (i j : ℕ) → i < size g → j < size g → NextOn g i j → NextOn h (put d g h i) (put d g h j)
  placed_next i j li lj =
      next_alike d 0 (sym (placed_row i li)) (sym (placed_row j lj)) (omega (arith, placed_col i li)) (omega (arith, placed_col j lj))

  placed_back : (i j : ℕ) → i < size g → j < size g → NextOn h (put d g h i) (put d g h j) → NextOn g i j
  placed_back i j li lj =
      next_alike 0 d (placed_row i li) (placed_row j lj) (omega (arith, placed_col i li)) (omega (arith, placed_col j lj))

  -- neighbours and shifts are kept
  pub placed_embeds : Embedding g h (put d g h)
  placed_embeds = embedding g h (put d g h) placed_into
      (λ i j li lj e c. (omega (arith, placed_row i li, placed_row j lj, e), omega (arith, placed_col i li, placed_col j lj, c)))
      placed_next placed_back (λ s. (s, placed_moved s)) (λ s. (s, placed_moved s))

  -- a cell in those rows and columns is one of them
  pub placed_onto : (j : ℕ) → row h j < g.height → d ≤ col h j → col h j < d + g.width → (k : ℕ) × (k < size g) × (put d g h k ≡ j)
  placed_onto j r a b =
      let x : ℕ = col h j - d in
      let lx : x < g.width = omega arith in
      let k : ℕ = row h j * g.width + x in
      let lk : k < size g = place_below g r lx in
      let kr : row g k ≡ row h j = row_at g (row h j) lx in
      let kc : col g k ≡ x = col_at g (row h j) lx in
      (k, lk, one_place h (put d g h k) j (placed_row k lk ∙ kr) (omega (arith, placed_col k lk, kc)))

-- what is cut out of a board
module _ (d : ℕ) (g : Grid) (m : ℕ) (cells : List ℕ) where
  pub cut_at : (i : ℕ) → i < size g → get_or (cut d g m cells) i 0 ≡ get_or cells (placed d g.width m i) 0
  unfolding cut cells_of
  cut_at i l = map-upto_at (λ i. get_or cells (placed d g.width m i) 0) (size g) i 0 l

  pub cut-length : length (cut d g m cells) ≡ size g
  unfolding cut cells_of
  cut-length = length-map-upto (λ i. get_or cells (placed d g.width m i) 0) (size g)
