-- The joined puzzle: where its cells come from, their codes, and its arrows; it is one within the record's limits.
-- Assumes nothing.
use Prim.Native.Nat.{ℕ, ◌+◌, ◌-◌, ◌*◌, ◌≤◌, ◌<◌}
use native.Mathlib.Omega.{arith}
use native.Mathlib.Decide.{dec_lt, ℕ_discrete}
use mathlib.Core.Logic.{◌⊎◌, inl, inr}
use mathlib.Core.Path.{◌≡◌, refl, sym, ap, subst, ◌∙◌}
use mathlib.Core.Bool.{Bool, true, false, cond}
use mathlib.Core.List.Memᴰ
use mathlib.Core.List.{List, [], ◌∷◌, ◌++◌, map, Memᴰ}
use lib.Dec.{eqb, ltb}
use lib.ListN.{length, get_or, get_or-eq_default}
use borrow.Author.Tests.{lt-ltb, le-ltb, eq-eqb, ne_eqb}
use Rattle.grid.specs.Grid.{Grid, size, row, col, cells_of}
use Rattle.grid.proofs.GridLaws.{row_below, col_below, index}
use Rattle.grid.proofs.ListLaws.{length-map-upto, map-upto_at, at_mem}
use Rattle.record.specs.Record.{Puzzle, ok, read_record}
use Rattle.record.specs.Valid.{Valid, Arrows}
use Rattle.record.specs.Write.{write_record}
use Rattle.record.proofs.FreshLaws.{Arrows-size}
use Rattle.record.proofs.WriteLaws.{round_trip}
use Rattle.embed.specs.Embedding.{Embedding}
use Rattle.embed.proofs.ArrowLaws.{Arrows-to}
use Rattle.join.specs.Join.{code_beside, joined_grid, left_cell, right_cell, codes_beside, joined}
use Rattle.join.proofs.PlacedLaws.{placed_row, placed_col, placed_embeds, placed_onto}

-- ---- codes

-- the code, by its column
module _ (l : List ℕ) (a : ℕ) (r : List ℕ) (b y x : ℕ) where
  pub left_code : x < a → code_beside l a r b y x ≡ get_or l (y * a + x) 0
  unfolding code_beside
  left_code h = rw (lt-ltb x a h)

  pub between_code : a ≤ x → x ≡ a → code_beside l a r b y x ≡ 1
  unfolding code_beside
  between_code h e = rw (le-ltb x a h, eq-eqb x a e)

  pub right_code : a ≤ x → (x ≡ a → ⊥) → code_beside l a r b y x ≡ get_or r (y * b + (x - (a + 1))) 0
  unfolding code_beside
  right_code h n = rw (le-ltb x a h, ne_eqb x a n)

-- every code of a record
code_small : {p : Puzzle} → Valid p → (k : ℕ) → get_or p.given k 0 < 3
code_small {p} v k = go (dec_lt k (length p.given))
  where
    go : Dec (k < length p.given) → get_or p.given k 0 < 3
    go (yes l) = v.codes (get_or p.given k 0) (at_mem p.given k l)
    go (no n) = rw (get_or-eq_default p.given 0 {n = k} (omega arith)) (omega arith)

cond_small : (t : Bool) (a b : ℕ) → a < 3 → b < 3 → cond t a b < 3
cond_small true a b h k = h
cond_small false a b h k = k

-- ---- arrows

-- arrows, and then others
Arrows-append : {g : Grid} {U : List ℕ} {as' bs : List (List ℕ)} → Arrows g U as'
    → ((V' : List ℕ) → ((x : ℕ) → Memᴰ x V' → Memᴰ x U ⊎ ((a : List ℕ) × Memᴰ a as' × Memᴰ x a)) → Arrows g V' bs)
    → Arrows g U (as' ++ bs)
Arrows-append {U = U} Arrows.nil k = k U (λ x m. inl m)
Arrows-append {g} {U} {bs = bs} (Arrows.cons {a} {rest} r n more) k = Arrows.cons r n (Arrows-append more (λ W w. k W (λ x m. go x (w x m))))
  where
    go : (x : ℕ) → Memᴰ x (a ++ U) ⊎ ((b : List ℕ) × Memᴰ b rest × Memᴰ x b) → Memᴰ x U ⊎ ((b : List ℕ) × Memᴰ b (a ∷ rest) × Memᴰ x b)
    go x (inl m) = split (Memᴰ.append_cases a m)
      where
        split : Memᴰ x a ⊎ Memᴰ x U → Memᴰ x U ⊎ ((b : List ℕ) × Memᴰ b (a ∷ rest) × Memᴰ x b)
        split (inl m) = inr (a, Memᴰ.head refl, m)
        split (inr m) = inl m
    go x (inr (b, m, k)) = inr (b, Memᴰ.tail m, k)

-- ---- the joined puzzle

module _ (p q : Puzzle) (level : p.grid.height ≡ q.grid.height) where
  abbrev b : Grid
  b = joined_grid p q

  pub tall_left : p.grid.height ≤ b.height
  tall_left = omega arith

  pub tall_right : q.grid.height ≤ b.height
  tall_right = omega (arith, level)

  pub wide_left : 0 + p.grid.width ≤ b.width
  wide_left = omega arith

  pub wide_right : p.grid.width + 1 + q.grid.width ≤ b.width
  wide_right = omega arith

  pub left_embeds : Embedding p.grid b (left_cell p q)
  left_embeds = placed_embeds 0 p.grid b tall_left wide_left

  pub right_embeds : Embedding q.grid b (right_cell p q)
  right_embeds = placed_embeds (p.grid.width + 1) q.grid b tall_right wide_right

  left_col : (i : ℕ) → i < size p.grid → col b (left_cell p q i) ≡ 0 + col p.grid i
  left_col = placed_col 0 p.grid b tall_left wide_left

  right_col : (i : ℕ) → i < size q.grid → col b (right_cell p q i) ≡ p.grid.width + 1 + col q.grid i
  right_col = placed_col (p.grid.width + 1) q.grid b tall_right wide_right

  -- no cell of the left is one of the right
  pub apart : (i j : ℕ) → i < size p.grid → j < size q.grid → left_cell p q i ≡ right_cell p q j → ⊥
  apart i j li lj e = omega (arith, left_col i li, right_col j lj, ap (col b) e, col_below p.grid li)

  -- which of the three a cell is
  pub data Where (j : ℕ) : Type 0 where
    in_left : (i : ℕ) → i < size p.grid → left_cell p q i ≡ j → Where j
    between : col b j ≡ p.grid.width → Where j
    in_right : (i : ℕ) → i < size q.grid → right_cell p q i ≡ j → Where j

  pub Where-is : (j : ℕ) → j < size b → Where j
  Where-is j l = go (dec_lt (col b j) p.grid.width) (ℕ_discrete (col b j) p.grid.width)
    where
      go : Dec (col b j < p.grid.width) → Dec (col b j ≡ p.grid.width) → Where j
      go (yes c) _ = let r = placed_onto 0 p.grid b tall_left wide_left j (row_below b l) (omega arith) (omega arith) in in_left r.0 r.1 r.2
      go (no n) (yes e) = between e
      go (no n) (no m) =
          let r = placed_onto (p.grid.width + 1) q.grid b tall_right wide_right j (omega (arith, row_below b l, level)) (omega arith) (omega (arith, col_below b l)) in
          in_right r.0 r.1 r.2

  -- the code of a cell
  code_at : (j : ℕ) → j < size b → get_or (codes_beside p q) j 0 ≡ code_beside p.given p.grid.width q.given q.grid.width (row b j) (col b j)
  unfolding codes_beside cells_of
  code_at j l = map-upto_at (λ j. code_beside p.given p.grid.width q.given q.grid.width (row b j) (col b j)) (size b) j 0 l

  pub codes_left : (i : ℕ) → i < size p.grid → get_or (codes_beside p q) (left_cell p q i) 0 ≡ get_or p.given i 0
  codes_left i l =
      let c : col b (left_cell p q i) ≡ col p.grid i = omega (arith, left_col i l) in
      code_at (left_cell p q i) (left_embeds.into i l)
      ∙ rw (placed_row 0 p.grid b tall_left wide_left i l, c) (left_code p.given p.grid.width q.given q.grid.width (row p.grid i) (col p.grid i) (col_below p.grid l))
      ∙ ap (λ (k : ℕ). get_or p.given k 0) (index p.grid i)

  pub codes_right : (i : ℕ) → i < size q.grid → get_or (codes_beside p q) (right_cell p q i) 0 ≡ get_or q.given i 0
  codes_right i l =
      let a : ℕ = p.grid.width in
      let x : a + 1 + col q.grid i - (a + 1) ≡ col q.grid i = omega arith in
      let k : ℕ = row q.grid i * q.grid.width in
      code_at (right_cell p q i) (right_embeds.into i l)
      ∙ rw (placed_row (a + 1) q.grid b tall_right wide_right i l, right_col i l) (right_code p.given a q.given q.grid.width (row q.grid i) (a + 1 + col q.grid i) (omega arith) (λ e. omega arith))
      ∙ ap (λ (c : ℕ). get_or q.given (k + c) 0) x
      ∙ ap (λ (c : ℕ). get_or q.given c 0) (index q.grid i)

  pub code_between : (j : ℕ) → j < size b → col b j ≡ p.grid.width → get_or (codes_beside p q) j 0 ≡ 1
  code_between j l e = code_at j l ∙ between_code p.given p.grid.width q.given q.grid.width (row b j) (col b j) (omega arith) e

  codes_length : length (codes_beside p q) ≡ size b
  unfolding codes_beside cells_of
  codes_length = length-map-upto _ (size b)

  module _ (v : Valid p) (w : Valid q) where
    one_small : (y x : ℕ) → code_beside p.given p.grid.width q.given q.grid.width y x < 3
    unfolding code_beside
    one_small y x =
        let right : ℕ = get_or q.given (y * q.grid.width + (x - (p.grid.width + 1))) 0 in
        cond_small (ltb x p.grid.width) (get_or p.given (y * p.grid.width + x) 0) (cond (eqb x p.grid.width) 1 right) (code_small v (y * p.grid.width + x))
        (cond_small (eqb x p.grid.width) 1 right (omega arith) (code_small w (y * q.grid.width + (x - (p.grid.width + 1)))))

    codes_small : (c : ℕ) → Memᴰ c (codes_beside p q) → c < 3
    unfolding codes_beside
    codes_small c m = let r = Memᴰ.of_map _ (cells_of b) m in subst (λ x. x < 3) r.2 (one_small _ _)

    joined-Arrows : Arrows b [] (joined p q).arrows
    joined-Arrows =
        Arrows-append (Arrows-to left_embeds [] (λ x l k. absurd (Memᴰ.not-nil k)) v.arrows)
        (λ V' f. Arrows-to right_embeds V' (λ x l m. absurd (clash x l (f (right_cell p q x) m))) w.arrows)
      where
        clash : (x : ℕ) → x < size q.grid → Memᴰ (right_cell p q x) [] ⊎ ((a : List ℕ) × Memᴰ a (map (map (left_cell p q)) p.arrows) × Memᴰ (right_cell p q x) a) → ⊥
        clash x l (inl m) = Memᴰ.not-nil m
        clash x l (inr (a, m, k)) =
            let r = Memᴰ.of_map (map (left_cell p q)) p.arrows m in
            let z = Memᴰ.of_map (left_cell p q) r.0 (subst (Memᴰ (right_cell p q x)) (sym r.2) k) in
            apart z.0 x (Arrows-size v.arrows r.0 r.1 z.0 z.1) l z.2

    -- the joined puzzle is one within the record's limits where it is not too wide: so at most 1,024 cells, and arrows that use no cell twice
    pub joined-Valid : b.width ≤ 32 → Valid (joined p q)
    joined-Valid wide = record {
      low = (v.low.0, omega arith);
      high = (v.high.0, wide);
      total = codes_length;
      codes = codes_small;
      arrows = joined-Arrows;
    }

    -- so its record is accepted
    pub joined_read : b.width ≤ 32 → read_record (write_record (joined p q)) ≡ ok (joined p q)
    joined_read wide = round_trip (joined p q) (joined-Valid wide)
