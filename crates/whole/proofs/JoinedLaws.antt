-- A joined leaf: a full board is finished exactly when the column between is empty and each half is finished on its own, in any edition.
-- Assumes nothing.
use Prim.Native.Nat.{ℕ, ◌+◌, ◌*◌, ◌≤◌, ◌<◌}
use native.Mathlib.Omega.{arith}
use native.Mathlib.Decide.{dec_lt}
use mathlib.Core.Logic.{◌↔◌, ◌⊎◌, inl, inr}
use mathlib.Core.Path.{◌≡◌, sym, ap, subst, ◌∙◌}
use mathlib.Core.Bool.{Bool, true, false, cond, So}
use mathlib.Core.List.Memᴰ
use mathlib.Core.List.{List, map, Memᴰ}
use lib.ListN.{length, get_or}
use borrow.Author.Tests.{eqb-true}
use Rattle.grid.specs.Grid.{Grid, size, row, col, Adjacent}
use Rattle.grid.specs.Cells.{square}
use Rattle.grid.proofs.GridLaws.{row_below, col_below, place_below, index}
use Rattle.grid.proofs.PlaceLaws.{NextTo, up, down, left, right, col_at, Adjacent-next, Adjacent-on}
use Rattle.record.specs.Record.{Puzzle, ok}
use Rattle.record.specs.Valid.{Valid}
use Rattle.record.specs.Leaf.{in_edition, is_edition}
use Rattle.record.proofs.FreshLaws.{Arrows-size}
use Rattle.record.proofs.LeafLaws.{plain_leaf}
use Rattle.record.proofs.RecordLaws.{record_Valid}
use Rattle.finished.specs.Finished.{Finished}
use Rattle.join.specs.Join.{cut, joined_grid, left_cell, right_cell, joined, left_half, right_half, ColumnEmpty, join_record}
use Rattle.join.proofs.PlacedLaws.{put, placed_col, placed_embeds, placed_onto, cut_at, cut-length}
use Rattle.join.proofs.JoinLaws.{tall_left, tall_right, wide_left, wide_right, apart, Where, in_left, between, in_right, Where-is, codes_left, codes_right, code_between}
use Rattle.join.proofs.AnswerLaws.{join_ok}
use Rattle.whole.specs.Whole.{Part, Whole}
use Rattle.whole.specs.Joined.{HalvesFinished, JoinedLeaf}
use Rattle.whole.proofs.WholeLaws.{whole_Finished}

-- the column of a neighbour
near_col : {y x v u : ℕ} → NextTo y x v u → (u ≤ x + 1) × (x ≤ u + 1)
near_col (up e c) = (omega arith, omega arith)
near_col (down e c) = (omega arith, omega arith)
near_col (left e c) = (omega arith, omega arith)
near_col (right e c) = (omega arith, omega arith)

-- of arrows that are moved by f and others that are moved by g, one with a cell that only f makes is one of the first
only_one : (f g : ℕ → ℕ) (as' bs : List (List ℕ)) (i : ℕ) → ((b : List ℕ) → Memᴰ b bs → (y : ℕ) → Memᴰ y b → f i ≡ g y → ⊥)
    → (c : List ℕ) → Memᴰ (f i) c → Memᴰ c (map (map f) as') ⊎ Memᴰ c (map (map g) bs) → (a : List ℕ) × Memᴰ a as' × (c ≡ map f a)
only_one f g as' bs i other c k (inl m) = let r = Memᴰ.of_map (map f) as' m in (r.0, r.1, sym r.2)
only_one f g as' bs i other c k (inr m) =
    let r = Memᴰ.of_map (map g) bs m in
    let z = Memᴰ.of_map g r.0 (subst (Memᴰ (f i)) (sym r.2) k) in
    absurd (other r.0 r.1 z.0 z.1 (sym z.2))

-- a puzzle that stands in another from the column d on, with no square in the columns beside it
module _ (p q : Puzzle) (v : Valid p) (d : ℕ) (cells : List ℕ) (tall : p.grid.height ≤ q.grid.height) (level : q.grid.height ≤ p.grid.height) (wide : d + p.grid.width ≤ q.grid.width)
    (edge : (j : ℕ) → j < size q.grid → (col q.grid j + 1 ≡ d) ⊎ (col q.grid j ≡ d + p.grid.width) → So (square cells j) → ⊥) where
  near : (i j : ℕ) → i < size p.grid → Adjacent q.grid (put d p.grid q.grid i) j → So (square cells j) → (k : ℕ) × (k < size p.grid) × (put d p.grid q.grid k ≡ j)
  near i j l e s = go (dec_lt (col q.grid j) d) (dec_lt (col q.grid j) (d + p.grid.width))
    where
      lj : j < size q.grid
      lj = Adjacent-on q.grid (put d p.grid q.grid i) j e

      beside : (col q.grid j ≤ d + col p.grid i + 1) × (d + col p.grid i ≤ col q.grid j + 1)
      beside = let r = near_col (Adjacent-next q.grid (put d p.grid q.grid i) j e) in let c = placed_col d p.grid q.grid tall wide i l in (omega (arith, r.0), omega (arith, r.1))

      go : Dec (col q.grid j < d) → Dec (col q.grid j < d + p.grid.width) → (k : ℕ) × (k < size p.grid) × (put d p.grid q.grid k ≡ j)
      go (yes a) _ = absurd (edge j lj (inl (omega (arith, beside))) s)
      go (no a) (yes b) = placed_onto d p.grid q.grid tall wide j (omega (arith, row_below q.grid lj)) (omega arith) b
      go (no a) (no b) = absurd (edge j lj (inr (omega (arith, beside, col_below p.grid l))) s)

  placed_Part : ((i : ℕ) → i < size p.grid → get_or q.given (put d p.grid q.grid i) 0 ≡ get_or p.given i 0)
      → ((a : List ℕ) → Memᴰ a p.arrows → Memᴰ (map (put d p.grid q.grid) a) q.arrows)
      → ((b : List ℕ) → Memᴰ b q.arrows → (i : ℕ) → i < size p.grid → Memᴰ (put d p.grid q.grid i) b → (a : List ℕ) × Memᴰ a p.arrows × (b ≡ map (put d p.grid q.grid) a))
      → Part p q (put d p.grid q.grid) (cut d p.grid q.grid.width cells) cells
  placed_Part codes arrows only = record {
    embeds = placed_embeds d p.grid q.grid tall wide;
    codes = codes;
    states = λ i l. sym (cut_at d p.grid q.grid.width cells i l);
    near = near;
    on = Arrows-size v.arrows;
    arrows = arrows;
    only = only;
    long = cut-length d p.grid q.grid.width cells;
  }

module _ (p q : Puzzle) (v : Valid p) (w : Valid q) (level : p.grid.height ≡ q.grid.height) (cells : List ℕ) (len : length cells ≡ size (joined_grid p q)) where
  abbrev b : Grid
  b = joined_grid p q

  module _ (column : ColumnEmpty p q cells) where
    column_empty : (j : ℕ) → j < size b → col b j ≡ p.grid.width → get_or cells j 0 ≡ 0
    column_empty j l e = ap (λ (k : ℕ). get_or cells k 0) (sym (ap (λ (x : ℕ). row b j * b.width + x) (sym e) ∙ index b j)) ∙ column (row b j) (row_below b l)

    no_square : (j : ℕ) → j < size b → col b j ≡ p.grid.width → So (square cells j) → ⊥
    unfolding square
    no_square j l e s = omega (arith, column_empty j l e, eqb-true (get_or cells j 0) 1 s)

    edge_left : (j : ℕ) → j < size b → (col b j + 1 ≡ 0) ⊎ (col b j ≡ 0 + p.grid.width) → So (square cells j) → ⊥
    edge_left j l (inl e) s = omega arith
    edge_left j l (inr e) s = no_square j l (omega arith) s

    edge_right : (j : ℕ) → j < size b → (col b j + 1 ≡ p.grid.width + 1) ⊎ (col b j ≡ p.grid.width + 1 + q.grid.width) → So (square cells j) → ⊥
    edge_right j l (inl e) s = no_square j l (omega arith) s
    edge_right j l (inr e) s = omega (arith, col_below b l)

    abbrev half : Bool → Puzzle
    half s = cond s p q

    abbrev cell : Bool → ℕ → ℕ
    cell s = cond s (left_cell p q) (right_cell p q)

    abbrev board : Bool → List ℕ
    board s = cond s (left_half p q cells) (right_half p q cells)

    abbrev L : List (List ℕ)
    L = map (map (left_cell p q)) p.arrows

    part : (s : Bool) → Part (half s) (joined p q) (cell s) (board s) cells
    part true = placed_Part p (joined p q) v 0 cells (tall_left p q level) (omega arith) (wide_left p q level) edge_left (codes_left p q level)
        (λ a m. Memᴰ.append_left _ (Memᴰ.map (map (left_cell p q)) m))
        (λ c m i l k.
        only_one (left_cell p q) (right_cell p q) p.arrows q.arrows i (λ a n y o. apart p q level i y l (Arrows-size w.arrows a n y o)) c k (Memᴰ.append_cases L m))
    part false = placed_Part q (joined p q) w (p.grid.width + 1) cells (tall_right p q level) (omega (arith, level)) (wide_right p q level) edge_right (codes_right p q level)
        (λ a m. Memᴰ.append_right L (Memᴰ.map (map (right_cell p q)) m))
        (λ c m i l k.
        only_one (right_cell p q) (left_cell p q) q.arrows p.arrows i (λ a n y o e. apart p q level y i (Arrows-size v.arrows a n y o) l (sym e)) c k (other (Memᴰ.append_cases L m)))
      where
        other : {A B : Type 0} → A ⊎ B → B ⊎ A
        other (inl a) = inr a
        other (inr b) = inl b

    covers : (j : ℕ) → j < size b → Where p q level j → ((s : Bool) × (i : ℕ) × (i < size (half s).grid) × (cell s i ≡ j)) ⊎ ((get_or (joined p q).given j 0 ≡ 1) × (get_or cells j 0 ≡ 0))
    covers j l (in_left i li e) = inl (true, i, li, e)
    covers j l (between c) = inr (code_between p q level j l c, column_empty j l c)
    covers j l (in_right i li e) = inl (false, i, li, e)

    whose : (c : List ℕ) → Memᴰ c (joined p q).arrows → (s : Bool) × (a : List ℕ) × Memᴰ a (half s).arrows × (c ≡ map (cell s) a)
    whose c m = go (Memᴰ.append_cases L m)
      where
        go : Memᴰ c L ⊎ Memᴰ c (map (map (right_cell p q)) q.arrows) → (s : Bool) × (a : List ℕ) × Memᴰ a (half s).arrows × (c ≡ map (cell s) a)
        go (inl n) = let r = Memᴰ.of_map (map (left_cell p q)) p.arrows n in (true, r.0, r.1, sym r.2)
        go (inr n) = let r = Memᴰ.of_map (map (right_cell p q)) q.arrows n in (false, r.0, r.1, sym r.2)

    -- the halves make up the whole
    whole : Whole half (joined p q) cell board cells
    whole = record { part = part; covers = λ j l. covers j l (Where-is p q level j l); whose = whose; total = len }

  -- finished: the column between is empty, and each half is finished, in every edition
  pub joined-Finished : (e : ℕ) → Finished (in_edition e (joined p q)) cells ↔ HalvesFinished e p q cells
  joined-Finished e = (to, from)
    where
      column : Finished (in_edition e (joined p q)) cells → ColumnEmpty p q cells
      column F y l =
          let x : p.grid.width < b.width = omega arith in
          let j : ℕ = y * b.width + p.grid.width in
          let lj : j < size b = place_below b l x in
          F.kept.black j lj (code_between p q level j lj (col_at b y x))

      to : Finished (in_edition e (joined p q)) cells → HalvesFinished e p q cells
      to F =
          let c = column F in
          let r = (whole_Finished (whole c) e).0 F in
          record { column = c; left = r true; right = r false }

      from : HalvesFinished e p q cells → Finished (in_edition e (joined p q)) cells
      from H = (whole_Finished (whole H.column) e).1 each
        where
          each : (s : Bool) → Finished (in_edition e (half H.column s)) (board H.column s)
          each true = H.left
          each false = H.right

-- what `join` makes of two records, opened in either edition
pub joined_leaf : (n : ℕ) (s t : List ℕ) {r : List ℕ} → join_record n s t ≡ ok r → (e : ℕ) → is_edition e ≡ true → JoinedLeaf e s t r
joined_leaf n s t {r} o e edition =
    let j = join_ok n s t o in
    record {
      left = j.left;
      right = j.right;
      opens_left = plain_leaf s e j.left j.read_left edition;
      opens_right = plain_leaf t e j.right j.read_right edition;
      opens = plain_leaf r e (joined j.left j.right) j.read edition;
      finished = λ cells full. joined-Finished j.left j.right (record_Valid s j.read_left) (record_Valid t j.read_right) j.level cells full.long e;
    }
