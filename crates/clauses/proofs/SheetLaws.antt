-- A full board satisfies every clause of the sheet and the block rules exactly when it is finished.
-- Assumes nothing.
use Prim.Native.Nat.{ℕ, zero, suc, ◌≤◌, ◌<◌}
use native.Mathlib.Omega.{arith}
use mathlib.Core.Logic.{◌↔◌, ◌⊎◌, inl, inr}
use mathlib.Core.Path.{◌≡◌, refl, sym, ap, subst, ◌∙◌}
use mathlib.Core.Bool.{Bool, true, false, not}
use mathlib.Core.List.Memᴰ
use mathlib.Core.List.{List, [], ◌∷◌, ◌++◌, map, Memᴰ}
use lib.Dec.{eqb}
use lib.ListN.{length, get_or}
use borrow.Author.Tests.{eq-eqb, ne_eqb, eqb-true}
use Rattle.grid.specs.Lists.{filter, upto}
use Rattle.grid.specs.Grid.{Grid, size, cells_of, neighbours, Beside}
use Rattle.grid.specs.Link.{here, step}
use Rattle.grid.specs.Cells.{Literal, square}
use Rattle.grid.proofs.ListLaws.{split, filter-mem, mem-filter, flat_map-mem, mem-flat_map, upto-mem, mem-upto, mem_at, at_mem, Distinct-filter, Distinct-once}
use Rattle.grid.proofs.AppendLaws.{by_eq}
use Rattle.grid.proofs.GridLaws.{beside, adj_sym, on_grid, in_cells}
use Rattle.record.specs.Record.{ok, Puzzle, read_record}
use Rattle.record.specs.Valid.{Valid, arrow, Arrows}
use Rattle.record.specs.Leaf.{Range, leaf_with}
use Rattle.record.proofs.RecordLaws.{record_Valid}
use Rattle.record.proofs.FreshLaws.{arrow_Distinct}
use Rattle.board.specs.Board.{Full}
use Rattle.groups.specs.Arrows.{on_arrow}
use Rattle.groups.specs.Rules.{SameBlock, BlockRules}
use Rattle.groups.proofs.ArrowLaws.{arrow_So}
use Rattle.finished.specs.Finished.{TwoSquares, Finished}
use Rattle.clauses.proofs.AroundLaws.{around_near, onwards_near, around-Distinct, not_Beside}
use Rattle.clauses.specs.Clauses.{Clause, given_at, apart, onwards, touching_at, around, between, pairs_of, between_at, others_of, arrow_clauses, given_part, touching_part, between_part, arrow_part, sheet, Satisfied, SheetHolds}

-- an arrow has a cell
not_empty : {g : Grid} {u : List ℕ} {arrows : List (List ℕ)} → Arrows g u arrows → (a : List ℕ) → Memᴰ a arrows → 0 < length a
not_empty Arrows.nil a m = absurd (Memᴰ.not-nil m)
not_empty (Arrows.cons {a = b} (arrow h w) n r) a (Memᴰ.head e) = rw e (omega arith)
not_empty (Arrows.cons (arrow h w) n r) a (Memᴰ.tail m) = not_empty r a m

-- the places of the other cells
other_place : (k t n : ℕ) → Memᴰ t (filter (λ s. not (eqb s k)) (upto n)) → (t < n) × (t ≡ k → ⊥)
other_place k t n m =
    let r = filter-mem (λ s. not (eqb s k)) (upto n) m in
    (upto-mem n r.0, λ e. let z : not (eqb t k) ≡ true = r.1 in let y : not true ≡ true = rw (eq-eqb t k e) at z in absurd (cannot y))
  where
    cannot : false ≡ true → ⊥
    cannot y = let z : ◌≡◌ {A = ℕ} 0 1 = cc in omega arith

place_other : (k t n : ℕ) → t < n → (t ≡ k → ⊥) → Memᴰ t (filter (λ s. not (eqb s k)) (upto n))
place_other k t n h d = mem-filter (λ s. not (eqb s k)) (upto n) (mem-upto n h) (rw (ne_eqb t k d) refl)

-- a clause of one literal
unit_says : (cells : List ℕ) (i w : ℕ) → Satisfied cells ((i, w) ∷ []) → get_or cells i 0 ≡ w
unit_says cells i w s =
    let q : ◌≡◌ {A = Literal} (s.index, s.value) (i, w) = Memᴰ.eq_of_singleton s.among in
    let a : s.index ≡ i = ap (λ (l : Literal). l.0) q in
    let b : s.value ≡ w = ap (λ (l : Literal). l.1) q in
    sym (ap (λ (k : ℕ). get_or cells k 0) a) ∙ s.agrees ∙ b

module _ (p : Puzzle) (v : Valid p) (cells : List ℕ) where
  abbrev on : ℕ → Bool
  on = on_arrow p.arrows

  square_of : (i : ℕ) → get_or cells i 0 ≡ 1 → square cells i ≡ true
  unfolding square
  square_of i e = eq-eqb (get_or cells i 0) 1 e

  of_square : (i : ℕ) → square cells i ≡ true → get_or cells i 0 ≡ 1
  unfolding square
  of_square i e = eqb-true (get_or cells i 0) 1 e

  -- what the clauses say
  module _ (H : SheetHolds p cells) where
    holds_black : (i : ℕ) → i < size p.grid → get_or p.given i 0 ≡ 1 → get_or cells i 0 ≡ 0
    unfolding sheet given_part given_at
    holds_black i h e =
        let m : Memᴰ ((i, 0) ∷ []) (given_at (get_or p.given i 0) i) = rw e (Memᴰ.head refl) in
        unit_says cells i 0 (H ((i, 0) ∷ []) (Memᴰ.append_left _ (mem-flat_map (λ j. given_at (get_or p.given j 0) j) (cells_of p.grid) (in_cells p.grid i h) m)))

    holds_given : (i : ℕ) → i < size p.grid → get_or p.given i 0 ≡ 2 → get_or cells i 0 ≡ 1
    unfolding sheet given_part given_at
    holds_given i h e =
        let m : Memᴰ ((i, 1) ∷ []) (given_at (get_or p.given i 0) i) = rw e (Memᴰ.head refl) in
        unit_says cells i 1 (H ((i, 1) ∷ []) (Memᴰ.append_left _ (mem-flat_map (λ j. given_at (get_or p.given j 0) j) (cells_of p.grid) (in_cells p.grid i h) m)))

    -- another square on the arrow
    holds_other : (a : List ℕ) → Memᴰ a p.arrows → (k : ℕ) → k < length a → (t : ℕ) × (t < length a) × (t ≡ k → ⊥) × (square cells (get_or a t 0) ≡ true)
    unfolding sheet arrow_part arrow_clauses others_of
    holds_other a m k h =
        let c : Memᴰ (others_of a k) (arrow_clauses a) = Memᴰ.map (others_of a) (mem-upto (length a) h) in
        let s = H (others_of a k) (Memᴰ.append_right (given_part p) (Memᴰ.append_right (touching_part p) (Memᴰ.append_right (between_part p) (mem-flat_map arrow_clauses p.arrows m c)))) in
        let r = Memᴰ.of_map (λ (t : ℕ). (get_or a t 0, 1)) (filter (λ t. not (eqb t k)) (upto (length a))) s.among in
        let o = other_place k r.0 (length a) r.1 in
        let x : get_or a r.0 0 ≡ s.index = ap (λ (l : Literal). l.0) r.2 in
        let y : 1 ≡ s.value = ap (λ (l : Literal). l.1) r.2 in
        (r.0, o.0, o.1, square_of (get_or a r.0 0) (ap (λ (j : ℕ). get_or cells j 0) x ∙ s.agrees ∙ sym y))

    holds_two : (a : List ℕ) → Memᴰ a p.arrows → TwoSquares cells a
    holds_two a m =
        let x = holds_other a m 0 (not_empty v.arrows a m) in
        let y = holds_other a m x.0 x.1 in
        record {
          first = get_or a x.0 0;
          second = get_or a y.0 0;
          on = (at_mem a x.0 x.1, at_mem a y.0 y.1);
          squares = (x.3, y.3);
          apart = λ e. y.2 (sym (Distinct-once a (arrow_Distinct v.arrows a m) x.0 y.0 x.1 y.1 e));
        }

  -- the clauses hold
  module _ {e : ℕ} {sizes : List Range} (F : Finished (leaf_with e sizes p) cells) where
    state : (i : ℕ) → i < size p.grid → (get_or cells i 0 ≡ 0) ⊎ (square cells i ≡ true)
    state i h = go (get_or cells i 0) refl (F.decided.each i h)
      where
        go : (x : ℕ) → get_or cells i 0 ≡ x → x ≤ 1 → (get_or cells i 0 ≡ 0) ⊎ (square cells i ≡ true)
        go zero e l = inl e
        go (suc zero) e l = inr (square_of i e)
        go (suc (suc x)) e l = absurd (omega arith)

    -- two arrow cells of one block are one
    lone : (i j : ℕ) → i < size p.grid → square cells i ≡ true → SameBlock p.grid cells i j → on i ≡ true → on j ≡ true → i ≡ j
    lone i j h s b x y =
        let o = F.rules.one i h s in
        o.unique i (here s) (arrow_So p.arrows i x) ∙ sym (o.unique j b (arrow_So p.arrows j y))

    given_holds : (c : Clause) → Memᴰ c (given_part p) → Satisfied cells c
    unfolding given_part given_at
    given_holds c m =
        let r = flat_map-mem (λ i. given_at (get_or p.given i 0) i) (cells_of p.grid) m in
        go r.0 (cell_in r.1) (get_or p.given r.0 0) refl r.2
      where
        cell_in : {i : ℕ} → Memᴰ i (cells_of p.grid) → i < size p.grid
        cell_in k = unfold cells_of in upto-mem (size p.grid) k

        go : (i : ℕ) → i < size p.grid → (x : ℕ) → get_or p.given i 0 ≡ x → Memᴰ c (given_at x i) → Satisfied cells c
        go i h zero e k = absurd (Memᴰ.not-nil k)
        go i h (suc zero) e k = rw (Memᴰ.eq_of_singleton k) (record { index = i; value = 0; among = Memᴰ.head refl; agrees = F.kept.black i h e })
        go i h (suc (suc zero)) e k = rw (Memᴰ.eq_of_singleton k) (record { index = i; value = 1; among = Memᴰ.head refl; agrees = F.kept.given i h e })
        go i h (suc (suc (suc x))) e k = absurd (Memᴰ.not-nil (rw (ne_eqb (suc (suc (suc x))) 1 (λ z. omega (arith, z)), ne_eqb (suc (suc (suc x))) 2 (λ z. omega (arith, z))) at k))

    -- a cell and its neighbours
    apart_holds : (i j : ℕ) → i < size p.grid → Memᴰ j (neighbours p.grid i) → on i ≡ true → on j ≡ true → Satisfied cells (apart i j)
    apart_holds i j h m x y = go (state i h) (state j (on_grid p.grid h (beside p.grid i m)))
      where
        never : square cells i ≡ true → square cells j ≡ true → i ≡ j
        never s t = lone i j h s (step (here s) (h, m) t) x y

        go : (get_or cells i 0 ≡ 0) ⊎ (square cells i ≡ true) → (get_or cells j 0 ≡ 0) ⊎ (square cells j ≡ true) → Satisfied cells (apart i j)
        go (inl e) s = record { index = i; value = 0; among = Memᴰ.head refl; agrees = e }
        go (inr e) (inl f) = record { index = j; value = 0; among = Memᴰ.tail (Memᴰ.head refl); agrees = f }
        go (inr e) (inr f) = absurd (not_Beside p.grid i h (subst (λ k. Beside p.grid i k) (sym (never e f)) (beside p.grid i m)))

    touching_holds : (c : Clause) → Memᴰ c (touching_part p) → Satisfied cells c
    unfolding touching_part touching_at
    touching_holds c m =
        let r = flat_map-mem (touching_at on p.grid) (cells_of p.grid) m in
        go r.0 (cell_in r.1) (split (on r.0)) r.2
      where
        cell_in : {i : ℕ} → Memᴰ i (cells_of p.grid) → i < size p.grid
        cell_in k = unfold cells_of in upto-mem (size p.grid) k

        go : (i : ℕ) → i < size p.grid → (on i ≡ true) ⊎ (on i ≡ false) → Memᴰ c (touching_at on p.grid i) → Satisfied cells c
        go i h (inl x) k =
            let r = Memᴰ.of_map (apart i) (filter on (onwards p.grid i)) (rw x at k) in
            let q = filter-mem on (onwards p.grid i) r.1 in
            subst (λ d. Satisfied cells d) r.2 (apart_holds i r.0 h (onwards_near p.grid i q.0) x q.1)
        go i h (inr x) k = absurd (Memᴰ.not-nil (rw x at k))

    pair_holds : (i x y : ℕ) → i < size p.grid → Memᴰ x (neighbours p.grid i) → Memᴰ y (neighbours p.grid i) → on x ≡ true → on y ≡ true → (x ≡ y → ⊥)
        → Satisfied cells ((x, 0) ∷ (i, 0) ∷ (y, 0) ∷ [])
    pair_holds i x y h m k a b d = go (state x hx) (state i h) (state y (on_grid p.grid h (beside p.grid i k)))
      where
        hx : x < size p.grid
        hx = on_grid p.grid h (beside p.grid i m)

        go : (get_or cells x 0 ≡ 0) ⊎ (square cells x ≡ true) → (get_or cells i 0 ≡ 0) ⊎ (square cells i ≡ true) → (get_or cells y 0 ≡ 0) ⊎ (square cells y ≡ true) → Satisfied cells ((x, 0) ∷ (i, 0) ∷ (y, 0) ∷ [])
        go (inl e) s t = record { index = x; value = 0; among = Memᴰ.head refl; agrees = e }
        go (inr e) (inl f) t = record { index = i; value = 0; among = Memᴰ.tail (Memᴰ.head refl); agrees = f }
        go (inr e) (inr f) (inl w) = record { index = y; value = 0; among = Memᴰ.tail (Memᴰ.tail (Memᴰ.head refl)); agrees = w }
        go (inr e) (inr f) (inr w) = absurd (d (lone x y hx e (step (step (here e) (adj_sym p.grid i x (h, m)) f) (h, k) w) a b))

    between_holds : (c : Clause) → Memᴰ c (between_part p) → Satisfied cells c
    unfolding between_part between_at pairs_of
    between_holds c m =
        let r = flat_map-mem (between_at on p.grid) (cells_of p.grid) m in
        go r.0 (cell_in r.1) (split (on r.0)) r.2
      where
        cell_in : {i : ℕ} → Memᴰ i (cells_of p.grid) → i < size p.grid
        cell_in k = unfold cells_of in upto-mem (size p.grid) k

        go : (i : ℕ) → i < size p.grid → (on i ≡ true) ⊎ (on i ≡ false) → Memᴰ c (between_at on p.grid i) → Satisfied cells c
        go i h (inl x) k = absurd (Memᴰ.not-nil (rw x at k))
        go i h (inr x) k =
            let l = filter on (around p.grid i) in
            let r = flat_map-mem (λ a. map (between i l a) (upto a)) (upto (length l)) (rw x at k) in
            let a = upto-mem (length l) r.1 in
            let s = Memᴰ.of_map (between i l r.0) (upto r.0) r.2 in
            let b = upto-mem r.0 s.1 in
            let t : s.0 < length l = omega (arith, a, b) in
            let u = filter-mem on (around p.grid i) (at_mem l r.0 a) in
            let w = filter-mem on (around p.grid i) (at_mem l s.0 t) in
            let d = Distinct-once l (Distinct-filter on (around p.grid i) (around-Distinct p.grid i h)) r.0 s.0 a t in
            subst (λ e. Satisfied cells e) s.2
            (pair_holds i (get_or l r.0 0) (get_or l s.0 0) h (around_near p.grid i u.0) (around_near p.grid i w.0) u.1 w.1 (λ e. omega (arith, d e, b)))

    -- a square of the arrow at another place than k
    other_square : (a : List ℕ) (k : ℕ) → TwoSquares cells a → (t : ℕ) × (t < length a) × (t ≡ k → ⊥) × (square cells (get_or a t 0) ≡ true)
    other_square a k w =
        let x = mem_at a w.on.0 in
        let y = mem_at a w.on.1 in
        by_eq x.0 k
        (λ e. (y.0, y.1, λ f. w.apart (sym x.2 ∙ ap (λ (j : ℕ). get_or a j 0) (e ∙ sym f) ∙ y.2), ap (square cells) y.2 ∙ w.squares.1))
        (λ n. (x.0, x.1, n, ap (square cells) x.2 ∙ w.squares.0))

    arrow_holds : (c : Clause) → Memᴰ c (arrow_part p) → Satisfied cells c
    unfolding arrow_part arrow_clauses others_of
    arrow_holds c m =
        let r = flat_map-mem arrow_clauses p.arrows m in
        let a = r.0 in
        let s = Memᴰ.of_map (others_of a) (upto (length a)) r.2 in
        let o = other_square a s.0 (F.two a r.1) in
        let sat : Satisfied cells (others_of a s.0) = record {
          index = get_or a o.0 0;
          value = 1;
          among = Memᴰ.map (λ (t : ℕ). (get_or a t 0, 1)) (place_other s.0 o.0 (length a) o.1 o.2);
          agrees = of_square (get_or a o.0 0) o.3;
        } in
        subst (λ e. Satisfied cells e) s.2 sat

    sheet_holds : SheetHolds p cells
    unfolding sheet
    sheet_holds c m = first (Memᴰ.append_cases (given_part p) m)
      where
        third : Memᴰ c (between_part p) ⊎ Memᴰ c (arrow_part p) → Satisfied cells c
        third (inl k) = between_holds c k
        third (inr k) = arrow_holds c k

        second : Memᴰ c (touching_part p) ⊎ Memᴰ c (between_part p ++ arrow_part p) → Satisfied cells c
        second (inl k) = touching_holds c k
        second (inr k) = third (Memᴰ.append_cases (between_part p) k)

        first : Memᴰ c (given_part p) ⊎ Memᴰ c (touching_part p ++ (between_part p ++ arrow_part p)) → Satisfied cells c
        first (inl k) = given_holds c k
        first (inr k) = second (Memᴰ.append_cases (touching_part p) k)

-- a full board of an accepted record satisfies every clause and the block rules of an edition, with any sizes, exactly when it is finished in that edition with these sizes
pub sheet_Finished : (s : List ℕ) (p : Puzzle) → read_record s ≡ ok p → (e : ℕ) (sizes : List Range) (cells : List ℕ) → Full p.grid cells
    → (SheetHolds p cells × BlockRules (leaf_with e sizes p) cells) ↔ Finished (leaf_with e sizes p) cells
sheet_Finished s p reads e sizes cells full =
    let v = record_Valid s reads in (
      λ r. record { decided = full; kept = record { black = holds_black p v cells r.0; given = holds_given p v cells r.0 }; rules = r.1; two = holds_two p v cells r.0 },
      λ F. (sheet_holds p v cells F, F.rules),
    )
