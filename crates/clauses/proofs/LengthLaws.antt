-- How long a sheet can be: 2,246,656 bytes are enough for every accepted record.
-- Assumes nothing.
use Prim.Native.Nat.{ℕ, ◌+◌, ◌*◌, ◌≤◌, ◌<◌}
use native.Mathlib.Omega.{arith}
use native.Mathlib.Nat.{zero-mul, suc-mul}
use mathlib.Core.Path.{◌≡◌, refl, ap, ◌∙◌}
use mathlib.Core.Bool.{Bool, true, false, cond, not}
use mathlib.Core.List.{List, [], ◌∷◌, ◌++◌, map, Memᴰ}
use lib.Dec.{eqb}
use lib.ListN.{length, get_or, length-append, length-map}
use Rattle.grid.specs.Lists.{flat_map, filter, upto}
use Rattle.grid.specs.Grid.{Grid, size, cells_of, only, up, down, left, right}
use Rattle.grid.specs.Cells.{Literal, word}
use Rattle.grid.proofs.ListLaws.{upto-mem, filter-length}
use Rattle.grid.proofs.AppendLaws.{upto-length}
use Rattle.record.specs.Record.{ok, Puzzle, read_record}
use Rattle.record.specs.Valid.{Valid}
use Rattle.record.specs.Problem.{arrow_cells}
use Rattle.record.proofs.FreshLaws.{one_length, arrows_length}
use Rattle.record.proofs.RecordLaws.{record_Valid, Valid-size}
use Rattle.groups.specs.Arrows.{on_arrow}
use Rattle.exported.proofs.BytesLaws.{bytes_length}
use Rattle.clauses.specs.Clauses.{Clause, given_at, apart, onwards, touching_at, around, between, pairs_of, between_at, others_of, arrow_clauses, given_part, touching_part, between_part, arrow_part, sheet, clause_bytes, clauses_bytes, sheet_bytes}
use Rattle.clauses.proofs.PieceLaws.{clauses_append, clauses_one, clauses_none, map_pieces, flat_pieces}

-- two bytes for the count, and two for each literal
clause_length : (c : Clause) → length (clause_bytes c) ≡ 2 + 2 * length c
unfolding clause_bytes
clause_length c = bytes_length (length c ∷ map word c) ∙ omega (arith, length-map c word)

-- pieces of at most k bytes
flat_most : {A : Type 0} (f : A → List ℕ) (k : ℕ) (l : List A) → ((x : A) → Memᴰ x l → length (f x) ≤ k) → length (flat_map f l) ≤ length l * k
flat_most f k [] h = omega (arith, zero-mul k)
flat_most f k (x ∷ l) h =
    omega (arith, length-append (f x) (flat_map f l), h x (Memᴰ.head refl), flat_most f k l (λ y m. h y (Memᴰ.tail m)), suc-mul (length l) k)

-- ---- a cell

given_most : (c i : ℕ) → length (clauses_bytes (given_at c i)) ≤ 4
unfolding given_at
given_most c i = go (eqb c 1) (eqb c 2)
  where
    one : (l : Literal) → length (clauses_bytes ((l ∷ []) ∷ [])) ≤ 4
    one l = omega (arith, ap length (clauses_one (l ∷ [])), clause_length (l ∷ []))

    go : (a b : Bool) → length (clauses_bytes (cond a (((i, 0) ∷ []) ∷ []) (cond b (((i, 1) ∷ []) ∷ []) []))) ≤ 4
    go true b = one (i, 0)
    go false true = one (i, 1)
    go false false = omega (arith, ap length clauses_none)

only_most : (b : Bool) (x : ℕ) → length (only b x) ≤ 1
unfolding only
only_most true x = omega arith
only_most false x = omega arith

module _ (g : Grid) (i : ℕ) where
  sides : (length (up g i) ≤ 1) × (length (left g i) ≤ 1) × (length (down g i) ≤ 1) × (length (right g i) ≤ 1)
  unfolding up left down right
  sides = (only_most _ _, only_most _ _, only_most _ _, only_most _ _)

  onwards_most : length (onwards g i) ≤ 2
  unfolding onwards
  onwards_most = omega (arith, length-append (down g i) (right g i), sides.2, sides.3)

  around_most : length (around g i) ≤ 4
  unfolding around
  around_most =
      omega (arith, length-append (up g i) (left g i ++ (down g i ++ right g i)), length-append (left g i) (down g i ++ right g i), length-append (down g i) (right g i), sides.0, sides.1, sides.2, sides.3)

  touching_most : (on : ℕ → Bool) → length (clauses_bytes (touching_at on g i)) ≤ 12
  unfolding touching_at
  touching_most on = go (on i)
    where
      go : (b : Bool) → length (clauses_bytes (cond b (map (apart i) (filter on (onwards g i))) [])) ≤ 12
      go true =
          omega (
            arith,
            ap length (map_pieces (apart i) (filter on (onwards g i))),
            flat_most (λ j. clause_bytes (apart i j)) 6 (filter on (onwards g i)) (λ j m. omega (arith, clause_length (apart i j))),
            filter-length on (onwards g i),
            onwards_most,
          )
      go false = omega (arith, ap length clauses_none)

with_most : (i : ℕ) (l : List ℕ) (a : ℕ) → a < 4 → length (clauses_bytes (map (between i l a) (upto a))) ≤ 32
with_most i l a h =
    omega (
      arith,
      ap length (map_pieces (between i l a) (upto a)),
      flat_most (λ b. clause_bytes (between i l a b)) 8 (upto a) (λ b m. omega (arith, clause_length (between i l a b))),
      upto-length a,
    )

pairs_most : (i : ℕ) (l : List ℕ) → length l ≤ 4 → length (clauses_bytes (pairs_of i l)) ≤ 128
unfolding pairs_of
pairs_most i l h =
    omega (
      arith,
      ap length (flat_pieces (λ a. map (between i l a) (upto a)) (upto (length l))),
      flat_most (λ a. clauses_bytes (map (between i l a) (upto a))) 32 (upto (length l)) (λ a m. with_most i l a (omega (arith, upto-mem (length l) m, h))),
      upto-length (length l),
    )

between_most : (on : ℕ → Bool) (g : Grid) (i : ℕ) → length (clauses_bytes (between_at on g i)) ≤ 128
unfolding between_at
between_most on g i = go (on i)
  where
    go : (b : Bool) → length (clauses_bytes (cond b [] (pairs_of i (filter on (around g i))))) ≤ 128
    go true = omega (arith, ap length clauses_none)
    go false = pairs_most i (filter on (around g i)) (omega (arith, filter-length on (around g i), around_most g i))

-- ---- an arrow

others_most : (a : List ℕ) (k : ℕ) → length (others_of a k) ≤ length a
unfolding others_of
others_most a k =
    omega (arith, length-map {B = Literal} (filter (λ t. not (eqb t k)) (upto (length a))) (λ (t : ℕ). (get_or a t 0, 1)), filter-length (λ t. not (eqb t k)) (upto (length a)), upto-length (length a))

arrow_most : (a : List ℕ) → length a ≤ 1024 → length (clauses_bytes (arrow_clauses a)) ≤ length a * 2050
unfolding arrow_clauses
arrow_most a h =
    omega (
      arith,
      ap length (map_pieces (others_of a) (upto (length a))),
      flat_most (λ k. clause_bytes (others_of a k)) 2050 (upto (length a)) (λ k m. omega (arith, clause_length (others_of a k), others_most a k, h)),
      upto-length (length a),
    )

arrows_most : (as' : List (List ℕ)) → ((a : List ℕ) → Memᴰ a as' → length a ≤ 1024) → length (flat_map (λ a. clauses_bytes (arrow_clauses a)) as') ≤ length (arrow_cells as') * 2050
unfolding arrow_cells
arrows_most [] h = omega arith
arrows_most (a ∷ as') h =
    omega (
      arith,
      length-append (clauses_bytes (arrow_clauses a)) (flat_map (λ b. clauses_bytes (arrow_clauses b)) as'),
      length-append a (arrow_cells as'),
      arrow_most a (h a (Memᴰ.head refl)),
      arrows_most as' (λ b m. h b (Memᴰ.tail m)),
    )

-- ---- the sheet

parts_length : (l m : List Clause) → length (clauses_bytes (l ++ m)) ≡ length (clauses_bytes l) + length (clauses_bytes m)
parts_length l m = ap length (clauses_append l m) ∙ length-append (clauses_bytes l) (clauses_bytes m)

-- the sheet of a valid puzzle has at most 2,246,656 bytes
pub Valid_most : (p : Puzzle) → Valid p → length (sheet_bytes p) ≤ 2246656
unfolding sheet_bytes sheet given_part touching_part between_part arrow_part cells_of
Valid_most p v =
    let n = size p.grid in
    let on = on_arrow p.arrows in
    let area = Valid-size v in
    let cells : length (arrow_cells p.arrows) ≤ size p.grid = unfold arrow_cells in arrows_length p v in
    omega (
      arith,
      area,
      cells,
      upto-length n,
      parts_length (given_part p) (touching_part p ++ (between_part p ++ arrow_part p)),
      parts_length (touching_part p) (between_part p ++ arrow_part p),
      parts_length (between_part p) (arrow_part p),
      ap length (flat_pieces (λ i. given_at (get_or p.given i 0) i) (upto n)),
      flat_most (λ i. clauses_bytes (given_at (get_or p.given i 0) i)) 4 (upto n) (λ i m. given_most (get_or p.given i 0) i),
      ap length (flat_pieces (touching_at on p.grid) (upto n)),
      flat_most (λ i. clauses_bytes (touching_at on p.grid i)) 12 (upto n) (λ i m. touching_most p.grid i on),
      ap length (flat_pieces (between_at on p.grid) (upto n)),
      flat_most (λ i. clauses_bytes (between_at on p.grid i)) 128 (upto n) (λ i m. between_most on p.grid i),
      ap length (flat_pieces arrow_clauses p.arrows),
      arrows_most p.arrows (λ a m. let one : length a ≤ length (arrow_cells p.arrows) = unfold arrow_cells in one_length p.arrows a m in omega (arith, one, cells, area)),
    )

-- so has that of an accepted record
pub sheet_most : (s : List ℕ) (p : Puzzle) → read_record s ≡ ok p → length (sheet_bytes p) ≤ 2246656
sheet_most s p e = Valid_most p (record_Valid s e)
