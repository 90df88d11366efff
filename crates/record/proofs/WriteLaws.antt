-- A valid puzzle is read back from the record that is written for it.
-- Assumes nothing.
use Prim.Native.Nat.{ℕ, ◌+◌, ◌-◌, ◌*◌, ◌/◌, ◌^◌, ◌≤◌, ◌<◌}
use native.Mathlib.Omega.{arith}
use mathlib.Core.Logic.{◌⊎◌, inl, inr}
use mathlib.Core.Path.{◌≡◌, refl, sym, ap, ◌∙◌}
use mathlib.Core.Bool.{Bool, true, false, ◌||◌, false≢true, true≢false}
use mathlib.Core.List.Memᴰ
use mathlib.Core.List.{List, [], ◌∷◌, ◌++◌, append_assoc, append-nil, Memᴰ}
use lib.Dec.{eqb, lit<}
use lib.ListN.{length, drop, length-append}
use lib.Seq.{drop_at, drop-length}
use borrow.Author.Tests.{eqb-true, le-leb, lt-ltb}
use Rattle.grid.proofs.ListLaws.{So-false, member-mem, split, mem-member}
use Rattle.grid.specs.Lists.{member, flat_map}
use Rattle.grid.specs.Grid.{Grid, size, row, col, only, up, down, left, right, neighbours}
use Rattle.grid.proofs.GridLaws.{row_below, col_below, index}
use Rattle.fields.specs.Fields.{◌>>=◌, Outcome, ok, unless, field, there, step_from, filler}
use Rattle.record.specs.Record.{Puzzle, cell_codes, step_cells, arrow_at, arrows_at, read_record, Bytes}
use Rattle.record.specs.Valid.{Walk, on, Fresh, Arrow, arrow, Arrows, Valid}
use Rattle.record.proofs.FreshLaws.{together, arrows_length, one_length}
use Rattle.record.specs.Write.{bits_of, value_of, pack, direction, step_bits, arrow_bits, record_bits, write_record}
use Rattle.record.proofs.PackLaws.{Bits, length-pack, pack-number, length-bits_of, value_bits_of, value_nil, Bits-append, Bits-bits_of, Bits-flat_map, pack-Bytes}
use Rattle.record.proofs.RecordLaws.{Valid-size}

-- the cell of a list of one
there_read : (t : Bool) (x j : ℕ) → member j (only t x) ≡ true → there (only t x) ≡ ok j
unfolding only member there
there_read true x j h = go (split (eqb j x)) h
  where
    go : (eqb j x ≡ true) ⊎ (eqb j x ≡ false) → (eqb j x || false) ≡ true → ok x ≡ ok j
    go (inl e) k = ap {B = Outcome ℕ} ok (sym (eqb-true j x e))
    go (inr e) k = absurd (false≢true (rw e at k))
there_read false x j h = absurd (false≢true h)

no_member : (j : ℕ) (l : List ℕ) → (Memᴰ j l → ⊥) → member j l ≡ false
no_member j l h = So-false (member j l) (λ t. h (member-mem j l t))

direction_read : (g : Grid) (i j : ℕ) → Memᴰ j (neighbours g i) → (step_from g i (direction g i j) ≡ ok j) × (direction g i j < 4)
unfolding neighbours direction up down left right step_from
direction_read g i j m = one (split (member j (up g i)))
  where
    Goal : Type 0
    Goal = (step_from g i (direction g i j) ≡ ok j) × (direction g i j < 4)

    last : member j (up g i) ≡ false → member j (down g i) ≡ false → member j (left g i) ≡ false → Goal
    last u d l = rw (u, d, l) (there_read _ _ j (four (Memᴰ.append_cases (up g i) m)), lit< tt)
      where
        no : (l : List ℕ) → member j l ≡ false → Memᴰ j l → ⊥
        no l f k = true≢false (sym (mem-member j l k) ∙ f)

        six : Memᴰ j (left g i) ⊎ Memᴰ j (right g i) → member j (right g i) ≡ true
        six (inl k) = absurd (no (left g i) l k)
        six (inr k) = mem-member j (right g i) k

        five : Memᴰ j (down g i) ⊎ Memᴰ j (left g i ++ right g i) → member j (right g i) ≡ true
        five (inl k) = absurd (no (down g i) d k)
        five (inr k) = six (Memᴰ.append_cases (left g i) k)

        four : Memᴰ j (up g i) ⊎ Memᴰ j (down g i ++ (left g i ++ right g i)) → member j (right g i) ≡ true
        four (inl k) = absurd (no (up g i) u k)
        four (inr k) = five (Memᴰ.append_cases (down g i) k)

    three : member j (up g i) ≡ false → member j (down g i) ≡ false → (member j (left g i) ≡ true) ⊎ (member j (left g i) ≡ false) → Goal
    three u d (inl t) = rw (u, d, t) (there_read _ _ j t, lit< tt)
    three u d (inr f) = last u d f

    two : member j (up g i) ≡ false → (member j (down g i) ≡ true) ⊎ (member j (down g i) ≡ false) → Goal
    two u (inl t) = rw (u, t) (there_read _ _ j t, lit< tt)
    two u (inr f) = three u f (split (member j (left g i)))

    one : (member j (up g i) ≡ true) ⊎ (member j (up g i) ≡ false) → Goal
    one (inl t) = rw t (there_read _ _ j t, lit< tt)
    one (inr f) = two f (split (member j (down g i)))

no_empty : {g : Grid} → Arrow g [] → ⊥
no_empty h = elim h [ ]

length-step_bits : (g : Grid) (i : ℕ) (js : List ℕ) → length (step_bits g i js) ≡ 2 * length js
unfolding step_bits
length-step_bits g i [] = omega arith
length-step_bits g i (j ∷ js) = rw length-append (omega (arith, length-bits_of (direction g i j) 2, length-step_bits g j js))

-- the bits of an arrow
pub length-arrow_bits : (g : Grid) (i : ℕ) (js : List ℕ) → length (arrow_bits g (i ∷ js)) ≡ 20 + 2 * length js
unfolding arrow_bits
length-arrow_bits g i js = simp length-append (omega (arith, length-bits_of (row g i) 5, length-bits_of (col g i) 5, length-bits_of (length js) 10, length-step_bits g i js))

-- reading at the length of what stands before
module _ (m : ℕ) (b : List ℕ) (h : Bits b) (fit : length b ≤ 8 * m) where
  field_read : (pre post : List ℕ) (at x k : ℕ) → b ≡ pre ++ (bits_of x k ++ post) → length pre ≡ at → x < 2 ^ k → field (pack m b) at k ≡ ok x
  unfolding field
  field_read pre post at x k e n l =
      let t = simp length-append at (ap length e) in
      let room : at + k ≤ 8 * length (pack m b) = omega (arith, length-pack m b, length-bits_of x k) in
      rw (le-leb (at + k) (8 * length (pack m b)) room)
      (ap {B = Outcome ℕ} ok (pack-number m b h at k (omega (arith, length-pack m b)) ∙ ap (λ (r : List ℕ). value_of k (drop at r)) e ∙ ap (value_of k) (drop_at pre (bits_of x k ++ post) at n) ∙ value_bits_of k x post l))

  cells_read : (cs pre post : List ℕ) (at : ℕ) → b ≡ pre ++ (flat_map (λ c. bits_of c 2) cs ++ post) → length pre ≡ at → ((c : ℕ) → Memᴰ c cs → c < 3) → cell_codes (pack m b) at (length cs) ≡ ok cs
  unfolding cell_codes ◌>>=◌ unless
  cells_read [] pre post at e n f = refl
  cells_read (c ∷ cs) pre post at e n f =
      let l = f c (Memᴰ.head refl) in
      let e' : b ≡ pre ++ (bits_of c 2 ++ (flat_map (λ d. bits_of d 2) cs ++ post)) = e ∙ simp append_assoc in
      rw (
        field_read pre (flat_map (λ d. bits_of d 2) cs ++ post) at c 2 e' n (omega arith),
        lt-ltb c 3 l,
        cells_read cs (pre ++ bits_of c 2) post (at + 2) (e' ∙ simp append_assoc) (rw length-append (omega (arith, length-bits_of c 2))) (λ d k. f d (Memᴰ.tail k)),
      )
      refl

  module _ (g : Grid) where
    steps_read : (js pre post used : List ℕ) (i at : ℕ) → Walk g i js → Fresh used js → b ≡ pre ++ (step_bits g i js ++ post) → length pre ≡ at → step_cells (pack m b) g used i at (length js) ≡ ok js
    unfolding step_cells step_bits ◌>>=◌ unless
    steps_read [] pre post used i at w f e n = refl
    steps_read (j ∷ js) pre post used i at (on k w) (Fresh.cons d f) e n =
        let e' : b ≡ pre ++ (bits_of (direction g i j) 2 ++ (step_bits g j js ++ post)) = e ∙ simp append_assoc in
        let r = direction_read g i j k in
        rw (
          field_read pre (step_bits g j js ++ post) at (direction g i j) 2 e' n (omega (arith, r.1)),
          r.0,
          no_member j used d,
          steps_read js (pre ++ bits_of (direction g i j) 2) post (j ∷ used) j (at + 2) w f (e' ∙ simp append_assoc) (rw length-append (omega (arith, length-bits_of (direction g i j) 2))),
        )
        refl

    module _ (hh : g.height ≤ 32) (hw : g.width ≤ 32) where
      arrow_read : (i at : ℕ) (js pre post used : List ℕ) → i < size g → Walk g i js → Fresh used (i ∷ js) → length js < 1024
          → b ≡ pre ++ (arrow_bits g (i ∷ js) ++ post) → length pre ≡ at → arrow_at (pack m b) g used at ≡ ok (i ∷ js)
      unfolding arrow_at arrow_bits ◌>>=◌ unless
      arrow_read i at js pre post used hi w (Fresh.cons d f) l e n =
          let y : row g i < g.height = row_below g hi in
          let x : col g i < g.width = col_below g hi in
          let e1 : b ≡ pre ++ (bits_of (row g i) 5 ++ (bits_of (col g i) 5 ++ (bits_of (length js) 10 ++ (step_bits g i js ++ post)))) = e ∙ simp append_assoc in
          let e2 : b ≡ (pre ++ bits_of (row g i) 5) ++ (bits_of (col g i) 5 ++ (bits_of (length js) 10 ++ (step_bits g i js ++ post))) = e1 ∙ simp append_assoc in
          let e3 : b ≡ (pre ++ (bits_of (row g i) 5 ++ bits_of (col g i) 5)) ++ (bits_of (length js) 10 ++ (step_bits g i js ++ post)) = e1 ∙ simp append_assoc in
          let e4 : b ≡ (pre ++ (bits_of (row g i) 5 ++ (bits_of (col g i) 5 ++ bits_of (length js) 10))) ++ (step_bits g i js ++ post) = e1 ∙ simp append_assoc in
          rw (
            field_read pre _ at (row g i) 5 e1 n (omega arith),
            field_read (pre ++ bits_of (row g i) 5) _ (at + 5) (col g i) 5 e2 (simp length-append (omega (arith, length-bits_of (row g i) 5))) (omega arith),
            field_read (pre ++ (bits_of (row g i) 5 ++ bits_of (col g i) 5)) _ (at + 10) (length js) 10 e3 (simp length-append (omega (arith, length-bits_of (row g i) 5, length-bits_of (col g i) 5))) (omega arith),
            lt-ltb (row g i) g.height y,
            lt-ltb (col g i) g.width x,
            index g i,
            no_member i used d,
            steps_read js (pre ++ (bits_of (row g i) 5 ++ (bits_of (col g i) 5 ++ bits_of (length js) 10))) post (i ∷ used) i (at + 20) w f e4
                (simp length-append (omega (arith, length-bits_of (row g i) 5, length-bits_of (col g i) 5, length-bits_of (length js) 10))),
          )
          refl

      Arrows-read : (as' : List (List ℕ)) (pre used : List ℕ) (at : ℕ) → Arrows g used as' → ((a : List ℕ) → Memᴰ a as' → length a ≤ 1024)
          → b ≡ pre ++ flat_map (arrow_bits g) as' → length pre ≡ at → 8 * m - length b < 8 → arrows_at (pack m b) g used at (length as') ≡ ok as'
      unfolding arrows_at ◌>>=◌ unless filler
      Arrows-read [] pre used at r t e n q =
          let e' : b ≡ pre = e ∙ append-nil pre in
          let z : drop at b ≡ [] = ap (drop at) e' ∙ ap (λ (k : ℕ). drop k pre) (sym n) ∙ drop-length pre in
          let len : length b ≡ at = ap length e' ∙ n in
          let k : ℕ = 8 * length (pack m b) - at in
          rw (
            lt-ltb (8 * length (pack m b) - at) 8 (omega (arith, length-pack m b)),
            pack-number m b h at (8 * length (pack m b) - at) (omega (arith, length-pack m b)),
            z,
            value_nil (8 * length (pack m b) - at),
          )
          refl
      Arrows-read ([] ∷ as') pre used at (Arrows.cons a f r) t e n q = absurd (no_empty a)
      Arrows-read ((i ∷ js) ∷ as') pre used at (Arrows.cons (arrow hi w) f r) t e n q =
          let e' : b ≡ pre ++ (arrow_bits g (i ∷ js) ++ flat_map (arrow_bits g) as') = e in
          let l = t (i ∷ js) (Memᴰ.head refl) in
          rw (
            arrow_read i at js pre (flat_map (arrow_bits g) as') used hi w f (omega arith) e' n,
            Arrows-read as' (pre ++ arrow_bits g (i ∷ js)) ((i ∷ js) ++ used) (at + 18 + 2 * length (i ∷ js)) r (λ a k. t a (Memᴰ.tail k)) (e' ∙ simp append_assoc)
                (rw length-append (omega (arith, length-arrow_bits g i js))) q,
          )
          refl

Bits-steps : (g : Grid) (i : ℕ) (js : List ℕ) → Bits (step_bits g i js)
unfolding step_bits
Bits-steps g i [] = λ k. lit< tt
Bits-steps g i (j ∷ js) = Bits-append (bits_of (direction g i j) 2) (step_bits g j js) (Bits-bits_of (direction g i j) 2) (Bits-steps g j js)

Bits-arrow : (g : Grid) (a : List ℕ) → Bits (arrow_bits g a)
unfolding arrow_bits
Bits-arrow g [] = λ k. lit< tt
Bits-arrow g (i ∷ js) =
    Bits-append (bits_of (row g i) 5) _ (Bits-bits_of (row g i) 5) (Bits-append (bits_of (col g i) 5) _ (Bits-bits_of (col g i) 5)
    (Bits-append (bits_of (length js) 10) (step_bits g i js) (Bits-bits_of (length js) 10) (Bits-steps g i js)))

-- two bits for each cell
pub length_codes : (cs : List ℕ) → length (flat_map (λ c. bits_of c 2) cs) ≡ 2 * length cs
length_codes [] = omega arith
length_codes (c ∷ cs) = rw length-append (omega (arith, length-bits_of c 2, length_codes cs))

-- no arrow is empty
pub few_Arrows : {g : Grid} {u : List ℕ} {as' : List (List ℕ)} → Arrows g u as' → length as' ≤ length (together as')
few_Arrows Arrows.nil = omega arith
few_Arrows (Arrows.cons (arrow h w) f r) = rw length-append (omega (arith, few_Arrows r))

module _ (p : Puzzle) (v : Valid p) (m : ℕ) (b : List ℕ) (h : Bits b) (fit : length b ≤ 8 * m) (near : 8 * m - length b < 8) where
  read_bits : b ≡ bits_of (p.grid.height - 1) 5 ++ (bits_of (p.grid.width - 1) 5 ++ (bits_of (length p.arrows) 11 ++ (flat_map (λ c. bits_of c 2) p.given ++ flat_map (arrow_bits p.grid) p.arrows)))
      → read_record (pack m b) ≡ ok p
  unfolding read_record ◌>>=◌
  read_bits e =
      let B1 : List ℕ = bits_of (p.grid.height - 1) 5 in
      let B2 : List ℕ = bits_of (p.grid.width - 1) 5 in
      let B3 : List ℕ = bits_of (length p.arrows) 11 in
      let C : List ℕ = flat_map (λ c. bits_of c 2) p.given in
      let l1 : length B1 ≡ 5 = length-bits_of (p.grid.height - 1) 5 in
      let l2 : length B2 ≡ 5 = length-bits_of (p.grid.width - 1) 5 in
      let l3 : length B3 ≡ 11 = length-bits_of (length p.arrows) 11 in
      let most : size p.grid ≤ 1024 = Valid-size v in
      let few : length p.arrows < 2 ^ 11 = omega (arith, few_Arrows v.arrows, arrows_length p v) in
      let H : p.grid.height - 1 + 1 ≡ p.grid.height = omega (arith, v.low.0) in
      let W : p.grid.width - 1 + 1 ≡ p.grid.width = omega (arith, v.low.1) in
      let cells : cell_codes (pack m b) 21 (size p.grid) ≡ ok p.given =
      rw v.total at (cells_read m b h fit p.given (B1 ++ (B2 ++ B3)) (flat_map (arrow_bits p.grid) p.arrows) 21 (e ∙ simp append_assoc) (simp length-append (omega arith)) v.codes) in
      let arrows : arrows_at (pack m b) p.grid [] (21 + 2 * size p.grid) (length p.arrows) ≡ ok p.arrows =
      Arrows-read m b h fit p.grid v.high.0 v.high.1 p.arrows (B1 ++ (B2 ++ (B3 ++ C))) [] (21 + 2 * size p.grid) v.arrows
      (λ a k. omega (arith, one_length p.arrows a k, arrows_length p v)) (e ∙ simp append_assoc) (simp length-append (omega (arith, length_codes p.given, v.total))) near in
      rw (
        field_read m b h fit [] _ 0 (p.grid.height - 1) 5 e refl (omega (arith, v.high.0)),
        field_read m b h fit B1 _ 5 (p.grid.width - 1) 5 e l1 (omega (arith, v.high.1)),
        field_read m b h fit (B1 ++ B2) (C ++ flat_map (arrow_bits p.grid) p.arrows) 10 (length p.arrows) 11 (e ∙ simp append_assoc) (simp length-append (omega arith)) few,
        H,
        W,
        cells,
        arrows,
      )
      refl

Bits-record : (p : Puzzle) → Bits (record_bits p)
unfolding record_bits
Bits-record p =
    Bits-append (bits_of (p.grid.height - 1) 5) _ (Bits-bits_of (p.grid.height - 1) 5)
    (Bits-append (bits_of (p.grid.width - 1) 5) _ (Bits-bits_of (p.grid.width - 1) 5)
    (Bits-append (bits_of (length p.arrows) 11) _ (Bits-bits_of (length p.arrows) 11)
    (Bits-append (flat_map (λ c. bits_of c 2) p.given) (flat_map (arrow_bits p.grid) p.arrows) (Bits-flat_map (λ c. bits_of c 2) p.given (λ c. Bits-bits_of c 2)) (Bits-flat_map (arrow_bits p.grid) p.arrows (Bits-arrow p.grid)))))

pub round_trip : (p : Puzzle) → Valid p → read_record (write_record p) ≡ ok p
unfolding write_record
round_trip p v = read_bits p v ((length (record_bits p) + 7) / 8) (record_bits p) (Bits-record p) (omega arith) (omega arith) (unfold record_bits in refl)

-- a record that is written is a list of bytes
pub written_Bytes : (p : Puzzle) → Bytes (write_record p)
unfolding write_record
written_Bytes p = pack-Bytes ((length (record_bits p) + 7) / 8) (record_bits p) (Bits-record p)
