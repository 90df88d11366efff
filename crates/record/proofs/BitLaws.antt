-- The bits of a record: what is read from them is what is written for it.
-- Assumes nothing.
use Prim.Native.Nat.{ℕ, zero, suc, ◌+◌, ◌-◌, ◌*◌, ◌/◌, ◌%◌, ◌≤◌, ◌<◌}
use native.Mathlib.Nat.{add-suc, add-zero}
use native.Mathlib.Omega.{arith}
use mathlib.Core.Path.{◌≡◌, refl, sym, ap, ◌∙◌}
use mathlib.Core.Bool.{Bool, true, false, cond, ◌&&◌, not}
use mathlib.Core.List.Memᴰ
use mathlib.Core.List.{List, [], ◌∷◌, ◌++◌, append_assoc, append-nil, Memᴰ}
use lib.Dec.{leb, ltb}
use lib.Arith.{digits_div, digits_mod}
use lib.ListN.{length, length-append}
use borrow.Author.Tests.{ltb-true, leb-true}
use Rattle.grid.specs.Lists.{member, flat_map, Distinct}
use Rattle.grid.proofs.ListLaws.{and-true, So-false, member-mem, mem-member}
use Rattle.grid.specs.Grid.{Grid, size, row, col, up, down, left, right, neighbours}
use Rattle.grid.proofs.GridLaws.{apart, beside, on_grid, place_below}
use Rattle.fields.specs.Fields.{ok, refused, unless, bit, number, field, step_from, filler}
use Rattle.record.specs.Record.{Puzzle, cell_codes, step_cells, arrow_at, read_record}
use Rattle.record.specs.Head.{arrows_in, read_fields, head_bits}
use Rattle.record.specs.Problem.{arrow_cells}
use Rattle.record.specs.Write.{bits_of, direction, step_bits, arrow_bits, record_bits}
use Rattle.fields.proofs.OutcomeLaws.{bind_ok, unless-ok, ok-eq, bit-lt, field-ok, there-ok, step_ok}
use Rattle.record.proofs.FieldsLaws.{arrows_count, made, record_fields}

module _ (s : List ℕ) where
  -- the k bits from at
  unfoldable pub bits_at : ℕ → ℕ → List ℕ
  bits_at at zero = []
  bits_at at (suc k) = bits_at at k ++ (bit s (at + k) ∷ [])

  pub length-bits_at : (at k : ℕ) → length (bits_at at k) ≡ k
  unfolding bits_at
  length-bits_at at zero = refl
  length-bits_at at (suc k) = length-append (bits_at at k) (bit s (at + k) ∷ []) ∙ omega (arith, length-bits_at at k)

  pub bits_append : (at j k : ℕ) → bits_at at (j + k) ≡ bits_at at j ++ bits_at (at + j) k
  unfolding bits_at
  bits_append at j zero = ap (bits_at at) (add-zero j) ∙ sym (append-nil (bits_at at j))
  bits_append at j (suc k) =
      let p : at + (j + k) ≡ at + j + k = omega arith in
      ap (bits_at at) (add-suc j k) ∙ rw (bits_append at j k, p) (append_assoc (bits_at at j) (bits_at (at + j) k) (bit s (at + j + k) ∷ []))

  -- a field's bits are those of its number
  number_bits : (at k : ℕ) → bits_of (number s at k) k ≡ bits_at at k
  unfolding bits_at bits_of number
  number_bits at zero = refl
  number_bits at (suc k) =
      let b = bit-lt s (at + k) in
      let h : (2 * number s at k + bit s (at + k)) / 2 ≡ number s at k = omega arith in
      let r : (2 * number s at k + bit s (at + k)) % 2 ≡ bit s (at + k) = omega arith in
      rw (h, r, number_bits at k) refl

  pub field_bits : (at k : ℕ) {x : ℕ} → field s at k ≡ ok x → (bits_of x k ≡ bits_at at k) × (at + k ≤ 8 * length s)
  unfolding field
  field_bits at k {x} e = go (leb (at + k) (8 * length s)) refl e
    where
      go : (t : Bool) → leb (at + k) (8 * length s) ≡ t → cond t (ok (number s at k)) (refused 1) ≡ ok x → (bits_of x k ≡ bits_at at k) × (at + k ≤ 8 * length s)
      go true q h = (rw (← ok-eq h) (number_bits at k), leb-true (at + k) (8 * length s) q)
      go false q h = let z : ◌≡◌ {A = ℕ} 0 1 = cc in absurd (omega arith)

  -- the codes of the cells
  cells_bits : (at n : ℕ) {cs : List ℕ} → at ≤ 8 * length s → cell_codes s at n ≡ ok cs → (flat_map (λ c. bits_of c 2) cs ≡ bits_at at (2 * n)) × (at + 2 * n ≤ 8 * length s)
  unfolding cell_codes
  cells_bits at zero h e = rw (← ok-eq e) (unfold bits_at in refl, omega arith)
  cells_bits at (suc n) h e =
      let a = bind_ok (field s at 2) _ e in
      let b = bind_ok (unless (ltb a.0 3) 2) _ a.2 in
      let c = bind_ok (cell_codes s (at + 2) n) _ b.2 in
      let f = field_bits at 2 a.1 in
      let d = cells_bits (at + 2) n f.1 c.1 in
      let q : 2 * suc n ≡ 2 + 2 * n = omega arith in
      rw (← ok-eq c.2) (rw (f.0, d.0, q) (sym (bits_append at 2 (2 * n))), omega (arith, d.1))

-- a member of one part is in no other
parted : (a b : List ℕ) {x : ℕ} → Distinct (a ++ b) → Memᴰ x a → Memᴰ x b → ⊥
parted (y ∷ a) b d (Memᴰ.head e) m = d.0 (rw (← e) (Memᴰ.append_right a m))
parted (y ∷ a) b d (Memᴰ.tail k) m = parted a b d.1 k m
parted [] b d x5 m = elim x5 [ ]

parted_rest : (a b : List ℕ) → Distinct (a ++ b) → Distinct b
parted_rest [] b d = d
parted_rest (x ∷ a) b d = parted_rest a b d.1

-- a step is written as it was read
direction_again : (g : Grid) (i d j : ℕ) → i < size g → d < 4 → step_from g i d ≡ ok j → direction g i j ≡ d
unfolding step_from direction
direction_again g i zero j l h e = rw (mem-member j (up g i) (there-ok (up g i) e)) refl
direction_again g i (suc zero) j l h e =
    let m = there-ok (down g i) e in
    let a : Distinct (up g i ++ (down g i ++ (left g i ++ right g i))) = unfold neighbours in apart g i l in
    let u : member j (up g i) ≡ false = So-false (member j (up g i)) (λ t. parted (up g i) _ a (member-mem j (up g i) t) (Memᴰ.append_left _ m)) in
    rw (u, mem-member j (down g i) m) refl
direction_again g i (suc (suc zero)) j l h e =
    let m = there-ok (left g i) e in
    let a : Distinct (up g i ++ (down g i ++ (left g i ++ right g i))) = unfold neighbours in apart g i l in
    let b = parted_rest (up g i) _ a in
    let u : member j (up g i) ≡ false = So-false (member j (up g i)) (λ t. parted (up g i) _ a (member-mem j (up g i) t) (Memᴰ.append_right (down g i) (Memᴰ.append_left _ m))) in
    let v : member j (down g i) ≡ false = So-false (member j (down g i)) (λ t. parted (down g i) _ b (member-mem j (down g i) t) (Memᴰ.append_left _ m)) in
    rw (u, v, mem-member j (left g i) m) refl
direction_again g i (suc (suc (suc zero))) j l h e =
    let m = there-ok (right g i) e in
    let a : Distinct (up g i ++ (down g i ++ (left g i ++ right g i))) = unfold neighbours in apart g i l in
    let b = parted_rest (up g i) _ a in
    let c = parted_rest (down g i) _ b in
    let u : member j (up g i) ≡ false = So-false (member j (up g i)) (λ t. parted (up g i) _ a (member-mem j (up g i) t) (Memᴰ.append_right (down g i) (Memᴰ.append_right (left g i) m))) in
    let v : member j (down g i) ≡ false = So-false (member j (down g i)) (λ t. parted (down g i) _ b (member-mem j (down g i) t) (Memᴰ.append_right (left g i) m)) in
    let w : member j (left g i) ≡ false = So-false (member j (left g i)) (λ t. parted (left g i) _ c (member-mem j (left g i) t) m) in
    rw (u, v, w) refl
direction_again g i (suc (suc (suc (suc d)))) j l h e = absurd (omega arith)

module _ (s : List ℕ) (g : Grid) where
  steps_bits : (u : List ℕ) (i at k : ℕ) {js : List ℕ} → i < size g → at ≤ 8 * length s → step_cells s g u i at k ≡ ok js
      → (step_bits g i js ≡ bits_at s at (2 * k)) × (at + 2 * k ≤ 8 * length s) × (length js ≡ k)
  unfolding step_cells step_bits
  steps_bits u i at zero l h e = rw (← ok-eq e) (unfold bits_at in refl, omega arith, refl)
  steps_bits u i at (suc k) l h e =
      let a = bind_ok (field s at 2) _ e in
      let b = bind_ok (step_from g i a.0) _ a.2 in
      let c = bind_ok (unless (not (member b.0 u)) 4) _ b.2 in
      let d = bind_ok (step_cells s g (b.0 ∷ u) b.0 (at + 2) k) _ c.2 in
      let f = field_bits s at 2 a.1 in
      let r = steps_bits (b.0 ∷ u) b.0 (at + 2) k (on_grid g l (beside g i (step_ok g i a.0 b.1))) f.1 d.1 in
      let q : 2 * suc k ≡ 2 + 2 * k = omega arith in
      let w : direction g i b.0 ≡ a.0 = direction_again g i a.0 b.0 l (field-ok s at 2 a.1) b.1 in
      rw (← ok-eq d.2) (rw (w, f.0, r.0, q) (sym (bits_append s at 2 (2 * k))), omega (arith, r.1), ap suc r.2)

  arrow_bits_lem : (u : List ℕ) (at : ℕ) {a : List ℕ} → arrow_at s g u at ≡ ok a → (arrow_bits g a ≡ bits_at s at (18 + 2 * length a)) × (at + 18 + 2 * length a ≤ 8 * length s)
  unfolding arrow_at
  arrow_bits_lem u at e =
      let a = bind_ok (field s at 5) _ e in
      let b = bind_ok (field s (at + 5) 5) _ a.2 in
      let c = bind_ok (field s (at + 10) 10) _ b.2 in
      let d = bind_ok (unless (ltb a.0 g.height && ltb b.0 g.width) 3) _ c.2 in
      let f = bind_ok (unless (not (member (a.0 * g.width + b.0) u)) 4) _ d.2 in
      let h = bind_ok (step_cells s g ((a.0 * g.width + b.0) ∷ u) (a.0 * g.width + b.0) (at + 20) c.0) _ f.2 in
      let t = and-true (ltb a.0 g.height) (ltb b.0 g.width) (unless-ok _ 3 d.1) in
      rw (← ok-eq h.2) (start a.0 b.0 c.0 h.0 (ltb-true a.0 g.height t.0) (ltb-true b.0 g.width t.1) a.1 b.1 c.1 h.1)
    where
      start : (y x k : ℕ) (js : List ℕ) → y < g.height → x < g.width → field s at 5 ≡ ok y → field s (at + 5) 5 ≡ ok x → field s (at + 10) 10 ≡ ok k
          → step_cells s g ((y * g.width + x) ∷ u) (y * g.width + x) (at + 20) k ≡ ok js
          → (arrow_bits g ((y * g.width + x) ∷ js) ≡ bits_at s at (18 + 2 * suc (length js))) × (at + 18 + 2 * suc (length js) ≤ 8 * length s)
      start y x k js hy hx ey ex ek es =
          let fy = field_bits s at 5 ey in
          let fx = field_bits s (at + 5) 5 ex in
          let fk = field_bits s (at + 10) 10 ek in
          let room : at + 20 ≤ 8 * length s = omega (arith, fk.1) in
          let r = steps_bits ((y * g.width + x) ∷ u) (y * g.width + x) (at + 20) k (place_below g hy hx) room es in
          let n : 18 + 2 * suc (length js) ≡ 5 + (5 + (10 + 2 * k)) = omega (arith, r.2) in
          let p : at + 5 + 5 ≡ at + 10 = omega arith in
          let q : at + 10 + 10 ≡ at + 20 = omega arith in
          let whole : bits_at s at (5 + (5 + (10 + 2 * k))) ≡ bits_at s at 5 ++ (bits_at s (at + 5) 5 ++ (bits_at s (at + 10) 10 ++ bits_at s (at + 20) (2 * k))) =
          bits_append s at 5 (5 + (10 + 2 * k))
          ∙ ap (λ (t : List ℕ). bits_at s at 5 ++ t) (bits_append s (at + 5) 5 (10 + 2 * k) ∙ rw p (ap (λ (t : List ℕ). bits_at s (at + 5) 5 ++ t) (bits_append s (at + 10) 10 (2 * k) ∙ rw q refl))) in
          let bits : arrow_bits g ((y * g.width + x) ∷ js) ≡ bits_at s at 5 ++ (bits_at s (at + 5) 5 ++ (bits_at s (at + 10) 10 ++ bits_at s (at + 20) (2 * k))) =
          unfold arrow_bits row col in rw (digits_div y hx, digits_mod y hx, r.2, fy.0, fx.0, fk.0, r.0) refl in
          (bits ∙ sym whole ∙ ap (bits_at s at) (sym n), omega (arith, r.1, r.2))

  arrows_bits : (u : List ℕ) (at m : ℕ) {l : List (List ℕ)} → at ≤ 8 * length s → arrows_in s g u at m ≡ ok l
      → (n : ℕ) × (flat_map (arrow_bits g) l ≡ bits_at s at n) × (at + n ≤ 8 * length s) × (n ≡ 18 * m + 2 * length (arrow_cells l))
  unfolding arrows_in arrow_cells
  arrows_bits u at zero h e = rw (← ok-eq e) (0, unfold bits_at in refl, omega arith, refl)
  arrows_bits u at (suc m) h e =
      let a = bind_ok (arrow_at s g u at) _ e in
      let b = bind_ok (arrows_in s g (a.0 ++ u) (at + 18 + 2 * length a.0) m) _ a.2 in
      let f = arrow_bits_lem u at a.1 in
      let r = arrows_bits (a.0 ++ u) (at + 18 + 2 * length a.0) m f.1 b.1 in
      let p : at + (18 + 2 * length a.0) ≡ at + 18 + 2 * length a.0 = omega arith in
      rw (← ok-eq b.2) (
        18 + 2 * length a.0 + r.0,
        rw (f.0, r.1) (sym (bits_append s at (18 + 2 * length a.0) r.0 ∙ rw p refl)),
        omega (arith, r.2),
        rw (length-append a.0 (arrow_cells b.0)) (omega (arith, r.3)),
      )

-- the bits of fields that are read are those of the puzzle
pub fields_bits : (s : List ℕ) {p : Puzzle} → read_fields s ≡ ok p → (record_bits p ≡ bits_at s 0 (head_bits p)) × (head_bits p ≤ 8 * length s)
unfolding read_fields record_bits
fields_bits s e =
    let a = bind_ok (field s 0 5) _ e in
    let b = bind_ok (field s 5 5) _ a.2 in
    let c = bind_ok (field s 10 11) _ b.2 in
    let g : Grid = record { height = a.0 + 1; width = b.0 + 1 } in
    let d = bind_ok (cell_codes s 21 (size g)) _ c.2 in
    let f = bind_ok (arrows_in s g [] (21 + 2 * size g) c.0) _ d.2 in
    rw (← ok-eq f.2) (parts a.0 b.0 c.0 d.0 f.0 a.1 b.1 c.1 d.1 f.1)
  where
    sheet : ℕ → ℕ → Grid
    sheet h w = record { height = h + 1; width = w + 1 }

    total : (g : Grid) (m : ℕ) (cs : List ℕ) (l : List (List ℕ)) (n : ℕ) → n ≡ 18 * m + 2 * length (arrow_cells l) → length l ≡ m
        → 5 + (5 + (11 + (2 * size g + n))) ≡ head_bits (made g cs l)
    total g m cs l n e k = unfold head_bits in omega arith

    parts : (h w m : ℕ) (cs : List ℕ) (l : List (List ℕ)) → field s 0 5 ≡ ok h → field s 5 5 ≡ ok w → field s 10 11 ≡ ok m
        → cell_codes s 21 (size (sheet h w)) ≡ ok cs → arrows_in s (sheet h w) [] (21 + 2 * size (sheet h w)) m ≡ ok l
        → (record_bits (made (sheet h w) cs l) ≡ bits_at s 0 (head_bits (made (sheet h w) cs l))) × (head_bits (made (sheet h w) cs l) ≤ 8 * length s)
    parts h w m cs l eh ew em ec el =
        let g = sheet h w in
        let fa = field_bits s 0 5 eh in
        let fb = field_bits s 5 5 ew in
        let fc = field_bits s 10 11 em in
        let fd = cells_bits s 21 (size g) fc.1 ec in
        let r = arrows_bits s g [] (21 + 2 * size g) m fd.1 el in
        let k : length l ≡ m = arrows_count s g [] (21 + 2 * size g) m el in
        let ph : h + 1 - 1 ≡ h = omega arith in
        let pw : w + 1 - 1 ≡ w = omega arith in
        let n : ℕ = r.0 in
        let whole : bits_at s 0 (5 + (5 + (11 + (2 * size g + n)))) ≡ bits_at s 0 5 ++ (bits_at s 5 5 ++ (bits_at s 10 11 ++ (bits_at s 21 (2 * size g) ++ bits_at s (21 + 2 * size g) n))) =
        bits_append s 0 5 (5 + (11 + (2 * size g + n)))
        ∙ ap (λ (t : List ℕ). bits_at s 0 5 ++ t) (bits_append s 5 5 (11 + (2 * size g + n))
        ∙ ap (λ (t : List ℕ). bits_at s 5 5 ++ t) (bits_append s 10 11 (2 * size g + n)
        ∙ ap (λ (t : List ℕ). bits_at s 10 11 ++ t) (bits_append s 21 (2 * size g) n))) in
        let q : 5 + (5 + (11 + (2 * size g + n))) ≡ head_bits (made g cs l) = total g m cs l n r.3 k in
        (rw (ph, pw, k, fa.0, fb.0, fc.0, fd.0, r.1) (sym whole) ∙ ap (bits_at s 0) q, omega (arith, r.2, q))

-- so it is with a record, whose fields have the filler behind them
pub record_bits_lem : (s : List ℕ) {p : Puzzle} → read_record s ≡ ok p → (record_bits p ≡ bits_at s 0 (head_bits p)) × (head_bits p ≤ 8 * length s) × (filler s (head_bits p) ≡ true)
record_bits_lem s {p} e =
    let a = bind_ok (read_fields s) _ (sym (record_fields s) ∙ e) in
    let b = bind_ok (unless (filler s (head_bits a.0)) 5) _ a.2 in
    let f = fields_bits s a.1 in
    rw (← ok-eq b.2) (f.0, f.1, unless-ok (filler s (head_bits a.0)) 5 b.1)
