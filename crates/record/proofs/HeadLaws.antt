-- The head of a file and the record: a record is a head that is the whole file, and a head is read from its own bytes alone.
-- Assumes nothing.
use Prim.Native.Nat.{ℕ, zero, suc, ◌+◌, ◌-◌, ◌*◌, ◌/◌, ◌≤◌, ◌<◌}
use native.Mathlib.Omega.{arith}
use mathlib.Core.Logic.{◌⊎◌, inl, inr}
use mathlib.Core.Path.{◌≡◌, refl, sym, ap, ◌∙◌}
use mathlib.Core.Bool.{Bool, true, false, ◌&&◌, not, and-true, and-false}
use mathlib.Core.List.{List, [], ◌∷◌, ◌++◌}
use lib.Dec.{eqb, ltb}
use lib.ListN.{length, take, length-append, get_or-append}
use lib.Seq.{get_or-take, length-take-le}
use borrow.Author.Tests.{le-leb, lt-ltb, le-ltb, eqb-true, eqb-false, eq-eqb}
use Rattle.grid.specs.Lists.{member, flat_map}
use Rattle.grid.specs.Grid.{Grid, size}
use Rattle.grid.proofs.ListLaws.{split}
use Rattle.fields.specs.Fields.{Outcome, ok, refused, ◌>>=◌, unless, bit, number, field, step_from, filler, bytes_for, rest_zero}
use Rattle.fields.proofs.OutcomeLaws.{bind_ok, unless-ok, ok-eq}
use Rattle.fields.proofs.ReadLaws.{bind_value}
use Rattle.record.specs.Record.{Puzzle, cell_codes, step_cells, arrow_at, read_record}
use Rattle.record.specs.Problem.{arrow_cells}
use Rattle.record.specs.Valid.{Valid}
use Rattle.record.specs.Head.{arrows_in, read_fields, head_bits, Head, head_of, read_head}
use Rattle.record.proofs.RecordLaws.{record_Valid}
use Rattle.record.proofs.ArrowLaws.{steps_length}
use Rattle.record.proofs.FieldsLaws.{under, arrows_count, end_of, record_fields}
use Rattle.record.proofs.BitLaws.{field_bits, fields_bits}
use Rattle.record.proofs.Accepted.{record_length}

-- one step after another
then_ok : {A B : Type 0} {a : Outcome A} {x : A} (f : A → Outcome B) {b : B} → a ≡ ok x → f x ≡ ok b → (a >>= f) ≡ ok b
then_ok f e h = bind_value f e ∙ h

-- a test that is passed
passed : {b : Bool} → b ≡ true → (n : ℕ) → unless b n ≡ ok 0
unfolding unless
passed e n = rw e refl

-- ---- two files whose bits agree up to `end`

-- the same number
pub number_same : (s t : List ℕ) (a b k : ℕ) → ((i : ℕ) → i < k → bit s (a + i) ≡ bit t (b + i)) → number s a k ≡ number t b k
unfolding number
number_same s t a b zero h = refl
number_same s t a b (suc k) h = rw (number_same s t a b k (λ i l. h i (omega arith)), h k (omega arith)) refl

module _ (s t : List ℕ) (end : ℕ) (agree : (j : ℕ) → j < end → bit s j ≡ bit t j) (room : end ≤ 8 * length t) where
  field_same : (at k : ℕ) {x : ℕ} → at + k ≤ end → field s at k ≡ ok x → field t at k ≡ ok x
  unfolding field
  field_same at k {x} h e =
      rw (le-leb (at + k) (8 * length t) (omega arith), ← number_same s t at at k (λ i l. agree (at + i) (omega arith)))
      (rw (le-leb (at + k) (8 * length s) (field_bits s at k e).1) at e)

  cells_same : (at n : ℕ) {cs : List ℕ} → at + 2 * n ≤ end → cell_codes s at n ≡ ok cs → cell_codes t at n ≡ ok cs
  unfolding cell_codes
  cells_same at zero h e = e
  cells_same at (suc n) h e =
      let a = bind_ok (field s at 2) _ e in
      let b = bind_ok (unless (ltb a.0 3) 2) _ a.2 in
      let c = bind_ok (cell_codes s (at + 2) n) _ b.2 in
      then_ok _ (field_same at 2 (omega arith) a.1) (then_ok _ b.1 (then_ok _ (cells_same (at + 2) n (omega arith) c.1) c.2))

  module _ (g : Grid) where
    steps_same : (u : List ℕ) (i at k : ℕ) {js : List ℕ} → at + 2 * k ≤ end → step_cells s g u i at k ≡ ok js → step_cells t g u i at k ≡ ok js
    unfolding step_cells
    steps_same u i at zero h e = e
    steps_same u i at (suc k) h e =
        let a = bind_ok (field s at 2) _ e in
        let b = bind_ok (step_from g i a.0) _ a.2 in
        let c = bind_ok (unless (not (member b.0 u)) 4) _ b.2 in
        let d = bind_ok (step_cells s g (b.0 ∷ u) b.0 (at + 2) k) _ c.2 in
        then_ok _ (field_same at 2 (omega arith) a.1) (then_ok _ b.1 (then_ok _ c.1 (then_ok _ (steps_same (b.0 ∷ u) b.0 (at + 2) k (omega arith) d.1) d.2)))

    arrow_same : (u : List ℕ) (at : ℕ) {a : List ℕ} → at + 18 + 2 * length a ≤ end → arrow_at s g u at ≡ ok a → arrow_at t g u at ≡ ok a
    unfolding arrow_at
    arrow_same u at q e =
        let a = bind_ok (field s at 5) _ e in
        let b = bind_ok (field s (at + 5) 5) _ a.2 in
        let c = bind_ok (field s (at + 10) 10) _ b.2 in
        let d = bind_ok (unless (ltb a.0 g.height && ltb b.0 g.width) 3) _ c.2 in
        let f = bind_ok (unless (not (member (a.0 * g.width + b.0) u)) 4) _ d.2 in
        let h = bind_ok (step_cells s g ((a.0 * g.width + b.0) ∷ u) (a.0 * g.width + b.0) (at + 20) c.0) _ f.2 in
        let r = steps_length s g ((a.0 * g.width + b.0) ∷ u) (a.0 * g.width + b.0) (at + 20) c.0 h.1 in
        let n = ap length (ok-eq h.2) in
        let x = field_same at 5 (omega arith) a.1 in
        let y = field_same (at + 5) 5 (omega arith) b.1 in
        let z = field_same (at + 10) 10 (omega arith) c.1 in
        let w = steps_same ((a.0 * g.width + b.0) ∷ u) (a.0 * g.width + b.0) (at + 20) c.0 (omega arith) h.1 in
        then_ok _ x (then_ok _ y (then_ok _ z (then_ok _ d.1 (then_ok _ f.1 (then_ok _ w h.2)))))

    arrows_same : (u : List ℕ) (at m : ℕ) {l : List (List ℕ)} → end_of at m l ≤ end → arrows_in s g u at m ≡ ok l → arrows_in t g u at m ≡ ok l
    unfolding arrows_in end_of arrow_cells
    arrows_same u at zero h e = e
    arrows_same u at (suc m) h e =
        let a = bind_ok (arrow_at s g u at) _ e in
        let b = bind_ok (arrows_in s g (a.0 ++ u) (at + 18 + 2 * length a.0) m) _ a.2 in
        let n = ap (λ (x : List (List ℕ)). length (flat_map (λ y. y) x)) (ok-eq b.2) in
        let q = length-append a.0 (flat_map (λ y. y) b.0) in
        then_ok _ (arrow_same u at (omega arith) a.1) (then_ok _ (arrows_same (a.0 ++ u) (at + 18 + 2 * length a.0) m (omega arith) b.1) b.2)

  -- the fields are the same where the bits agree up to their end
  fields_same : {p : Puzzle} → head_bits p ≤ end → read_fields s ≡ ok p → read_fields t ≡ ok p
  unfolding read_fields
  fields_same {p} q e =
      let a = bind_ok (field s 0 5) _ e in
      let b = bind_ok (field s 5 5) _ a.2 in
      let c = bind_ok (field s 10 11) _ b.2 in
      let g : Grid = record { height = a.0 + 1; width = b.0 + 1 } in
      let d = bind_ok (cell_codes s 21 (size g)) _ c.2 in
      let f = bind_ok (arrows_in s g [] (21 + 2 * size g) c.0) _ d.2 in
      let n = arrows_count s g [] (21 + 2 * size g) c.0 f.1 in
      let m : head_bits p ≡ end_of (21 + 2 * size g) c.0 f.0 = ap head_bits (sym (ok-eq f.2)) ∙ (unfold head_bits end_of in omega arith) in
      let w : 21 + 2 * size g ≤ end_of (21 + 2 * size g) c.0 f.0 = unfold end_of in omega arith in
      then_ok _ (field_same 0 5 (omega arith) a.1) (then_ok _ (field_same 5 5 (omega arith) b.1) (then_ok _ (field_same 10 11 (omega arith) c.1)
      (then_ok _ (cells_same 21 (size g) (omega arith) d.1) (then_ok _ (arrows_same g [] (21 + 2 * size g) c.0 (omega arith) f.1) f.2))))

-- ---- the head

-- whole bytes hold the bits, and the last is needed
pub bytes_for_lem : (n : ℕ) → (n ≤ 8 * bytes_for n) × (8 * bytes_for n < n + 8)
unfolding bytes_for
bytes_for_lem n = omega arith

-- the fields of a head, and the zero bits behind them
head_fields : (s : List ℕ) {h : Head} → read_head s ≡ ok h → (p : Puzzle) × (read_fields s ≡ ok p) × (rest_zero s (head_bits p) ≡ true) × (head_of p ≡ h)
unfolding read_head
head_fields s e =
    let a = bind_ok (read_fields s) _ e in
    let b = bind_ok (unless (rest_zero s (head_bits a.0)) 5) _ a.2 in
    (a.0, a.1, unless-ok (rest_zero s (head_bits a.0)) 5 b.1, ok-eq b.2)

-- how many bytes the record of a head takes
pub head_bytes : (s : List ℕ) {h : Head} → read_head s ≡ ok h → h.bytes ≡ bytes_for (head_bits h.puzzle)
head_bytes s e = rw (← (head_fields s e).3) (unfold head_of in refl)

-- a head lies within its file
pub head_room : (s : List ℕ) {h : Head} → read_head s ≡ ok h → h.bytes ≤ length s
head_room s e =
    let a = head_fields s e in
    let r = (fields_bits s a.1).1 in
    rw (← a.3) (unfold head_of in omega (arith, bytes_for_lem (head_bits a.0)))

rest_same : (s t : List ℕ) (n : ℕ) → ((j : ℕ) → j < 8 * bytes_for n → bit s j ≡ bit t j) → rest_zero s n ≡ rest_zero t n
unfolding rest_zero
rest_same s t n agree = ap (λ (x : ℕ). eqb x 0) (number_same s t n n (bytes_for n * 8 - n) (λ i l. agree (n + i) (omega arith)))

-- a head is read from its own bytes alone
pub head_same : (s t : List ℕ) {h : Head} → read_head s ≡ ok h → h.bytes ≤ length t → ((j : ℕ) → j < 8 * h.bytes → bit s j ≡ bit t j) → read_head t ≡ ok h
unfolding read_head
head_same s t {h} e room agree =
    let a = head_fields s e in
    let b : h.bytes ≡ bytes_for (head_bits a.0) = ap (λ (x : Head). x.bytes) (sym a.3) ∙ (unfold head_of in refl) in
    let n = bytes_for_lem (head_bits a.0) in
    let z : rest_zero t (head_bits a.0) ≡ true = rest_same t s (head_bits a.0) (λ j l. sym (agree j (omega arith))) ∙ a.2 in
    then_ok _ (fields_same s t (8 * h.bytes) agree (omega arith) (omega arith) a.1) (then_ok _ (passed z 5) (ap {B = Outcome Head} ok a.3))

-- ---- the head and the record

-- the two fillers: where the file ends with the last byte of the record they are one test, and else the record is refused
whole_filler : (s : List ℕ) (n : ℕ) → n ≤ 8 * length s → filler s n ≡ (rest_zero s n && eqb (bytes_for n) (length s))
unfolding filler rest_zero
whole_filler s n h = go (split (eqb (bytes_for n) (length s)))
  where
    Goal : Type 0
    Goal = (ltb (8 * length s - n) 8 && eqb (number s n (8 * length s - n)) 0) ≡ (eqb (number s n (bytes_for n * 8 - n)) 0 && eqb (bytes_for n) (length s))

    go : (eqb (bytes_for n) (length s) ≡ true) ⊎ (eqb (bytes_for n) (length s) ≡ false) → Goal
    go (inl t) =
        let q : bytes_for n ≡ length s = eqb-true (bytes_for n) (length s) t in
        let m : bytes_for n * 8 ≡ 8 * length s = omega arith in
        rw (t, lt-ltb (8 * length s - n) 8 (omega (arith, bytes_for_lem n)), m) (sym (and-true (eqb (number s n (8 * length s - n)) 0)))
    go (inr f) =
        let q : bytes_for n ≡ length s → ⊥ = eqb-false (bytes_for n) (length s) f in
        let l : 8 ≤ 8 * length s - n = omega (arith, bytes_for_lem n) in
        rw (f, le-ltb (8 * length s - n) 8 l) (sym (and-false (eqb (number s n (bytes_for n * 8 - n)) 0)))

-- a record is a head that is the whole file; a head with more behind it is a record's fault 5
pub record_head : (s : List ℕ) → read_record s ≡ (read_head s >>= λ h. unless (eqb h.bytes (length s)) 5 >>= λ _. ok h.puzzle)
unfolding read_head
record_head s = record_fields s ∙ under (read_fields s) _ _ _ (λ p e. ap (λ (b : Bool). unless b 5 >>= λ _. ok p) (whole_filler s (head_bits p) (fields_bits s e).1) ∙ both (rest_zero s (head_bits p)) p)
  where
    both : (z : Bool) (p : Puzzle) → (unless (z && eqb (bytes_for (head_bits p)) (length s)) 5 >>= λ _. ok p)
        ≡ ((unless z 5 >>= λ _. ok (head_of p)) >>= λ h. unless (eqb h.bytes (length s)) 5 >>= λ _. ok h.puzzle)
    both true p = unfold unless ◌>>=◌ head_of in refl
    both false p = unfold unless ◌>>=◌ in refl

module _ (s : List ℕ) where
  -- bits of the first n bytes
  bit-take : (n k : ℕ) → k < 8 * n → bit (take n s) k ≡ bit s k
  unfolding bit
  bit-take n k l = rw (get_or-take n s (k / 8) 0 (omega arith)) refl

  -- bits of a file and of more behind it
  bit_more : (t : List ℕ) (k : ℕ) → k < 8 * length s → bit (s ++ t) k ≡ bit s k
  unfolding bit
  bit_more t k l = rw (get_or-append s t 0 (k / 8) (omega arith)) refl

  -- the bytes of a head are a record with the same puzzle
  pub head_prefix : {h : Head} → read_head s ≡ ok h → read_record (take h.bytes s) ≡ ok h.puzzle
  head_prefix {h} e =
      let l = head_room s e in
      let n : length (take h.bytes s) ≡ h.bytes = length-take-le h.bytes s l in
      let r = head_same s (take h.bytes s) e (omega arith) (λ j k. sym (bit-take h.bytes j k)) in
      record_head (take h.bytes s) ∙ then_ok _ r (then_ok _ (passed (eq-eqb h.bytes (length (take h.bytes s)) (sym n)) 5) refl)

  -- a record with more behind it is a head
  pub record_more : (t : List ℕ) {p : Puzzle} → read_record s ≡ ok p → read_head (s ++ t) ≡ ok (record { puzzle = p; bytes = length s })
  record_more t {p} e =
      let a = bind_ok (read_head s) _ (sym (record_head s) ∙ e) in
      let b = bind_ok (unless (eqb a.0.bytes (length s)) 5) _ a.2 in
      let q : a.0.bytes ≡ length s = eqb-true a.0.bytes (length s) (unless-ok _ 5 b.1) in
      let w : a.0 ≡ record { puzzle = p; bytes = length s } = head_is a.0 (ok-eq b.2) q in
      head_same s (s ++ t) a.1 (omega (arith, length-append s t)) (λ j k. sym (bit_more t j (omega arith))) ∙ ap {B = Outcome Head} ok w
    where
      head_is : (h : Head) {p : Puzzle} {n : ℕ} → h.puzzle ≡ p → h.bytes ≡ n → h ≡ record { puzzle = p; bytes = n }
      head_is h e f = rw (← e, ← f) refl

  -- a fault of the head is the record's
  pub head_fault : {k : ℕ} → read_head s ≡ refused k → read_record s ≡ refused k
  unfolding ◌>>=◌
  head_fault e = record_head s ∙ rw e refl

  -- the record's first fault is the head's, but for more behind a record that is accepted
  pub record_fault : {k : ℕ} → read_record s ≡ refused k → (read_head s ≡ refused k) ⊎ ((k ≡ 5) × (h : Head) × (read_head s ≡ ok h) × (h.bytes < length s))
  record_fault {k} e = go (read_head s) refl (sym (record_head s) ∙ e)
    where
      Goal : Type 0
      Goal = (read_head s ≡ refused k) ⊎ ((k ≡ 5) × (h : Head) × (read_head s ≡ ok h) × (h.bytes < length s))

      more : (h : Head) → read_head s ≡ ok h → (b : Bool) → eqb h.bytes (length s) ≡ b → (unless b 5 >>= λ _. ok h.puzzle) ≡ refused k → Goal
      more h q true t r = let r' : ok h.puzzle ≡ refused k = unfold unless ◌>>=◌ in r in let z : ◌≡◌ {A = ℕ} 0 1 = cc in absurd (omega arith)
      more h q false t r =
          let r' : ◌≡◌ {A = Outcome Puzzle} (refused 5) (refused k) = unfold unless ◌>>=◌ in r in
          inr ((cc), h, q, omega (arith, head_room s q, eqb-false h.bytes (length s) t))

      go : (o : Outcome Head) → read_head s ≡ o → (o >>= λ h. unless (eqb h.bytes (length s)) 5 >>= λ _. ok h.puzzle) ≡ refused k → Goal
      go (refused j) q r = let r' : ◌≡◌ {A = Outcome Puzzle} (refused j) (refused k) = unfold ◌>>=◌ in r in let z : j ≡ k = cc in inl (q ∙ ap {B = Outcome Head} refused z)
      go (ok h) q r = more h q (eqb h.bytes (length s)) refl (unfold ◌>>=◌ in r)

-- the puzzle of a head is within the limits, and its record takes at most 2,819 bytes
module _ (s : List ℕ) {h : Head} (e : read_head s ≡ ok h) where
  pub head_Valid : Valid h.puzzle
  head_Valid = record_Valid (take h.bytes s) (head_prefix s e)

  pub head_length : h.bytes ≤ 2819
  head_length = omega (arith, length-take-le h.bytes s (head_room s e), record_length (take h.bytes s) (head_prefix s e))
