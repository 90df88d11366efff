-- What holds of every accepted record: it is the one that is written for its puzzle, it has at most 2,819 bytes,
-- and its arrows are made of distinct cells whose neighbours share a side.
-- Assumes nothing.
use Prim.Native.Nat.{ℕ, zero, suc, ◌+◌, ◌-◌, ◌*◌, ◌/◌, ◌%◌, ◌≤◌, ◌<◌}
use native.Mathlib.Omega.{arith}
use mathlib.Core.Logic.{◌⊎◌, inl, inr, ◌↔◌}
use mathlib.Core.Path.{◌≡◌, refl, sym, ap, ◌∙◌}
use mathlib.Core.Bool.{true, false}
use mathlib.Core.List.{List, [], ◌∷◌, ◌++◌}
use lib.Dec.{eqb, ltb}
use lib.ListN.{length, get_or, drop, get_or-append, get_or-eq_default}
use lib.Seq.{ext_get_or, get_or-drop, get_or_at}
use borrow.Author.Tests.{ltb-true, ltb-false, eqb-true}
use Rattle.grid.specs.Lists.{Distinct}
use Rattle.grid.proofs.ListLaws.{split, and-true, at_mem}
use Rattle.grid.specs.Grid.{size}
use Rattle.fields.specs.Fields.{ok, bit, number, filler}
use Rattle.record.specs.Record.{Puzzle, read_record, Bytes}
use Rattle.record.specs.Write.{value_of, pack, record_bits, write_record}
use Rattle.record.specs.Valid.{Valid, ValidArrows}
use Rattle.record.specs.Problem.{arrow_cells}
use Rattle.record.specs.Head.{head_bits}
use Rattle.record.proofs.RecordLaws.{record_Valid, Valid-size}
use Rattle.record.proofs.FreshLaws.{Arrows-Fresh, arrows_length, Fresh-Distinct}
use Rattle.record.proofs.LineLaws.{valid_arrows}
use Rattle.record.proofs.PackLaws.{pack_byte, length-pack}
use Rattle.record.proofs.WriteLaws.{few_Arrows, round_trip, written_Bytes}
use Rattle.fields.proofs.FieldLaws.{window, window-number}
use Rattle.record.proofs.BitLaws.{bits_at, length-bits_at, record_bits_lem}

module _ (s : List ℕ) where
  -- the bits from at, by position
  bits_in : (at k i : ℕ) → i < k → get_or (bits_at s at k) i 0 ≡ bit s (at + i)
  unfolding bits_at
  bits_in at zero i h = absurd (omega arith)
  bits_in at (suc k) i h = go (split (ltb i k)) (λ (l : i < k). bits_in at k i l)
    where
      go : (ltb i k ≡ true) ⊎ (ltb i k ≡ false) → (i < k → get_or (bits_at s at k) i 0 ≡ bit s (at + i)) → get_or (bits_at s at k ++ (bit s (at + k) ∷ [])) i 0 ≡ bit s (at + i)
      go (inl t) ih =
          let l : i < k = ltb-true i k t in
          get_or-append (bits_at s at k) (bit s (at + k) ∷ []) 0 i (omega (arith, length-bits_at s at k)) ∙ ih l
      go (inr f) ih =
          let q : i ≡ k = omega (arith, ltb-false i k f) in
          rw q (get_or_at (bits_at s at k) (bit s (at + k)) [] 0 k (length-bits_at s at k))

  -- the bits of the number 0 are zero
  pub zeros : (at k : ℕ) → number s at k ≡ 0 → (i : ℕ) → i < k → bit s (at + i) ≡ 0
  unfolding number
  zeros at zero e i h = absurd (omega arith)
  zeros at (suc k) e i h = go (split (ltb i k)) (zeros at k (omega arith))
    where
      go : (ltb i k ≡ true) ⊎ (ltb i k ≡ false) → ((j : ℕ) → j < k → bit s (at + j) ≡ 0) → bit s (at + i) ≡ 0
      go (inl t) ih = ih i (ltb-true i k t)
      go (inr f) ih =
          let q : i ≡ k = omega (arith, ltb-false i k f) in
          rw q (omega arith)

  -- a byte is the number of its bits
  byte_number : ((k : ℕ) → get_or s k 0 < 256) → (q : ℕ) → number s (8 * q) 8 ≡ get_or s q 0
  byte_number bytes q =
      let d : 8 * q / 8 ≡ q = omega arith in
      let r : 8 * q % 8 ≡ 0 = omega arith in
      sym (window-number s bytes (8 * q) 8 (omega arith)) ∙ rw (d, r) (first_byte (bytes q) (bytes (q + 1)) (bytes (q + 2)))
    where
      first_byte : get_or s q 0 < 256 → get_or s (q + 1) 0 < 256 → get_or s (q + 2) 0 < 256 → window s q / 65536 % 256 ≡ get_or s q 0
      first_byte a b c = omega arith

  -- bits that agree make the same number
  value_number : (b : List ℕ) (at k : ℕ) → ((i : ℕ) → i < k → get_or b i 0 ≡ bit s (at + i)) → value_of k b ≡ number s at k
  unfolding value_of number
  value_number b at zero h = refl
  value_number b at (suc k) h = rw (value_number b at k (λ i l. h i (omega arith)), h k (omega arith)) refl

  -- n bits and the filler behind them are the whole record
  module _ (n : ℕ) (room : n ≤ 8 * length s) (fill : filler s n ≡ true) where
    few : 8 * length s - n < 8
    few = ltb-true (8 * length s - n) 8 (and-true (ltb (8 * length s - n) 8) (eqb (number s n (8 * length s - n)) 0) (unfold filler in fill)).0

    none : number s n (8 * length s - n) ≡ 0
    none = eqb-true (number s n (8 * length s - n)) 0 (and-true (ltb (8 * length s - n) 8) (eqb (number s n (8 * length s - n)) 0) (unfold filler in fill)).1

    -- as many bytes as the bits need
    pub bytes_needed : (n + 7) / 8 ≡ length s
    bytes_needed = omega (arith, few)

    agree : (k : ℕ) → k < 8 * length s → get_or (bits_at s 0 n) k 0 ≡ bit s k
    agree k h = go (split (ltb k n))
      where
        go : (ltb k n ≡ true) ⊎ (ltb k n ≡ false) → get_or (bits_at s 0 n) k 0 ≡ bit s k
        go (inl t) = bits_in 0 n k (ltb-true k n t) ∙ ap (bit s) (omega arith)
        go (inr f) =
            let l : n ≤ k = ltb-false k n f in
            let q : n + (k - n) ≡ k = omega arith in
            get_or-eq_default (bits_at s 0 n) 0 (omega (arith, length-bits_at s 0 n)) ∙ sym (zeros n (8 * length s - n) none (k - n) (omega arith)) ∙ ap (bit s) q

    pub pack_again : ((k : ℕ) → get_or s k 0 < 256) → pack (length s) (bits_at s 0 n) ≡ s
    pack_again bytes = ext_get_or 0 (pack (length s) (bits_at s 0 n)) s (length-pack (length s) (bits_at s 0 n)) (λ q h. byte q (omega (arith, length-pack (length s) (bits_at s 0 n))))
      where
        byte : (q : ℕ) → q < length s → get_or (pack (length s) (bits_at s 0 n)) q 0 ≡ get_or s q 0
        byte q h =
            pack_byte (length s) (bits_at s 0 n) q h
            ∙ value_number (drop (8 * q) (bits_at s 0 n)) (8 * q) 8 (λ i l. get_or-drop (8 * q) (bits_at s 0 n) i 0 ∙ agree (8 * q + i) (omega arith))
            ∙ byte_number bytes q

-- every byte of a list of bytes, and the 0 behind it
pub Bytes-at : (s : List ℕ) → Bytes s → (k : ℕ) → get_or s k 0 < 256
Bytes-at s h k = go (split (ltb k (length s)))
  where
    go : (ltb k (length s) ≡ true) ⊎ (ltb k (length s) ≡ false) → get_or s k 0 < 256
    go (inl t) = h (get_or s k 0) (at_mem s k (ltb-true k (length s) t))
    go (inr f) = rw (get_or-eq_default s 0 (ltb-false k (length s) f)) (omega arith)

module _ (s : List ℕ) {p : Puzzle} (e : read_record s ≡ ok p) where
  -- an accepted record is the one that is written for its puzzle: there is no other
  pub write_read : Bytes s → write_record p ≡ s
  unfolding write_record
  write_read h =
      let r = record_bits_lem s e in
      let n : length (record_bits p) ≡ head_bits p = ap length r.0 ∙ length-bits_at s 0 (head_bits p) in
      rw (n, r.0, bytes_needed s (head_bits p) r.1 r.2) (pack_again s (head_bits p) r.1 r.2 (Bytes-at s h))

  -- an accepted record has at most 2,819 bytes
  pub record_length : length s ≤ 2819
  record_length =
      let r = record_bits_lem s e in
      let v = record_Valid s e in
      let n = bytes_needed s (head_bits p) r.1 r.2 in
      unfold head_bits in omega (arith, n, Valid-size v, many, few)
    where
      many : length p.arrows ≤ length (arrow_cells p.arrows)
      many = unfold arrow_cells in few_Arrows (record_Valid s e).arrows

      few : length (arrow_cells p.arrows) ≤ size p.grid
      few = unfold arrow_cells in arrows_length p (record_Valid s e)

  -- its arrows are made of distinct cells, and neighbours on an arrow share a side
  pub record_arrows : ValidArrows p.grid p.arrows × Distinct (arrow_cells p.arrows)
  record_arrows = (valid_arrows p (record_Valid s e), distinct)
    where
      distinct : Distinct (arrow_cells p.arrows)
      distinct = unfold arrow_cells in Fresh-Distinct (Arrows-Fresh (record_Valid s e).arrows)

-- the puzzles within the limits are exactly those of accepted records
pub Valid-accepted : (p : Puzzle) → Valid p ↔ ((s : List ℕ) × Bytes s × (read_record s ≡ ok p))
Valid-accepted p = (λ v. (write_record p, written_Bytes p, round_trip p v), λ r. record_Valid r.0 r.2)
