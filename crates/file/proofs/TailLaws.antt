-- The tail of a file: what its test means, what is read of it and what is written; and that grade and test are read without the solution.
-- Assumes nothing.
use Prim.Native.Nat.{ℕ, zero, suc, ◌+◌, ◌-◌, ◌*◌, ◌/◌, ◌%◌, ◌≤◌, ◌<◌}
use native.Mathlib.Nat.{add-zero}
use native.Mathlib.Numerals.{add-one}
use native.Mathlib.Omega.{arith}
use mathlib.Core.Logic.{◌↔◌}
use mathlib.Core.Path.{◌≡◌, refl, sym, ap, ◌∙◌}
use mathlib.Core.Bool.{Bool, true, false}
use mathlib.Core.List.{List, [], ◌∷◌, ◌++◌, map-append}
use lib.Dec.{eqb, leb, ltb}
use lib.ListN.{length, get_or, drop, length-append, length-drop, drop_of_length-le}
use lib.Seq.{get_or-drop, ext_get_or, get_or-append-add}
use borrow.Author.Tests.{leb-true, le-leb, lt-leb, lt-ltb, eqb-true, eq-eqb}
use Rattle.std.specs.Int.{div_ceil}
use Rattle.std.proofs.lemmas.Grind.{div_ceil_times}
use Rattle.std.proofs.lemmas.Bool.{and_from}
use Rattle.grid.specs.Lists.{upto, range}
use Rattle.grid.proofs.ListLaws.{and-true, length-map-upto, map-upto_at}
use Rattle.grid.proofs.AppendLaws.{upto_more}
use Rattle.fields.specs.Fields.{ok, bit, number, field, filler, bytes_for}
use Rattle.record.specs.Record.{Bytes}
use Rattle.record.specs.Write.{bits_of, value_of, pack}
use Rattle.record.proofs.PackLaws.{Bits, length-pack, pack-number, length-bits_of, value_bits_of, value_nil, Bits-append, Bits-bits_of}
use Rattle.record.proofs.BitLaws as bits
use Rattle.record.proofs.BitLaws.{bits_at, field_bits}
use Rattle.record.proofs.Accepted.{bytes_needed, pack_again, Bytes-at, zeros}
use Rattle.record.proofs.HeadLaws.{number_same, bytes_for_lem}
use Rattle.file.specs.File.{Tail, tail_test, grade_in, solution_in, write_tail}

-- ---- bits behind the first n bytes

module _ (s : List ℕ) (n : ℕ) where
  pub bit-drop : (k : ℕ) → bit (drop n s) k ≡ bit s (8 * n + k)
  unfolding bit
  bit-drop k =
      let d : (8 * n + k) / 8 ≡ n + k / 8 = omega arith in
      let r : (8 * n + k) % 8 ≡ k % 8 = omega arith in
      rw (d, r, get_or-drop n s (k / 8) 0) refl

  pub number-drop : (at k : ℕ) → number (drop n s) at k ≡ number s (8 * n + at) k
  number-drop at k = number_same (drop n s) s at (8 * n + at) k (λ i l. bit-drop (at + i) ∙ ap (bit s) (omega arith))

  -- the test of a tail looks at the file from its first bit on, which takes k bytes
  module _ (m : ℕ) {k : ℕ} (e : k ≡ div_ceil (8 * n + 3 + m) 8) where
    needed : (8 * n + 3 + m ≤ k * 8) × (k * 8 < 8 * n + 3 + m + 8)
    needed = rw e (div_ceil_times (8 * n + 3 + m) 8 (omega arith))

    pub tail_short : length s < k → false ≡ tail_test (drop n s) m
    unfolding tail_test
    tail_short h =
        let l : 8 * length (drop n s) < 3 + m = omega (arith, length-drop n s, needed) in
        rw (lt-leb (3 + m) (8 * length (drop n s)) l) refl

    pub tail_long : (r : Bool) → k ≤ length s → r ≡ filler s (8 * n + 3 + m) → r ≡ tail_test (drop n s) m
    unfolding tail_test filler
    tail_long r h f =
        let d = length-drop n s in
        let l : 3 + m ≤ 8 * length (drop n s) = omega (arith, needed) in
        let q : 8 * length (drop n s) - (3 + m) ≡ 8 * length s - (8 * n + 3 + m) = omega (arith, needed) in
        let p : 8 * n + (3 + m) ≡ 8 * n + 3 + m = omega arith in
        rw (le-leb (3 + m) (8 * length (drop n s)) l, q, number-drop (3 + m) (8 * length s - (8 * n + 3 + m)), p) f

-- ---- what the test means

-- zero bits make the number 0
number_zero : (s : List ℕ) (at k : ℕ) → ((i : ℕ) → i < k → bit s (at + i) ≡ 0) → number s at k ≡ 0
unfolding number
number_zero s at zero h = refl
number_zero s at (suc k) h = omega (arith, number_zero s at k (λ i l. h i (omega arith)), h k (omega arith))

module _ (t : List ℕ) (n : ℕ) where
  tests : tail_test t n ≡ true → (3 + n ≤ 8 * length t) × (filler t (3 + n) ≡ true)
  tests e =
      let a = and-true (leb (3 + n) (8 * length t)) (filler t (3 + n)) (unfold tail_test in e) in
      (leb-true (3 + n) (8 * length t) a.0, a.1)

  -- it holds grade and solution
  pub tail_room : tail_test t n ≡ true → 3 + n ≤ 8 * length t
  tail_room e = (tests e).0

  test_Tail : tail_test t n ≡ true → Tail t n
  test_Tail e =
      let a = tests e in
      let f = and-true (ltb (8 * length t - (3 + n)) 8) (eqb (number t (3 + n) (8 * length t - (3 + n))) 0) (unfold filler in a.1) in
      let z = eqb-true (number t (3 + n) (8 * length t - (3 + n))) 0 f.1 in
      record {
        long = sym (unfold bytes_for in bytes_needed t (3 + n) a.0 a.1);
        zeros = λ k h l. let q : 3 + n + (k - (3 + n)) ≡ k = omega arith in ap (bit t) (sym q) ∙ zeros t (3 + n) (8 * length t - (3 + n)) z (k - (3 + n)) (omega arith);
      }

  tail_test_lem : Tail t n → tail_test t n ≡ true
  unfolding tail_test filler
  tail_test_lem w =
      let b = bytes_for_lem (3 + n) in
      let m = w.long in
      let z = number_zero t (3 + n) (8 * length t - (3 + n)) (λ i l. w.zeros (3 + n + i) (omega arith) (omega arith)) in
      and_from _ _ (le-leb (3 + n) (8 * length t) (omega arith))
      (and_from _ _ (lt-ltb (8 * length t - (3 + n)) 8 (omega arith)) (eq-eqb (number t (3 + n) (8 * length t - (3 + n))) 0 z))

  -- the test passes exactly where the tail is neither too short nor too long, with zero filler
  pub Tail-means : (tail_test t n ≡ true) ↔ Tail t n
  Tail-means = (test_Tail, tail_test_lem)

-- ---- what is read without the solution

-- the test looks at the length and at the bits behind the solution
pub test_same : (a b : List ℕ) (n : ℕ) → length a ≡ length b → ((k : ℕ) → 3 + n ≤ k → k < 8 * length a → bit a k ≡ bit b k) → tail_test a n ≡ tail_test b n
unfolding tail_test filler
test_same a b n long h = rw (← long, number_same a b (3 + n) (3 + n) (8 * length a - (3 + n)) (λ i l. h (3 + n + i) (omega arith) (omega arith))) refl

pub grade_same : (a b : List ℕ) → ((k : ℕ) → k < 3 → bit a k ≡ bit b k) → grade_in a ≡ grade_in b
unfolding grade_in
grade_same a b h = number_same a b 0 0 3 (λ i l. h (0 + i) (omega arith))

-- bytes with the same bits are the same
bits_same : (s t : List ℕ) (k : ℕ) → ((i : ℕ) → i < k → bit s (0 + i) ≡ bit t (0 + i)) → bits_at s 0 k ≡ bits_at t 0 k
unfolding bits_at
bits_same s t zero h = refl
bits_same s t (suc k) h = rw (bits_same s t k (λ i l. h i (omega arith)), h k (omega arith)) refl

no_filler : (s : List ℕ) → filler s (8 * length s) ≡ true
unfolding filler number
no_filler s = let z : 8 * length s - 8 * length s ≡ 0 = omega arith in rw z refl

pub Bytes-same : (s t : List ℕ) → Bytes s → Bytes t → length s ≡ length t → ((k : ℕ) → k < 8 * length s → bit s k ≡ bit t k) → s ≡ t
Bytes-same s t bs bt n h =
    let a = pack_again s (8 * length s) (omega arith) (no_filler s) (Bytes-at s bs) in
    let b = pack_again t (8 * length t) (omega arith) (no_filler t) (Bytes-at t bt) in
    let c : bits_at s 0 (8 * length s) ≡ bits_at t 0 (8 * length s) = bits_same s t (8 * length s) (λ i l. h (0 + i) (omega arith)) in
    sym a ∙ ap (pack (length s)) c ∙ ap (λ (k : ℕ). pack k (bits_at t 0 (8 * k))) n ∙ b

-- ---- the solution

pub solution_length : (t : List ℕ) (n : ℕ) → length (solution_in t n) ≡ n
unfolding solution_in
solution_length t n = length-map-upto (λ i. bit t (3 + i)) n

solution_at : (t : List ℕ) (n i : ℕ) → i < n → get_or (solution_in t n) i 0 ≡ bit t (3 + i)
unfolding solution_in
solution_at t n i l = map-upto_at (λ i. bit t (3 + i)) n i 0 l

-- a bit as a number of one bit
bit-number : (s : List ℕ) (k : ℕ) → bit s k ≡ number s k 1
unfolding number
bit-number s k = rw (add-zero k) (omega arith)

-- the bit of a cell, read from the file's first bit on
pub cell_bit : (s : List ℕ) (n i : ℕ) → number s (8 * n + 3 + i) 1 ≡ bit (drop n s) (3 + i)
cell_bit s n i = let p : 8 * n + 3 + i ≡ 8 * n + (3 + i) = omega arith in ap (λ (k : ℕ). number s k 1) p ∙ sym (bit-number s (8 * n + (3 + i))) ∙ sym (bit-drop s n (3 + i))

-- ---- written and read

value_one : (b : List ℕ) (k : ℕ) → value_of 1 (drop k b) ≡ get_or b k 0
unfolding value_of
value_one b k = rw (get_or-drop k b 0 0, add-zero k) (omega arith)

module _ (grade : ℕ) (solution : List ℕ) (small : grade < 8) (each : Bits solution) where
  m : ℕ
  m = bytes_for (3 + length solution)

  b : List ℕ
  b = bits_of grade 3 ++ solution

  b_Bits : Bits b
  unfolding b
  b_Bits = Bits-append (bits_of grade 3) solution (Bits-bits_of grade 3) each

  b_length : length b ≡ 3 + length solution
  unfolding b
  b_length = length-append (bits_of grade 3) solution ∙ omega (arith, length-bits_of grade 3)

  t_length : length (write_tail grade solution) ≡ m
  unfolding write_tail b m
  t_length = length-pack (bytes_for (3 + length solution)) (bits_of grade 3 ++ solution)

  t_number : (at k : ℕ) → at + k ≤ 8 * m → number (write_tail grade solution) at k ≡ value_of k (drop at b)
  unfolding write_tail b m
  t_number at k l = pack-number (bytes_for (3 + length solution)) (bits_of grade 3 ++ solution) b_Bits at k l

  m_room : (3 + length solution ≤ 8 * m) × (8 * m < 3 + length solution + 8)
  unfolding m
  m_room = bytes_for_lem (3 + length solution)

  pub wrote_test : tail_test (write_tail grade solution) (length solution) ≡ true
  unfolding tail_test filler
  wrote_test =
      let r = m_room in
      let z : drop (3 + length solution) b ≡ [] = drop_of_length-le b {i = 3 + length solution} (omega (arith, b_length)) in
      rw (
        t_length,
        le-leb (3 + length solution) (8 * m) r.0,
        lt-ltb (8 * m - (3 + length solution)) 8 (omega arith),
        t_number (3 + length solution) (8 * m - (3 + length solution)) (omega arith),
        z,
        value_nil (8 * m - (3 + length solution)),
      )
      refl

  pub wrote_grade : grade_in (write_tail grade solution) ≡ grade
  unfolding grade_in
  wrote_grade = t_number 0 3 (omega (arith, m_room)) ∙ (unfold b in value_bits_of 3 grade solution small)

  pub wrote_solution : solution_in (write_tail grade solution) (length solution) ≡ solution
  wrote_solution = ext_get_or 0 (solution_in (write_tail grade solution) (length solution)) solution (solution_length (write_tail grade solution) (length solution)) at
    where
      behind : (i : ℕ) → get_or b (3 + i) 0 ≡ get_or solution i 0
      behind i = unfold b in (ap (λ (k : ℕ). get_or (bits_of grade 3 ++ solution) (k + i) 0) (sym (length-bits_of grade 3)) ∙ get_or-append-add (bits_of grade 3) solution i 0)

      at : (i : ℕ) → i < length (solution_in (write_tail grade solution) (length solution)) → get_or (solution_in (write_tail grade solution) (length solution)) i 0 ≡ get_or solution i 0
      at i l =
          let l' : i < length solution = omega (arith, solution_length (write_tail grade solution) (length solution)) in
          solution_at (write_tail grade solution) (length solution) i l'
          ∙ bit-number (write_tail grade solution) (3 + i) ∙ t_number (3 + i) 1 (omega (arith, m_room)) ∙ value_one b (3 + i) ∙ behind i

-- ---- read and written

no_solution : (t : List ℕ) → solution_in t 0 ≡ []
unfolding solution_in upto range
no_solution t = refl

solution_bits : (t : List ℕ) (n : ℕ) → bits_at t 3 n ≡ solution_in t n
unfolding bits_at solution_in
solution_bits t zero = sym (no_solution t)
solution_bits t (suc n) = rw (solution_bits t n, ← add-one n, upto_more n, map-append (λ i. bit t (3 + i)) (upto n) (n ∷ [])) refl

-- the grade is there
grade_field : (t : List ℕ) → 3 ≤ 8 * length t → field t 0 3 ≡ ok (number t 0 3)
unfolding field
grade_field t room = rw (le-leb (0 + 3) (8 * length t) (omega arith)) refl

-- the tail that is written for what is read is the one that was read
pub tail_again : (t : List ℕ) (n : ℕ) → tail_test t n ≡ true → Bytes t → write_tail (grade_in t) (solution_in t n) ≡ t
unfolding write_tail grade_in
tail_again t n e bt =
    let a = tests t n e in
    let q : bytes_for (3 + n) ≡ length t = unfold bytes_for in bytes_needed t (3 + n) a.0 a.1 in
    let f : field t 0 3 ≡ ok (number t 0 3) = grade_field t (omega arith) in
    let w : bits_at t 0 (3 + n) ≡ bits_at t 0 3 ++ bits_at t 3 n = bits.bits_append t 0 3 n in
    rw (solution_length t n, q, (field_bits t 0 3 f).0, ← solution_bits t n, ← w) (pack_again t (3 + n) a.0 a.1 (Bytes-at t bt))
