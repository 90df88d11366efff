-- The number in a few bits, taken out of three bytes.
-- Assumes nothing.
use Prim.Native.Nat.{ℕ, zero, suc, ◌+◌, ◌-◌, ◌*◌, ◌/◌, ◌%◌, ◌^◌, ◌≤◌, ◌<◌}
use native.Mathlib.Nat.{one-mul, mod-eq_of_lt}
use native.Mathlib.Omega.{arith}
use mathlib.Core.Path.{◌≡◌, refl, sym, ap, ◌∙◌}
use mathlib.Core.List.{List, [], ◌∷◌}
use mathlib.Core.Bool.{true, false}
use lib.Dec.{eqb, ltb}
use native.Mathlib.Numerals.{add-one}
use mathlib.Core.Logic.{◌⊎◌, inl, inr}
use Rattle.std.specs.Int.{w32, from_be_bytes, div_ceil}
use Rattle.std.proofs.lemmas.Grind.{div_ceil_times}
use Rattle.grid.proofs.ListLaws.{split}
use lib.Pow.{pow_mono, shr-shr, mod-pow-add}
use lib.ListN.{length, get_or}
use borrow.Author.Tests.{ltb-true, ltb-false, lt-ltb, le-ltb, le-leb, lt-leb}
use Rattle.fields.specs.Fields.{Outcome, ok, refused, unless, ◌>>=◌, bit, number, field, filler, bytes_for, rest_zero}
use Rattle.fields.specs.Inside.{cell_code}

-- a bit of the last byte of a number
low : (c b m : ℕ) → b < 256 → m < 8 → (c * 256 + b) / 2 ^ m % 2 ≡ b / 2 ^ m % 2
low c b zero h l = omega arith
low c b (suc zero) h l = omega arith
low c b (suc (suc zero)) h l = omega arith
low c b (suc (suc (suc zero))) h l = omega arith
low c b (suc (suc (suc (suc zero)))) h l = omega arith
low c b (suc (suc (suc (suc (suc zero))))) h l = omega arith
low c b (suc (suc (suc (suc (suc (suc zero)))))) h l = omega arith
low c b (suc (suc (suc (suc (suc (suc (suc zero))))))) h l = omega arith
low c b (suc (suc (suc (suc (suc (suc (suc (suc m)))))))) h l = absurd (omega arith)

-- the three bytes from byte q on, as one number
abbrev pub window : List ℕ → ℕ → ℕ
window s q = get_or s q 0 * 65536 + get_or s (q + 1) 0 * 256 + get_or s (q + 2) 0

module _ (s : List ℕ) (bytes : (k : ℕ) → get_or s k 0 < 256) where
  -- bit j of the three bytes, with m = 7 - j % 8
  first_bit : (q m : ℕ) → window s q / 2 ^ (16 + m) % 2 ≡ get_or s q 0 / 2 ^ m % 2
  first_bit q m =
      let b = bytes (q + 1) in
      let c = bytes (q + 2) in
      let e : window s q / 65536 ≡ get_or s q 0 = omega arith in
      sym (ap (λ (x : ℕ). x % 2) (shr-shr (window s q) 16 m)) ∙ ap (λ (x : ℕ). x / 2 ^ m % 2) e

  second_bit : (q m : ℕ) → m < 8 → window s q / 2 ^ (8 + m) % 2 ≡ get_or s (q + 1) 0 / 2 ^ m % 2
  second_bit q m h =
      let b = bytes (q + 1) in
      let c = bytes (q + 2) in
      let e : window s q / 256 ≡ get_or s q 0 * 256 + get_or s (q + 1) 0 = omega arith in
      sym (ap (λ (x : ℕ). x % 2) (shr-shr (window s q) 8 m)) ∙ ap (λ (x : ℕ). x / 2 ^ m % 2) e ∙ low (get_or s q 0) (get_or s (q + 1) 0) m b h

  third_bit : (q m : ℕ) → m < 8 → window s q / 2 ^ m % 2 ≡ get_or s (q + 2) 0 / 2 ^ m % 2
  third_bit q m h =
      let e : window s q ≡ (get_or s q 0 * 256 + get_or s (q + 1) 0) * 256 + get_or s (q + 2) 0 = omega arith in
      ap (λ (x : ℕ). x / 2 ^ m % 2) e ∙ low (get_or s q 0 * 256 + get_or s (q + 1) 0) (get_or s (q + 2) 0) m (bytes (q + 2)) h

  window-bit : (q j e : ℕ) → j + e ≡ 23 → window s q / 2 ^ e % 2 ≡ bit s (8 * q + j)
  unfolding bit
  window-bit q j e h = go (split (ltb e 8)) (split (ltb e 16))
    where
      go : (ltb e 8 ≡ true) ⊎ (ltb e 8 ≡ false) → (ltb e 16 ≡ true) ⊎ (ltb e 16 ≡ false)
          → window s q / 2 ^ e % 2 ≡ get_or s ((8 * q + j) / 8) 0 / 2 ^ (7 - (8 * q + j) % 8) % 2
      go (inl t) u =
          let l : e < 8 = ltb-true e 8 t in
          let d : (8 * q + j) / 8 ≡ q + 2 = omega arith in
          let r : 7 - (8 * q + j) % 8 ≡ e = omega arith in
          rw (d, r) (third_bit q e l)
      go (inr f) (inl t) =
          let l : e < 16 = ltb-true e 16 t in
          let k : 8 ≤ e = ltb-false e 8 f in
          let d : (8 * q + j) / 8 ≡ q + 1 = omega arith in
          let r : 7 - (8 * q + j) % 8 ≡ e - 8 = omega arith in
          let b : e ≡ 8 + (e - 8) = omega arith in
          rw (d, r) (ap (λ (x : ℕ). window s q / 2 ^ x % 2) b ∙ second_bit q (e - 8) (omega arith))
      go (inr f) (inr u) =
          let k : 16 ≤ e = ltb-false e 16 u in
          let d : (8 * q + j) / 8 ≡ q = omega arith in
          let r : 7 - (8 * q + j) % 8 ≡ e - 16 = omega arith in
          let b : e ≡ 16 + (e - 16) = omega arith in
          rw (d, r) (ap (λ (x : ℕ). window s q / 2 ^ x % 2) b ∙ first_bit q (e - 16))

  -- the number in n bits, out of the three bytes that they begin in
  pub window-number : (at n : ℕ) → at % 8 + n ≤ 24 → window s (at / 8) / 2 ^ (24 - at % 8 - n) % 2 ^ n ≡ number s at n
  unfolding number
  window-number at zero h = omega arith
  window-number at (suc n) h =
      let W : ℕ = window s (at / 8) in
      let e : ℕ = 24 - at % 8 - (n + 1) in
      let next : 24 - at % 8 - n ≡ e + 1 = omega arith in
      let place : 8 * (at / 8) + (at % 8 + n) ≡ at + n = omega arith in
      let half : W / 2 ^ e / 2 ^ 1 ≡ W / 2 ^ (24 - at % 8 - n) = rw next (shr-shr W e 1) in
      let last : W / 2 ^ e % 2 ≡ bit s (at + n) = window-bit (at / 8) (at % 8 + n) e (omega arith) ∙ ap (bit s) place in
      let both : W / 2 ^ e % 2 ^ (n + 1) ≡ (W / 2 ^ e / 2 ^ 1 % 2 ^ n) * 2 ^ 1 + W / 2 ^ e % 2 ^ 1 = mod-pow-add (W / 2 ^ e) n 1 in
      let ih : W / 2 ^ (24 - at % 8 - n) % 2 ^ n ≡ number s at n = window-number at n (omega arith) in
      rw (← add-one n) (both ∙ rw (half, ih, last) (omega arith))

-- the code's remainder by a shifted 1
pub one_shifted : (n : ℕ) → n ≤ 16 → 1 * 2 ^ n % 4294967296 ≡ 2 ^ n
one_shifted n h = rw (one-mul (2 ^ n)) (mod-eq_of_lt (omega (arith, pow_mono {i = n} {j = 16} h)))

-- the code's number of bytes for so many bits
pub ceil : (n : ℕ) {k : ℕ} → k ≡ div_ceil n 8 → k ≡ bytes_for n
unfolding bytes_for
ceil n e = omega (arith, e, div_ceil_times n 8 (omega arith))

-- a field that is there, and one that is cut
pub field_there : (s : List ℕ) (at n x : ℕ) {k : ℕ} → k ≡ div_ceil (at + n) 8 → k ≤ length s → x ≡ number s at n → ok x ≡ field s at n
unfolding field bytes_for
field_there s at n x q h e = rw (le-leb (at + n) (8 * length s) (omega (arith, ceil _ q))) (ap {B = Outcome ℕ} ok e)

pub field_cut : (s : List ℕ) (at n : ℕ) {k : ℕ} → k ≡ div_ceil (at + n) 8 → length s < k → refused 1 ≡ field s at n
unfolding field bytes_for
field_cut s at n q h = rw (lt-leb (at + n) (8 * length s) (omega (arith, ceil _ q))) refl

-- the window shifted to the right, and its last n bits
pub shifted : (s : List ℕ) → ((k : ℕ) → get_or s k 0 < 256) → (at n a b c x : ℕ) → n ≤ 16 → a ≡ get_or s (at / 8) 0 → b ≡ get_or s (at / 8 + 1) 0 → c ≡ get_or s (at / 8 + 2) 0
    → x ≡ from_be_bytes w32 (0 ∷ a ∷ b ∷ c ∷ []) → x / 2 ^ (24 - at % 8 - n) % (1 * 2 ^ n % 4294967296) ≡ number s at n
shifted s bytes at n a b c x h p q r e =
    let w : x ≡ window s (at / 8) = omega (arith, p, q, r, e) in
    rw (one_shifted n h, w) (window-number s bytes at n (omega arith))

-- a code that is one of 0, 1 and 2, and one that is none
pub low_code : (c k : ℕ) → c ≡ k → k < 3 → ok k ≡ cell_code c
unfolding cell_code unless ◌>>=◌
low_code c k e h = rw (e, lt-ltb k 3 h) refl

pub no_code : (c : ℕ) → (c ≡ 0 → ⊥) → (c ≡ 1 → ⊥) → (c ≡ 2 → ⊥) → refused 2 ≡ cell_code c
unfolding cell_code unless ◌>>=◌
no_code c p q r = rw (le-ltb c 3 (omega arith)) refl

-- the filler: too long, none, a few bits
module _ (s : List ℕ) (at : ℕ) where
  pub filler_long : {k : ℕ} → k ≡ div_ceil at 8 → k < length s → false ≡ filler s at
  unfolding filler bytes_for
  filler_long q h = rw (le-ltb (8 * length s - at) 8 (omega (arith, ceil _ q))) refl

  pub filler_none : 8 * length s ≤ at → true ≡ filler s at
  unfolding filler number
  filler_none h =
      let e : 8 * length s - at ≡ 0 = omega arith in
      rw e refl

  pub filler_bits : (x : ℕ) {k : ℕ} → k ≡ div_ceil at 8 → length s ≤ k → x ≡ number s at (8 * length s - at) → eqb x 0 ≡ filler s at
  unfolding filler bytes_for
  filler_bits x q h e = rw (lt-ltb (8 * length s - at) 8 (omega (arith, ceil _ q)), e) refl

  -- the bits to the end of the byte
  pub rest_bits : (x : ℕ) {k : ℕ} → k ≡ div_ceil at 8 → x ≡ number s at (k * 8 - at) → eqb x 0 ≡ rest_zero s at
  unfolding rest_zero
  rest_bits x q e = rw (e, ceil _ q) refl
