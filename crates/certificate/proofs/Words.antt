-- The words of a certificate, by its bytes, and the parts of them that the code reads.
-- Assumes nothing.
use Prim.Native.Nat.{ℕ, ◌+◌, ◌-◌, ◌*◌, ◌/◌, ◌<◌, ◌≤◌}
use native.Mathlib.Omega.{arith}
use native.Mathlib.Numerals.{add-one}
use mathlib.Core.Path.{◌≡◌, sym}
use mathlib.Core.List.{List, [], ◌∷◌}
use lib.ListN.{length, get_or, take, drop}
use lib.Seq.{slice, slice-cons, length-slice}
use Rattle.std.specs.Int.{w32, from_be_bytes}
use Rattle.grid.proofs.ListLaws.{length-map-upto, map-upto_at, map-upto_past}
use Rattle.grid.proofs.SliceLaws.{slice_taken}
use Rattle.certificate.specs.Certificate.{word_at, words_of}

module _ (s : List ℕ) where
  pub words_length : length (words_of s) ≡ length s / 3
  unfolding words_of
  words_length = length-map-upto (word_at s) (length s / 3)

  pub words_at : (k : ℕ) → k < length s / 3 → get_or (words_of s) k 0 ≡ word_at s k
  unfolding words_of
  words_at k h = map-upto_at (word_at s) (length s / 3) k 0 h

  pub words_past : (k : ℕ) → length s / 3 ≤ k → get_or (words_of s) k 0 ≡ 0
  unfolding words_of
  words_past k h = map-upto_past (word_at s) (length s / 3) k 0 h

  -- the word of three bytes
  pub word_is : (k : ℕ) {n : ℕ} → k < length (words_of s) → n ≡ from_be_bytes w32 (0 ∷ get_or s (3 * k) 0 ∷ get_or s (3 * k + 1) 0 ∷ get_or s (3 * k + 2) 0 ∷ []) → n ≡ get_or (words_of s) k 0
  unfolding word_at
  word_is k h e = omega (arith, e, words_at k (omega (arith, words_length)))

-- the words from k on, by the first of them
module _ (ws : List ℕ) (k to : ℕ) (h : k < to) (l : to ≤ length ws) where
  pub words_on : {w : ℕ} → w ≡ get_or ws k 0 → slice k to ws ≡ w ∷ slice (k + 1) to ws
  words_on e = rw (e, add-one) (slice-cons k to ws 0 h (omega arith))

  pub words_left : length (slice (k + 1) to ws) ≡ to - (k + 1)
  words_left = length-slice (k + 1) to ws (omega arith)

-- n words from a on
pub words_part : (l : List ℕ) (a n : ℕ) → slice a (a + n) l ≡ take n (drop a l)
words_part l a n = let e : a + n - a ≡ n = omega arith in sym (rw e at (slice_taken l a (a + n)))
