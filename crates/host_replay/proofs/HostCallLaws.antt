-- Laws of holding a host call against what a list says of it.
-- Assumes nothing.
use Prim.Native.Nat.{ℕ, ◌+◌, ◌-◌, ◌≤◌}
use native.Mathlib.Omega.{arith}
use mathlib.Core.Bool.{Bool, not}
use mathlib.Core.Path.{◌≡◌, refl, sym, ap, ◌∙◌}
use mathlib.Core.List.{List}
use lib.Dec.{eqb}
use lib.IntN.{ℤ}
use lib.ListN.{length, replicate, length-replicate}
use mir.Syntax.{w32}
use mir.Val.{SFits, of_z, to_z}
use mir.ValLaws.{to_z-of_z}
use borrow.Author.Tests.{ne_eqb}
use borrow.Rule.Slice.PartMut.{mid_of, put_mid, mid_len, Post-is}
use Rattle.calls.specs.Found.{host_finds, returned, output_after}
use Rattle.replay.specs.Comparisons.{DiffersUnless}
use Rattle.replay.specs.Lists.{differs}
use Rattle.replay.proofs.ComparisonLaws.{fails_so, then_differs, test_told}
use Rattle.host_replay.specs.HostCalls.{fresh, left, CallSo}

-- the array as it is made
pub fresh_so : replicate 8192 170 ≡ fresh
unfolding fresh
fresh_so = refl

-- a fresh array has 8,192 places
fresh_long : length fresh ≡ 8192
unfolding fresh
fresh_long = length-replicate {A = ℕ} 8192 170

-- a call whose output was a part of a fresh array, and what it returned
module _ (s decisions : List ℕ) (size : ℕ) (small : size ≤ 8000) (array : List ℕ) (e : array ≡ fresh) (r : ℤ)
    (h : r ≡ returned (host_finds s decisions (length (mid_of 64 (64 + size - 64) array)))) where
  -- the output's length
  part_long : length (mid_of 64 (64 + size - 64) array) ≡ size
  part_long =
      let n : length array ≡ 8192 = ap (λ (l : List ℕ). length l) e ∙ fresh_long in
      mid_len 64 (64 + size) array (omega arith) ∙ omega arith

  returned_so : r ≡ returned (host_finds s decisions size)
  returned_so = rw part_long at h

  module _ (expected : ℤ) (said : ℕ → ℕ) where
    -- the array, put together again
    left_so : (output : List ℕ) → output ≡ output_after (host_finds s decisions (length (mid_of 64 (64 + size - 64) array))) (mid_of 64 (64 + size - 64) array) → put_mid 64 (64 + size - 64) array output ≡ left s decisions size
    unfolding left
    left_so output o =
        let m : 64 + size - 64 ≡ size = omega arith in
        rw (o, part_long, Post-is 64 (64 + size) array (omega arith), m, e)

    -- the number that is expected: then the array decides
    pub this_number : SFits w32 r → SFits w32 expected → of_z w32 r ≡ of_z w32 expected → (output : List ℕ) → output ≡ output_after (host_finds s decisions (length (mid_of 64 (64 + size - 64) array))) (mid_of 64 (64 + size - 64) array) → (t : Bool) → t ≡ differs (put_mid 64 (64 + size - 64) array output) said 0 → DiffersUnless t (CallSo s decisions size expected said)
    this_number f g q output o t d =
        let k : t ≡ differs (left s decisions size) said 0 = d ∙ ap (λ (l : List ℕ). differs l said 0) (left_so output o) in
        then_differs (sym returned_so ∙ (sym (to_z-of_z w32 r f) ∙ (ap (to_z w32) q ∙ to_z-of_z w32 expected g))) t (test_told _ t k)
