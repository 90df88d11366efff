-- The code of a step, by the indexes of its cells.
-- Assumes nothing.
use Prim.Native.Nat.{ℕ, ◌+◌, ◌*◌, ◌%◌, ◌<◌}
use native.Mathlib.Omega.{arith}
use native.Mathlib.Nat.{mod-le}
use mathlib.Core.Path.{◌≡◌, refl}
use mathlib.Core.Bool.{Bool, true, false}
use mathlib.Core.List.Memᴰ
use mathlib.Core.List.{Memᴰ}
use borrow.Author.Tests.{leb-true, le-leb, ltb-true, lt-ltb}
use Rattle.grid.specs.Lists.{member}
use Rattle.grid.specs.Grid.{Grid, size, col, only, up, down, left}
use Rattle.grid.proofs.ListLaws.{member-mem, mem-member, So-false}
use Rattle.record.specs.Write.{direction}

only_in : {t : Bool} {x j : ℕ} → t ≡ true → j ≡ x → member j (only t x) ≡ true
unfolding only
only_in {t} {x} {j} h e = rw h (mem-member j _ (Memᴰ.head e))

only_of : {t : Bool} {x j : ℕ} → Memᴰ j (only t x) → (t ≡ true) × (j ≡ x)
unfolding only
only_of {t = true} m = (refl, Memᴰ.eq_of_singleton m)
only_of {t = false} m = absurd (Memᴰ.not-nil m)

only_out : {t : Bool} {x j : ℕ} → (t ≡ true → j ≡ x → ⊥) → member j (only t x) ≡ false
only_out {t} {x} {j} h = So-false (member j (only t x)) (λ s. let r = only_of (member-mem j (only t x) s) in h r.0 r.1)

module _ (g : Grid) (i j : ℕ) where
  up_is : j + g.width ≡ i → member j (up g i) ≡ true
  unfolding up
  up_is e = only_in (le-leb g.width i (omega arith)) (omega arith)

  up_not : (j + g.width ≡ i → ⊥) → member j (up g i) ≡ false
  unfolding up
  up_not n = only_out (λ t e. let z = leb-true g.width i t in n (omega arith))

  down_is : j < g.height * g.width → j ≡ i + g.width → member j (down g i) ≡ true
  unfolding down size
  down_is l e = only_in (lt-ltb (i + g.width) (g.height * g.width) (omega arith)) e

  down_not : (j ≡ i + g.width → ⊥) → member j (down g i) ≡ false
  unfolding down
  down_not n = only_out (λ t e. n e)

  left_is : 0 < i % g.width → j + 1 ≡ i → member j (left g i) ≡ true
  unfolding left col
  left_is h e = only_in (lt-ltb 0 (i % g.width) h) (omega arith)

  left_not : (0 < i % g.width → j + 1 ≡ i → ⊥) → member j (left g i) ≡ false
  unfolding left col
  left_not n = only_out (λ t e. let z = ltb-true 0 (i % g.width) t in n z (omega (arith, pos_of_mod z)))
    where
      pos_of_mod : 0 < i % g.width → 0 < i
      pos_of_mod z = omega (arith, mod-le i g.width)

  pub code_up : j + g.width ≡ i → 0 ≡ direction g i j
  unfolding direction
  code_up e = rw (up_is e)

  module _ (n : j + g.width ≡ i → ⊥) where
    pub code_down : j < g.height * g.width → j ≡ i + g.width → 1 ≡ direction g i j
    unfolding direction
    code_down l e = rw (up_not n, down_is l e)

    module _ (m : j ≡ i + g.width → ⊥) where
      pub code_left : 0 < i % g.width → j + 1 ≡ i → 2 ≡ direction g i j
      unfolding direction
      code_left h e = rw (up_not n, down_not m, left_is h e)

      pub code_right : (0 < i % g.width → j + 1 ≡ i → ⊥) → 3 ≡ direction g i j
      unfolding direction
      code_right k = rw (up_not n, down_not m, left_not k)
