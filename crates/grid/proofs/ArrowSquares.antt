-- The cells at the places of an arrow that pass a test, as squares do, counted from one place on, and whether they are two or more.
-- Assumes nothing.
use Prim.Native.Nat.{ℕ, suc, ◌+◌, ◌-◌, ◌≤◌, ◌<◌}
use native.Mathlib.Omega.{arith}
use native.Mathlib.Numerals.{add-one}
use mathlib.Core.Path.{◌≡◌, refl, sym}
use mathlib.Core.Bool.{Bool, true, false}
use mathlib.Core.List.{List}
use lib.Dec.{leb}
use lib.ListN.{length, get_or, take, drop}
use lib.Seq.{slice, slice-cons, get_or-take}
use borrow.Author.Tests.{le-leb, lt-leb}
use Rattle.grid.specs.Lists.{filter}
use Rattle.grid.proofs.SliceLaws.{slice_none, slice_taken}

-- how many stand at the places from k up to `to`
abbrev pub ahead : (ℕ → Bool) → List ℕ → ℕ → ℕ → ℕ
ahead test arrows to k = length (filter test (slice k to arrows))

module _ (test : ℕ → Bool) (arrows : List ℕ) (to k : ℕ) where
  -- no place is left
  pub none_ahead : to ≤ k → ahead test arrows to k ≡ 0
  none_ahead h = rw (slice_none arrows k to h) refl

  -- the cell at the place k passes the test, or it does not
  pub one_counted : k < to → to ≤ length arrows → test (get_or arrows k 0) ≡ true → ahead test arrows to k ≡ suc (ahead test arrows to (k + 1))
  one_counted h l e = rw (slice-cons k to arrows 0 h l, add-one k, e) refl

  pub other_passed : k < to → to ≤ length arrows → test (get_or arrows k 0) ≡ false → ahead test arrows to k ≡ ahead test arrows to (k + 1)
  other_passed h l e = rw (slice-cons k to arrows 0 h l, add-one k, e) refl

-- the a-th arrow, which starts at the place `from`, by the number of its cells that pass
module _ (test : ℕ → Bool) (arrows ends : List ℕ) (number from a : ℕ) (within : a < number) {r : ℕ} (counted : r ≡ ahead test arrows (get_or ends a 0) from) where
  abbrev next : List ℕ
  next = take (get_or (take number ends) a 0 - from) (drop from arrows)

  many : length (filter test next) ≡ r
  many = rw (get_or-take number ends a 0 within, slice_taken arrows from (get_or ends a 0)) (sym counted)

  pub has_two : 2 ≤ r → true ≡ leb 2 (length (filter test next))
  has_two h = sym (le-leb 2 (length (filter test next)) (omega (arith, many, h)))

  pub lacks_two : r < 2 → false ≡ leb 2 (length (filter test next))
  lacks_two h = sym (lt-leb 2 (length (filter test next)) (omega (arith, many, h)))
