-- Laws of the parts of a list, from one place to another.
-- Assumes nothing.
use Prim.Native.Nat.{ℕ, zero, suc, ◌+◌, ◌-◌, ◌≤◌, ◌<◌}
use native.Mathlib.Omega.{arith}
use native.Mathlib.Numerals.{add-one}
use native.Mathlib.Decide.{dec_le, dec_lt}
use mathlib.Core.Path.{◌≡◌, refl, sym, ap, ◌∙◌}
use mathlib.Core.List.{List, [], ◌∷◌, ◌++◌, Memᴰ}
use lib.ListN.{length, get_or, take, drop, length-take, length-drop, take-append-drop, drop_of_length-le}
use lib.Seq.{slice, slice-cons, length-slice, take-nil, drop-nil, take-suc, take-take, length-take-le, drop-append-le, get_or-take, get_or-drop}
use Rattle.grid.specs.Lists.{init, tail}
use Rattle.grid.proofs.ListLaws.{mem_at, at_mem}
use Rattle.grid.proofs.AppendLaws.{init_more}

module _ (l : List ℕ) (f : ℕ) where
  -- a part, one place longer
  pub slice_more : (k : ℕ) → f ≤ k → k < length l → slice f (k + 1) l ≡ slice f k l ++ (get_or l k 0 ∷ [])
  slice_more k h e = rw (add-one k, take-suc l k 0 e) (drop-append-le f (take k l) (get_or l k 0 ∷ []) (rw (length-take-le k l (omega arith)) h))

  pub slice_none : (t : ℕ) → t ≤ f → slice f t l ≡ []
  slice_none t h = drop_of_length-le (take t l) {i = f} (simp length-take (omega arith))

  pub slice_short : (t : ℕ) → length (slice f t l) ≤ t - f
  slice_short t = simp (length-drop, length-take) (omega arith)

module _ (l : List ℕ) where
  -- a part in two
  pub slice_split : (a b t : ℕ) → a ≤ b → b ≤ t → t ≤ length l → slice a t l ≡ slice a b l ++ slice b t l
  slice_split a b t p q r =
      ap (drop a) (sym (take-append-drop b (take t l)) ∙ ap (λ (x : List ℕ). x ++ drop b (take t l)) (take-take b t l q))
      ∙ drop-append-le a (take b l) (slice b t l) (rw (length-take-le b l (omega arith)) p)

  -- a member stands at a place of the part
  pub slice-mem : (a t : ℕ) → t ≤ length l → {x : ℕ} → Memᴰ x (slice a t l) → (k : ℕ) × (a ≤ k) × (k < t) × (get_or l k 0 ≡ x)
  slice-mem a t r m =
      let k = mem_at (slice a t l) m in
      let short = length-slice a t l r in
      (a + k.0, omega arith, omega (arith, k.1, short), sym (get_or-take t l (a + k.0) 0 (omega (arith, k.1, short))) ∙ sym (get_or-drop a (take t l) k.0 0) ∙ k.2)

  -- a place of the part holds a member
  pub slice_at : (a t k : ℕ) → a ≤ k → k < t → t ≤ length l → Memᴰ (get_or l k 0) (slice a t l)
  slice_at a t k p q r =
      let z : a + (k - a) ≡ k = omega arith in
      let e : get_or (slice a t l) (k - a) 0 ≡ get_or l k 0 = get_or-drop a (take t l) (k - a) 0 ∙ rw z (get_or-take t l k 0 q) in
      rw e at (at_mem (slice a t l) (k - a) (omega (arith, length-slice a t l r)))

  -- without its first place, and without its last
  pub slice-tail : (a t : ℕ) → t ≤ length l → tail (slice a t l) ≡ slice (suc a) t l
  unfolding tail
  slice-tail a t r = go (dec_lt a t)
    where
      go : Dec (a < t) → tail (slice a t l) ≡ slice (suc a) t l
      go (yes h) = rw (slice-cons a t l 0 h r) refl
      go (no h) = rw (slice_none l a t (omega arith), slice_none l (suc a) t (omega arith)) refl

  pub slice-init : (a t : ℕ) → t < length l → init (slice a (t + 1) l) ≡ slice a t l
  unfolding init
  slice-init a t r = go (dec_le a t)
    where
      go : Dec (a ≤ t) → init (slice a (t + 1) l) ≡ slice a t l
      go (yes h) = rw (slice_more l a t h r) (init_more (slice a t l) (get_or l t 0))
      go (no h) = rw (slice_none l a (t + 1) (omega arith), slice_none l a t (omega arith)) refl

-- as many as lie between two places, from the first on
pub slice_taken : (l : List ℕ) (a e : ℕ) → take (e - a) (drop a l) ≡ slice a e l
slice_taken l zero e = let z : e - 0 ≡ e = omega arith in rw z refl
slice_taken [] (suc a) e = take-nil (e - suc a) ∙ sym (ap (drop (suc a)) (take-nil e) ∙ drop-nil (suc a))
slice_taken (x ∷ l) (suc a) zero = let z : 0 - suc a ≡ 0 = omega arith in rw z refl
slice_taken (x ∷ l) (suc a) (suc e) = let z : suc e - suc a ≡ e - a = omega arith in rw z (slice_taken l a e)
