-- A pass over a list that keeps whether every member so far passes a test.
-- Assumes nothing.
use Prim.Native.Nat.{ℕ, ◌+◌, ◌-◌, ◌≤◌, ◌<◌}
use Rattle.std.specs.Prelude.{min}
use native.Mathlib.Decide.{dec_lt}
use native.Mathlib.Numerals.{add-one}
use native.Mathlib.Omega.{arith}
use mathlib.Core.Path.{◌≡◌, refl, sym, ap, ◌∙◌}
use mathlib.Core.Bool.{Bool, true, false, ◌&&◌, and-false, and-true, and_assoc}
use mathlib.Core.List.{List, [], ◌∷◌}
use Rattle.std.specs.List.{fold}
use lib.Dec.{eqb, ltb}
use lib.ListN.{length, get_or, take, drop, length-drop, drop_of_length-le}
use lib.Seq.{drop-cons}
use Rattle.std.proofs.lemmas.List.{take_all}
use Rattle.grid.specs.Lists.{all, last}
use Rattle.grid.proofs.AppendLaws.{eqb_sym}
use Rattle.form.specs.Form.{behind, rises}

-- a fold that keeps whether every member passes says whether all do
pub folded : (p : ℕ → Bool) (l : List ℕ) (good : Bool) → fold (λ (b : Bool) (x : ℕ). b && p x) good l ≡ (good && all p l)
folded p [] good = sym (and-true good)
folded p (x ∷ l) good = folded p l (good && p x) ∙ and_assoc good (p x) (all p l)

-- that which asks for d says whether all are d
folded_equal : (d : ℕ) (l : List ℕ) (good : Bool) → fold (λ (b : Bool) (x : ℕ). b && eqb x d) good l ≡ (good && all (eqb d) l)
folded_equal d [] good = sym (and-true good)
folded_equal d (x ∷ l) good = folded_equal d l (good && eqb x d) ∙ rw (eqb_sym x d) (and_assoc good (eqb d x) (all (eqb d) l))

-- the same behind a place, which may be past the end
pub folded_behind : (d n : ℕ) (l : List ℕ) {m : ℕ} → m ≡ min n 1024 → length l ≡ 1024 → fold (λ (b : Bool) (x : ℕ). b && eqb x d) true (take (1024 - m) (drop m l)) ≡ behind d n l
unfolding behind
folded_behind d n l {m} e long =
    let whole : take (1024 - m) (drop m l) ≡ drop m l = take_all (1024 - m) (drop m l) (omega (arith, length-drop m l)) in
    rw whole (folded_equal d (drop m l) true ∙ ap (all (eqb d)) (go (dec_lt 1024 n)))
  where
    go : Dec (1024 < n) → drop m l ≡ drop n l
    go (no h) = let q : m ≡ n = omega (arith, e) in rw q refl
    go (yes h) =
        let q : drop m l ≡ [] = drop_of_length-le l {i = m} (omega (arith, e)) in
        let r : drop n l ≡ [] = drop_of_length-le l {i = n} (omega arith) in
        q ∙ sym r

-- a pass that keeps in `good` whether every member so far passes
module _ (p : ℕ → Bool) (l : List ℕ) {total : Bool} (good : Bool) where
  -- the next member passes
  pub pass_on : (i : ℕ) → i < length l → total ≡ (good && all p (drop i l)) → p (get_or l i 0) ≡ true → total ≡ (good && all p (drop (i + 1) l))
  pass_on i h e t = e ∙ rw (add-one i, drop-cons l i 0 h, t) refl

  -- the next member fails
  pub pass_fail : (i : ℕ) → i < length l → total ≡ (good && all p (drop i l)) → p (get_or l i 0) ≡ false → total ≡ false
  pass_fail i h e t = e ∙ rw (drop-cons l i 0 h, t, and-false good) refl

  -- no member is left
  pub pass_end : (i : ℕ) → length l ≤ i → total ≡ (good && all p (drop i l)) → good ≡ total
  pass_end i h e = rw (e, drop_of_length-le l {i = i} h, and-true good) refl

-- a fold that keeps the last end, and whether the ends so far rise
abbrev pub next_end : Bool × ℕ → ℕ → Bool × ℕ
next_end s e = (s.0 && ltb s.1 e, e)

pub folded_rising : (l : List ℕ) (rise : Bool) (at : ℕ) → (fold next_end (rise, at) l).0 ≡ (rise && rises at l)
unfolding rises
folded_rising [] rise at = sym (and-true rise)
folded_rising (e ∷ l) rise at = folded_rising l (rise && ltb at e) e ∙ and_assoc rise (ltb at e) (rises e l)

module _ (l : List ℕ) (at k : ℕ) where
  pub last_on : k < length l → last at (drop k l) ≡ last (get_or l k 0) (drop (k + 1) l)
  unfolding last
  last_on h = rw (add-one k, drop-cons l k 0 h) refl
