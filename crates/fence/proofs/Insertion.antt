-- The laws of the ordered insertion.
-- Assumes nothing.
use Prim.Native.Nat.{ℕ, suc, ◌+◌, ◌-◌, ◌<◌, ◌≤◌}
use native.Mathlib.Omega.{arith}
use mathlib.Core.Path.{◌≡◌, refl, sym, ap, ◌∙◌, subst}
use mathlib.Core.Bool.{Bool, true, false}
use mathlib.Core.List.{List, ◌∷◌, ◌++◌}
use lib.Dec.{ltb, eqb}
use lib.ListN.{length, get_or, take, drop, set, length-set, length-append, length-drop, get_or-append}
use lib.Seq.{length-take-le, get_or-set_same, get_or-set_other, get_or-take, get_or-drop, get_or_at, get_or-append-add, drop-set-lt, ext_get_or}
use borrow.Author.Tests.{ltb-true, ltb-false, eqb-true, eqb-false}
use Rattle.std.specs.List.{CopiedTo, SameBelow, SameFrom}
use Rattle.grid.specs.Cells.{word}
use Rattle.fence.specs.Inside.{key, Place, Shifted, Inserted, new}

-- ---- the shift, as the library tells it
pub shifted_by :
    (a b : List ℕ) (p count : ℕ) → p ≤ count → length b ≡ length a → CopiedTo a b p (p + 1) (count - p) × SameBelow a b (p + 1) × SameFrom a b (p + 1 + (count - p))
    → Shifted a b p count
shifted_by a b p count le long K = record {
  as_long = long;
  low = λ k l. K.1 k 0 (omega arith);
  moved = λ k l m. let e : p + (k + 1 - (p + 1)) ≡ k = omega arith in K.0 (k + 1) 0 (omega arith) (omega arith) ∙ ap (λ (i : ℕ). get_or a i 0) e;
  high = λ k l. K.2 k 0 (omega arith);
}

-- ---- the number is stored in the gap
module _ (a b : List ℕ) (p count x : ℕ) (le : p ≤ count) (within : count < length a) (s : Shifted a b p count) where
  abbrev front : List ℕ
  front = take count a

  front-length : length front ≡ count
  front-length = length-take-le count a (omega arith)

  low_length : length (take p front) ≡ p
  low_length = length-take-le p front (omega (arith, front-length))

  abbrev stored : List ℕ
  stored = set b p x

  abbrev wanted : List ℕ
  wanted = take p front ++ (x ∷ drop p front)

  low_at : (i : ℕ) → i < p → get_or stored i 0 ≡ get_or wanted i 0
  low_at i l =
      get_or-set_other b p i x 0 (λ e. omega (arith, e)) ∙ s.low i l
      ∙ sym (get_or-append (take p front) (x ∷ drop p front) 0 i (omega (arith, low_length)) ∙ get_or-take p front i 0 l ∙ get_or-take count a i 0 (omega arith))

  gap_at : get_or stored p 0 ≡ get_or wanted p 0
  gap_at = get_or-set_same b p x 0 (omega (arith, s.as_long)) ∙ sym (get_or_at (take p front) x (drop p front) 0 p low_length)

  high_at : (m : ℕ) → p + suc m < count + 1 → get_or stored (p + suc m) 0 ≡ get_or wanted (p + suc m) 0
  high_at m l =
      let next : p + suc m ≡ p + m + 1 = omega arith in
      get_or-set_other b p (p + suc m) x 0 (λ e. omega (arith, e))
      ∙ ap (λ (i : ℕ). get_or b i 0) next
      ∙ s.moved (p + m) (omega arith) (omega arith)
      ∙ sym (ap (λ (n : ℕ). get_or wanted (n + suc m) 0) (sym low_length)
      ∙ get_or-append-add (take p front) (x ∷ drop p front) (suc m) 0
      ∙ get_or-drop p front m 0
      ∙ get_or-take count a (p + m) 0 (omega arith))

  at_by : (i : ℕ) (t u : Bool) → ltb i p ≡ t → eqb i p ≡ u → i < count + 1 → get_or stored i 0 ≡ get_or wanted i 0
  at_by i true u e f l = low_at i (ltb-true i p e)
  at_by i false true e f l = subst (λ (k : ℕ). get_or stored k 0 ≡ get_or wanted k 0) (sym (eqb-true i p f)) gap_at
  at_by i false false e f l =
      let far = ltb-false i p e in
      let off = eqb-false i p f in
      let back : p + suc (i - (p + 1)) ≡ i = omega (arith, off) in
      subst (λ (k : ℕ). get_or stored k 0 ≡ get_or wanted k 0) back (high_at (i - (p + 1)) (omega (arith, off)))

  stored-length : length (take (count + 1) stored) ≡ count + 1
  stored-length = length-take-le (count + 1) stored (omega (arith, length-set b p x, s.as_long))

  wanted-length : length wanted ≡ count + 1
  wanted-length = omega (arith, length-append (take p front) (x ∷ drop p front), low_length, length-drop p front, front-length)

  pub stored_list : take (count + 1) stored ≡ wanted
  stored_list =
      ext_get_or 0 (take (count + 1) stored) wanted (stored-length ∙ sym wanted-length)
      (λ i l. let m : i < count + 1 = omega (arith, stored-length) in get_or-take (count + 1) stored i 0 m ∙ at_by i _ _ refl refl m)

  pub stored_rest : drop (count + 1) stored ≡ drop (count + 1) a
  stored_rest =
      drop-set-lt (count + 1) b p x (omega arith)
      ∙ ext_get_or 0 (drop (count + 1) b) (drop (count + 1) a) (length-drop (count + 1) b ∙ ap (λ (n : ℕ). n - (count + 1)) s.as_long ∙ sym (length-drop (count + 1) a))
      (λ i l. get_or-drop (count + 1) b i 0 ∙ s.high (count + 1 + i) (omega arith) ∙ sym (get_or-drop (count + 1) a i 0))

-- the number goes to its place
pub Inserted-new : (a b : List ℕ) (p count x : ℕ) → count < length a → Place a count x p → (p < count → key (get_or a p 0) ≡ key x → ⊥) → Shifted a b p count → Inserted a count x (count + 1) (set b p x)
Inserted-new a b p count x within pl ne s =
    new pl ne refl (stored_list a b p count x pl.within within s) (stored_rest a b p count x pl.within within s) (length-set b p x ∙ s.as_long)

-- ---- the index of a number

-- it is that of the literal
pub key_index : (i v : ℕ) {n : ℕ} → word (i, v) ≡ n → i < 32768 → key n ≡ i
unfolding word
key_index i v e h = omega (arith, e)

-- a place by the index is that of the number
pub literal_Place : {a : List ℕ} {c p : ℕ} (i v : ℕ) → i < 32768 → Place a c i p → Place a c (word (i, v)) p
literal_Place i v h P =
    let e : key (word (i, v)) ≡ key i = omega (arith, key_index i v refl h) in
    record { within = P.within; before = λ q. omega (arith, P.before q, e); behind = λ q. omega (arith, P.behind q, e) }
