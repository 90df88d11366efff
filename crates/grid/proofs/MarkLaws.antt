-- Arrays of marks that are set in any order, and what a mark tells of the test.
-- Assumes nothing.
use Prim.Native.Nat.{ℕ, ◌+◌, ◌<◌}
use native.Mathlib.Decide.{ℕ_discrete}
use native.Mathlib.Numerals.{add-one}
use native.Mathlib.Omega.{arith}
use mathlib.Core.Path.{◌≡◌, refl, sym, ap, ◌∙◌}
use mathlib.Core.Bool.{Bool, true, false, cond, ◌||◌, or-true, or-false}
use mathlib.Core.List.{List, [], ◌∷◌, ◌++◌}
use lib.Dec.{eqb}
use lib.ListN.{length, get_or, set, take, replicate, length-set, length-replicate, get_or-replicate}
use lib.Seq.{get_or-set_same, get_or-set_other, take-suc}
use borrow.Author.Tests.{eq-eqb, ne_eqb}
use Rattle.grid.specs.Lists.{member}
use Rattle.grid.specs.Marks.{Marks}
use Rattle.grid.proofs.AppendLaws.{eqb_sym, member_more}

-- ---- marks are set

pub Marks-none : Marks (replicate 1024 0) (λ m. false)
Marks-none = record { long = length-replicate {A = ℕ} 1024 0; at = λ m h. get_or-replicate {A = ℕ} 1024 m 0 0 h }

pub Marks-same : {M : List ℕ} (t u : ℕ → Bool) → ((m : ℕ) → m < 1024 → t m ≡ u m) → Marks M t → Marks M u
Marks-same t u e k = record { long = k.long; at = λ m h. k.at m h ∙ ap (λ (b : Bool). cond b 1 0) (e m h) }

-- a mark is set
pub Marks-set : {M : List ℕ} (t : ℕ → Bool) (q : ℕ) → q < 1024 → Marks M t → Marks (set M q 1) (λ m. t m || eqb q m)
Marks-set {M} t q h k = record { long = length-set M q 1 ∙ k.long; at = λ m l. by m l (ℕ_discrete m q) }
  where
    by : (m : ℕ) → m < 1024 → Dec (m ≡ q) → get_or (set M q 1) m 0 ≡ cond (t m || eqb q m) 1 0
    by m l (yes e) = rw (eq-eqb q m (sym e)) (ap (λ (i : ℕ). get_or (set M q 1) i 0) e ∙ get_or-set_same M q 1 0 (omega (arith, k.long)) ∙ rw (or-true (t m)))
    by m l (no ne) = rw (ne_eqb q m (λ e. ne (sym e)), or-false (t m)) (get_or-set_other M q m 1 0 ne ∙ k.at m l)

-- the marks of a list's members: one more member
pub Marks-more : {M : List ℕ} (l : List ℕ) (q : ℕ) → q < 1024 → Marks M (λ m. member m l) → Marks (set M q 1) (λ m. member m (l ++ (q ∷ [])))
Marks-more l q h k =
    Marks-same (λ m. member m l || eqb q m) (λ m. member m (l ++ (q ∷ [])))
    (λ m _. ap (λ (b : Bool). member m l || b) (eqb_sym q m) ∙ sym (member_more m l q)) (Marks-set (λ m. member m l) q h k)

-- the marks of a list's first k members: the next is marked
pub Marks-next : {M : List ℕ} (l : List ℕ) (k : ℕ) → k < length l → get_or l k 0 < 1024 → Marks M (λ m. member m (take k l)) → Marks (set M (get_or l k 0) 1) (λ m. member m (take (k + 1) l))
Marks-next l k h c m = rw (add-one k, take-suc l k 0 h) (Marks-more (take k l) (get_or l k 0) c m)

-- ---- a mark tells whether the test passes

pub mark_test : (b : Bool) → eqb (cond b 1 0) 1 ≡ b
mark_test true = refl
mark_test false = refl

module _ {M : List ℕ} {t : ℕ → Bool} (k : Marks M t) (m : ℕ) (h : m < 1024) where
  pub mark_is : eqb (get_or M m 0) 1 ≡ t m
  mark_is = ap (λ (x : ℕ). eqb x 1) (k.at m h) ∙ mark_test (t m)

  pub mark_on : get_or M m 0 ≡ 1 → t m ≡ true
  mark_on e = sym mark_is ∙ eq-eqb (get_or M m 0) 1 e

  pub mark_off : (get_or M m 0 ≡ 1 → ⊥) → t m ≡ false
  mark_off ne = sym mark_is ∙ ne_eqb (get_or M m 0) 1 ne

  -- the same by 0
  pub mark_zero : get_or M m 0 ≡ 0 → t m ≡ false
  mark_zero e = mark_off (λ o. omega (arith, e, o))

  pub mark_other : (get_or M m 0 ≡ 0 → ⊥) → t m ≡ true
  mark_other ne = go (t m) (k.at m h)
    where
      go : (b : Bool) → get_or M m 0 ≡ cond b 1 0 → b ≡ true
      go true e = refl
      go false e = absurd (ne e)
