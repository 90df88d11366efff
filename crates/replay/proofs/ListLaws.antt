-- Laws of reading a list, and of comparing numbers place by place.
-- Assumes nothing.
use Prim.Native.Nat.{ℕ, zero, suc, ◌+◌, ◌-◌, ◌≤◌, ◌<◌}
use native.Mathlib.Omega.{arith}
use native.Mathlib.Numerals.{add-one}
use native.Mathlib.Nat.{zero-add, add-zero}
use mathlib.Core.Bool.{Bool, true, false, ◌||◌, not, cond, true≢false}
use mathlib.Core.Logic.{◌≢◌, ◌⊎◌, inl, inr}
use mathlib.Core.Path.{◌≡◌, refl, sym, ap, subst, ◌∙◌}
use mathlib.Core.List.{List, [], ◌∷◌}
use lib.Dec.{eqb}
use lib.ListN.{length, get_or, drop, drop_of_length-le, get_or-eq_default}
use lib.Seq.{drop-cons}
use borrow.Author.Tests.{eq-eqb, ne_eqb, eqb-true, eqb-false}
use Rattle.std.specs.Bool.{Decides}
use Rattle.std.specs.Prelude.{Option, Some, None}
use Rattle.std.proofs.lemmas.Bool.{cases_lt}
use Rattle.replay.specs.Lists.{number_at, data_from, data_start, differs}

-- behind the end there are zeros only
pub no_number : (l : List ℕ) (at : ℕ) → length l ≤ at → 0 ≡ number_at l at
unfolding number_at
no_number l at h = simp (get_or-eq_default l 0 {n = at} h, get_or-eq_default l 0 {n = at + 1} (omega arith))

-- a list without a head
pub no_head : (l : List ℕ) → (get_or l 0 0 ≡ 35 → ⊥) → data_start l ≡ None
unfolding data_start
no_head [] h = refl
no_head (b ∷ rest) h = rw (ne_eqb b 35 h) refl

-- a list whose first line begins as one of a head does
head : (l : List ℕ) → get_or l 0 0 ≡ 35 → data_start l ≡ data_from (drop 1 l) 1 (get_or l 0 0)
unfolding data_start
head [] h = absurd (omega arith)
head (b ∷ rest) h = rw (eq-eqb b 35 h) refl

-- the line that ends before a place is the last of a head
abbrev pub Ends : List ℕ → ℕ → Type 0
Ends l i = (get_or l (i - 1) 0 ≡ 10) × (get_or l i 0 ≢ 35)

module _ (l : List ℕ) (i : ℕ) (lt : i < length l) where
  from_step : (before : ℕ) → data_from (drop i l) i before ≡ cond (eqb before 10) (cond (eqb (get_or l i 0) 10) (Some (suc i)) (cond (eqb (get_or l i 0) 35) (data_from (drop (suc i) l) (suc i) (get_or l i 0)) None)) (data_from (drop (suc i) l) (suc i) (get_or l i 0))
  unfolding data_from
  from_step before = rw (drop-cons l i 0 lt) refl

  -- behind that line comes the data if the next one is empty
  last_line : Ends l i → data_from (drop i l) i (get_or l (i - 1) 0) ≡ cond (eqb (get_or l i 0) 10) (Some (i + 1)) None
  last_line e = rw add-one (rw (from_step (get_or l (i - 1) 0), eq-eqb (get_or l (i - 1) 0) 10 e.0, ne_eqb (get_or l i 0) 35 e.1) refl)

  -- any other place of a head is gone over
  further : (Ends l i → ⊥) → data_from (drop i l) i (get_or l (i - 1) 0) ≡ data_from (drop (suc i) l) (suc i) (get_or l i 0)
  further w = from_step before ∙ go (eqb before 10) (eqb b 35) refl refl
    where
      before : ℕ
      before = get_or l (i - 1) 0

      b : ℕ
      b = get_or l i 0

      next : Option ℕ
      next = data_from (drop (suc i) l) (suc i) b

      go : (t u : Bool) → eqb before 10 ≡ t → eqb b 35 ≡ u → cond t (cond (eqb b 10) (Some (suc i)) (cond u next None)) next ≡ next
      go false u e f = refl
      go true true e f = rw (ne_eqb b 10 (λ z. absurd (omega (arith, z, eqb-true b 35 f)))) refl
      go true false e f = absurd (w (eqb-true before 10 e, eqb-false b 35 f))

-- as far as no line is the last of a head
as_far : (l : List ℕ) (n i : ℕ) → 0 < i → i + n ≤ length l → ((k : ℕ) → i ≤ k → k < i + n → Ends l k → ⊥)
    → data_from (drop i l) i (get_or l (i - 1) 0) ≡ data_from (drop (i + n) l) (i + n) (get_or l (i + n - 1) 0)
as_far l zero i p h w = rw add-zero refl
as_far l (suc n) i p h w =
    let e : suc i + n ≡ i + suc n = omega arith in
    let b : suc i - 1 ≡ i = omega arith in
    further l i (omega arith) (w i (omega arith) (omega arith))
    ∙ subst (λ (k : ℕ). data_from (drop (suc i) l) (suc i) (get_or l i 0) ≡ data_from (drop k l) k (get_or l (k - 1) 0)) e
    (subst (λ (k : ℕ). data_from (drop (suc i) l) (suc i) (get_or l k 0) ≡ data_from (drop (suc i + n) l) (suc i + n) (get_or l (suc i + n - 1) 0)) b
    (as_far l n (suc i) (omega arith) (omega arith) (λ k f g. w k (omega arith) (omega arith))))

module _ (l : List ℕ) (h : get_or l 0 0 ≡ 35) where
  -- the list ends inside its head
  pub no_data : ((k : ℕ) → 1 ≤ k → k < length l → Ends l k → ⊥) → data_start l ≡ None
  unfolding data_from
  no_data w = head l h ∙ go (cases_lt 0 (length l))
    where
      go : (0 < length l) ⊎ (length l ≤ 0) → data_from (drop 1 l) 1 (get_or l 0 0) ≡ None
      go (inl p) =
          let n : 1 + (length l - 1) ≡ length l = omega arith in
          let end : length l ≤ length l = omega arith in
          as_far l (length l - 1) 1 (omega arith) (omega arith) (λ k f g. w k f (omega arith)) ∙ rw (n, drop_of_length-le l end) refl
      go (inr p) = absurd (omega (arith, h, get_or-eq_default l 0 {n = 0} p))

  -- the last line of the head
  pub data_behind : (end : ℕ) → 1 ≤ end → end < length l → ((k : ℕ) → 1 ≤ k → k < end → Ends l k → ⊥) → Ends l end → data_start l ≡ cond (eqb (get_or l end 0) 10) (Some (end + 1)) None
  data_behind end p lt w e =
      let n : 1 + (end - 1) ≡ end = omega arith in
      head l h ∙ subst (λ (k : ℕ). data_from (drop 1 l) 1 (get_or l 0 0) ≡ data_from (drop k l) k (get_or l (k - 1) 0)) n (as_far l (end - 1) 1 (omega arith) (omega arith) (λ k f g. w k f (omega arith)))
      ∙ last_line l end lt e

-- each number is the one that is said where none differs
said_so : (l : List ℕ) (said : ℕ → ℕ) (i : ℕ) → differs l said i ≡ false → (k : ℕ) → k < length l → get_or l k 0 ≡ said (i + k)
unfolding differs
said_so [] said i e = λ k h. absurd (omega arith)
said_so (x ∷ rest) said i e = go (eqb x (said i)) refl e (said_so rest said (suc i))
  where
    go : (t : Bool) → eqb x (said i) ≡ t → (not t || differs rest said (suc i)) ≡ false → (differs rest said (suc i) ≡ false → (k : ℕ) → k < length rest → get_or rest k 0 ≡ said (suc i + k)) → (k : ℕ) → k < length (x ∷ rest) → get_or (x ∷ rest) k 0 ≡ said (i + k)
    go true q f more zero h =
        let here : i ≡ i + zero = omega arith in
        subst (λ (n : ℕ). x ≡ said n) here (eqb-true x (said i) q)
    go true q f more (suc k) h =
        let there : suc i + k ≡ i + suc k = omega arith in
        subst (λ (n : ℕ). get_or rest k 0 ≡ said n) there (more f k (omega arith))
    go false q f more k h = absurd (true≢false f)

-- none differs where each number is the one that is said
none_differs : (l : List ℕ) (said : ℕ → ℕ) (i : ℕ) → ((k : ℕ) → k < length l → get_or l k 0 ≡ said (i + k)) → differs l said i ≡ false
unfolding differs
none_differs [] said i h = refl
none_differs (x ∷ rest) said i h =
    let here : i + zero ≡ i = omega arith in
    let first : x ≡ said i = subst (λ (n : ℕ). x ≡ said n) here (h zero (omega arith)) in
    rw (eq-eqb x (said i) first) (none_differs rest said (suc i) (λ k lt.
    let there : i + suc k ≡ suc i + k = omega arith in
    subst (λ (n : ℕ). get_or rest k 0 ≡ said n) there (h (suc k) (omega arith))))

-- an answer whether the number at some place is not the one that is said
pub any_differs : (l : List ℕ) (said : ℕ → ℕ) (r : Bool) → Decides r ((i : ℕ) × (i < length l) × (get_or l i 0 ≢ said i)) → r ≡ differs l said 0
any_differs l said true h = go (differs l said 0) refl (h.0 refl)
  where
    go : (t : Bool) → differs l said 0 ≡ t → (i : ℕ) × (i < length l) × (get_or l i 0 ≢ said i) → true ≡ t
    go true q w = refl
    go false q w = absurd (w.2 (said_so l said 0 q w.0 w.1 ∙ ap said (zero-add w.0)))
any_differs l said false h = sym (none_differs l said 0 (λ k lt. told k lt (eqb (get_or l k 0) (said k)) refl ∙ ap said (sym (zero-add k))))
  where
    told : (k : ℕ) → k < length l → (t : Bool) → eqb (get_or l k 0) (said k) ≡ t → get_or l k 0 ≡ said k
    told k lt true q = eqb-true (get_or l k 0) (said k) q
    told k lt false q = absurd (true≢false (sym (h.1 (k, lt, eqb-false (get_or l k 0) (said k) q))))
