-- Decided predicates, and how many numbers below n satisfy one; injections.
-- Assumes nothing.
use Prim.Native.Nat.{ℕ, zero, suc, ◌+◌, ◌≤◌, ◌<◌, zero-le}
use mathlib.Core.Path.{◌≡◌, refl, sym, ap, ◌∙◌, subst}
use mathlib.Core.Logic.{◌⊎◌, inl, inr, ◌≢◌}
use native.Mathlib.Decide.{ℕ_discrete}
use native.Mathlib.Omega.{arith}
use mathlib.Core.Bool.{Bool, So, cond}
use mathlib.Core.List.{◌∷◌}
use lib.ListN.{length}
use Rattle.grid.specs.Lists.{range, upto, filter}
use Rattle.grid.specs.Count.{bump, count}
use Rattle.grid.proofs.ListLaws.{Dec-So, So-false}

-- decisions
pub Dec-and : {A B : Type 0} → Dec A → Dec B → Dec (A × B)
Dec-and (yes a) (yes b) = yes (a, b)
Dec-and (yes a) (no h) = no (λ p. h p.1)
Dec-and (no h) b = no (λ p. h p.0)

pub Dec-or : {A B : Type 0} → Dec A → Dec B → Dec (A ⊎ B)
Dec-or (yes a) b = yes (inl a)
Dec-or (no h) (yes b) = yes (inr b)
Dec-or (no h) (no k) = no (λ s. elim s [ inl a ↦ h a | inr b ↦ k b ])

pub Dec-not : {A : Type 0} → Dec A → Dec (¬ A)
Dec-not (yes a) = no (λ h. h a)
Dec-not (no h) = yes h

-- a bounded search: a number below n that satisfies P, or none
pub Dec-some : {P : ℕ → Type 0} → ((i : ℕ) → Dec (P i)) → (n : ℕ) → Dec ((i : ℕ) × (i < n) × P i)
Dec-some d zero = no (λ w. omega (arith, w.1))
Dec-some {P} d (suc n) = go (d n) (Dec-some d n)
  where
    go : Dec (P n) → Dec ((i : ℕ) × (i < n) × P i) → Dec ((i : ℕ) × (i < suc n) × P i)
    go (yes p) _ = yes (n, omega arith, p)
    go (no h) (yes (i, l, p)) = yes (i, omega arith, p)
    go (no h) (no k) = no (λ (i, l, p). last i l p (ℕ_discrete i n))
      where
        last : (i : ℕ) → i < suc n → P i → Dec (i ≡ n) → ⊥
        last i l p (yes e) = h (subst P e p)
        last i l p (no ne) = k (i, omega arith, p)

-- one more where it holds
pub bump_yes : {A : Type 0} (x : Dec A) (k : ℕ) → A → bump x k ≡ suc k
bump_yes (yes _) k a = refl
bump_yes (no h) k a = absurd (h a)

pub bump_no : {A : Type 0} (x : Dec A) (k : ℕ) → ¬ A → bump x k ≡ k
bump_no (yes a) k h = absurd (h a)
bump_no (no _) k h = refl

bump_iff : {A B : Type 0} (x : Dec A) (y : Dec B) (k : ℕ) → (A → B) → (B → A) → bump x k ≡ bump y k
bump_iff (yes a) y k f g = sym (bump_yes y k (f a))
bump_iff (no h) y k f g = sym (bump_no y k (λ b. h (g b)))

-- P without k
abbrev pub except : {P : ℕ → Type 0} → ((i : ℕ) → Dec (P i)) → (k i : ℕ) → Dec (P i × (i ≢ k))
except d k i = Dec-and (d i) (Dec-not (ℕ_discrete i k))

-- equal predicates are equally many
pub count_iff : {P Q : ℕ → Type 0} (d : (i : ℕ) → Dec (P i)) (e : (i : ℕ) → Dec (Q i)) (n : ℕ)
    → ((i : ℕ) → i < n → P i → Q i) → ((i : ℕ) → i < n → Q i → P i) → count d n ≡ count e n
count_iff d e zero f g = refl
count_iff d e (suc n) f g =
    bump_iff (d n) (e n) (count d n) (f n (omega arith)) (g n (omega arith))
    ∙ ap (bump (e n)) (count_iff d e n (λ i l. f i (omega arith)) (λ i l. g i (omega arith)))

-- one element taken out
pub count-except : {P : ℕ → Type 0} (d : (i : ℕ) → Dec (P i)) (k n : ℕ) → k < n → P k → count d n ≡ suc (count (except d k) n)
count-except d k zero l p = absurd (omega arith)
count-except {P} d k (suc n) l p = go (ℕ_discrete k n) (λ h. count-except d k n h p)
  where
    go : Dec (k ≡ n) → (k < n → count d n ≡ suc (count (except d k) n)) → bump (d n) (count d n) ≡ suc (bump (except d k n) (count (except d k) n))
    go (yes e) ih =
        bump_yes (d n) (count d n) (subst P e p)
        ∙ ap suc (count_iff d (except d k) n (λ i l q. (q, λ z. omega arith)) (λ i l q. q.0) ∙ sym (bump_no (except d k n) _ (λ q. q.1 (sym e))))
    go (no ne) ih =
        ap (bump (d n)) (ih (omega arith)) ∙ go' (d n)
      where
        go' : (x : Dec (P n)) → bump x (suc (count (except d k) n)) ≡ suc (bump (except d k n) (count (except d k) n))
        go' (yes q) = ap suc (sym (bump_yes (except d k n) _ (q, λ z. ne (sym z))))
        go' (no h) = ap suc (sym (bump_no (except d k n) _ (λ q. h q.0)))

-- a relation that takes each element of P to one of Q, no two to the same
pub count_inj : {P : ℕ → Type 0} (R : ℕ → ℕ → Type 0) (d : (i : ℕ) → Dec (P i)) (n N : ℕ)
    → ((i j k : ℕ) → P i → P j → R i k → R j k → i ≡ j)
    → (Q : ℕ → Type 0) (e : (i : ℕ) → Dec (Q i))
    → ((i : ℕ) → i < n → P i → (k : ℕ) × (k < N) × Q k × R i k)
    → count d n ≤ count e N
count_inj R d zero N inj Q e f = zero-le
count_inj {P} R d (suc n) N inj Q e f = go (d n) (λ Q' e'. count_inj R d n N inj Q' e')
  where
    go : (x : Dec (P n))
        → ((Q' : ℕ → Type 0) (e' : (i : ℕ) → Dec (Q' i)) → ((i : ℕ) → i < n → P i → (k : ℕ) × (k < N) × Q' k × R i k) → count d n ≤ count e' N)
        → bump x (count d n) ≤ count e N
    go (yes p) ih =
        let t = f n (omega arith) p in
        let low : count d n ≤ count (except e t.0) N = ih _ (except e t.0) (λ i l q.
        let u = f i (omega arith) q in
        (u.0, u.1, (u.2, λ z. let same : i ≡ n = inj i n t.0 q p (subst (R i) z u.3) t.3 in omega arith), u.3)) in
        omega (arith, low, count-except e t.0 N t.1 t.2)
    go (no h) ih = ih Q e (λ i l. f i (omega arith))

-- a larger predicate is at least as many
pub count_mono : {P Q : ℕ → Type 0} (d : (i : ℕ) → Dec (P i)) (e : (i : ℕ) → Dec (Q i)) (n : ℕ) → ((i : ℕ) → i < n → P i → Q i) → count d n ≤ count e n
count_mono {Q = Q} d e n f = count_inj (λ i k. i ≡ k) d n n (λ i j k _ _ p q. p ∙ sym q) Q e (λ i l p. (i, l, f i l p, refl))

-- a relation that takes each element of P to one of Q, no two to the same, and none to the element x of Q
pub count_inj_suc : {P : ℕ → Type 0} (R : ℕ → ℕ → Type 0) (d : (i : ℕ) → Dec (P i)) (n N : ℕ)
    → ((i j k : ℕ) → P i → P j → R i k → R j k → i ≡ j)
    → {Q : ℕ → Type 0} (e : (i : ℕ) → Dec (Q i)) (x : ℕ) → x < N → Q x
    → ((i : ℕ) → i < n → P i → (k : ℕ) × (k < N) × (Q k × (k ≢ x)) × R i k)
    → suc (count d n) ≤ count e N
count_inj_suc R d n N inj e x l q f = omega (arith, count-except e x N l q, count_inj R d n N inj _ (except e x) f)

-- at most n numbers lie below n
pub count-le : {P : ℕ → Type 0} (d : (i : ℕ) → Dec (P i)) (n : ℕ) → count d n ≤ n
count-le d zero = zero-le
count-le {P} d (suc n) = go (d n) (count-le d n)
  where
    go : (x : Dec (P n)) → count d n ≤ n → bump x (count d n) ≤ suc n
    go (yes _) h = omega arith
    go (no _) h = omega arith

-- lengths are counts
pub count_front : {P : ℕ → Type 0} (d : (i : ℕ) → Dec (P i)) (n : ℕ) → count d (suc n) ≡ bump (d 0) (count (λ i. d (suc i)) n)
count_front d zero = refl
count_front {P} d (suc n) = ap (bump (d (suc n))) (count_front d n) ∙ swap (d (suc n)) (d 0) _
  where
    swap : {A B : Type 0} (x : Dec A) (y : Dec B) (k : ℕ) → bump x (bump y k) ≡ bump y (bump x k)
    swap (yes _) (yes _) k = refl
    swap (yes _) (no _) k = refl
    swap (no _) (yes _) k = refl
    swap (no _) (no _) k = refl

length-filter-range : (p : ℕ → Bool) (a k : ℕ) → length (filter p (range a k)) ≡ count (λ i. Dec-So (p (a + i))) k
unfolding range
length-filter-range p a zero = refl
length-filter-range p a (suc k) =
    go (Dec-So (p a)) (length-filter-range p (suc a) k)
    ∙ sym (count_front (λ i. Dec-So (p (a + i))) k)
  where
    same : count (λ i. Dec-So (p (suc a + i))) k ≡ count (λ i. Dec-So (p (a + suc i))) k
    same = count_iff (λ i. Dec-So (p (suc a + i))) (λ i. Dec-So (p (a + suc i))) k (λ i _ h. subst (λ x. So (p x)) (omega arith) h) (λ i _ h. subst (λ x. So (p x)) (omega arith) h)

    at0 : So (p a) → So (p (a + 0))
    at0 h = subst (λ x. So (p x)) (omega arith) h

    at0' : So (p (a + 0)) → So (p a)
    at0' h = subst (λ x. So (p x)) (omega arith) h

    go : Dec (So (p a)) → length (filter p (range (suc a) k)) ≡ count (λ i. Dec-So (p (suc a + i))) k
        → length (cond (p a) (a ∷ filter p (range (suc a) k)) (filter p (range (suc a) k))) ≡ bump (Dec-So (p (a + 0))) (count (λ i. Dec-So (p (a + suc i))) k)
    go (yes h) ih = rw h (ap suc (ih ∙ same) ∙ sym (bump_yes (Dec-So (p (a + 0))) _ (at0 h)))
    go (no h) ih = rw (So-false (p a) h) (ih ∙ same ∙ sym (bump_no (Dec-So (p (a + 0))) _ (λ z. h (at0' z))))

-- the length of a filtered list of cells
pub length-filter : {P : ℕ → Type 0} (p : ℕ → Bool) (n : ℕ) (d : (i : ℕ) → Dec (P i)) → ((i : ℕ) → i < n → So (p i) → P i) → ((i : ℕ) → i < n → P i → So (p i))
    → length (filter p (upto n)) ≡ count d n
unfolding upto
length-filter p n d f h = length-filter-range p 0 n ∙ count_iff (λ i. Dec-So (p (0 + i))) d n
    (λ i l k. f i l (subst (λ x. So (p x)) (omega arith) k)) (λ i l k. subst (λ x. So (p x)) (omega arith) (h i l k))
