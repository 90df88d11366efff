-- On a finite graph it is decided whether two cells are linked: after as many rounds as there are cells nothing is added.
-- Assumes nothing.
use Prim.Native.Nat.{ℕ, zero, suc, ◌+◌, ◌≤◌, ◌<◌}
use mathlib.Core.Path.{◌≡◌, refl, sym, subst, ◌∙◌}
use mathlib.Core.Logic.{◌⊎◌, inl, inr, ◌↔◌}
use native.Mathlib.Decide.{ℕ_discrete, map_dec}
use native.Mathlib.Omega.{arith}
use Rattle.grid.specs.Link.{Linked, here, step}
use Rattle.grid.proofs.LinkLaws.{Linked-end, Linked-start, Linked-inside}
use Rattle.grid.specs.Count.{count}
use Rattle.grid.proofs.Count.{Dec-and, Dec-or, Dec-not, Dec-some, count-except, count_inj_suc, count-le}

-- Near k: what is found in k rounds
module _ (Adj : ℕ → ℕ → Type 0) (P : ℕ → Type 0) (n : ℕ) (below : (c : ℕ) → P c → c < n) (a : ℕ) (pa : P a)
    (Near : ℕ → ℕ → Type 0) (d_n : (k c : ℕ) → Dec (Near k c))
    (first : (c : ℕ) → Near 0 c ↔ (c ≡ a))
    (next : (k c : ℕ) → Near (suc k) c ↔ (Near k c ⊎ ((b : ℕ) × (b < n) × (Near k b × (Adj b c × P c))))) where
  Near-Linked : (k c : ℕ) → Near k c → Linked Adj P a c
  Near-Linked zero c h = subst (λ x. Linked Adj P a x) (sym ((first c).0 h)) (here pa)
  Near-Linked (suc k) c h = go ((next k c).0 h) (λ x. Near-Linked k x)
    where
      go : Near k c ⊎ ((b : ℕ) × (b < n) × (Near k b × (Adj b c × P c))) → ((x : ℕ) → Near k x → Linked Adj P a x) → Linked Adj P a c
      go (inl m) ih = ih c m
      go (inr (b, _, (m, (e, p)))) ih = step (ih b m) e p

  keep : (k d c : ℕ) → Near k c → Near (d + k) c
  keep k zero c m = subst (λ x. Near x c) (omega arith) m
  keep k (suc d) c m = subst (λ x. Near x c) (omega arith) ((next (d + k) c).1 (inl (keep k d c m)))

  -- the round after k adds nothing
  abbrev Closed : ℕ → Type 0
  Closed k = (c : ℕ) → Near (suc k) c → Near k c

  Closed-all : (k c : ℕ) → Closed k → Linked Adj P a c → Near k c
  Closed-all k c h = Linked-inside (Near k) (subst (λ x. Near x a) (omega arith) (keep 0 k a ((first a).1 refl)))
      (λ i j l m e p. h j ((next k j).1 (inr (i, below i (Linked-end l), (m, (e, p))))))

  rounds : (k : ℕ) → ((j : ℕ) × (j ≤ k) × Closed j) ⊎ (k < count (d_n k) n)
  rounds zero = inr (omega (arith, count-except (d_n 0) a n (below a pa) ((first a).1 refl)))
  rounds (suc k) = go (rounds k) (Dec-some (λ c. Dec-and (d_n (suc k) c) (Dec-not (d_n k c))) n)
    where
      go : ((j : ℕ) × (j ≤ k) × Closed j) ⊎ (k < count (d_n k) n) → Dec ((c : ℕ) × (c < n) × (Near (suc k) c × ¬ Near k c))
          → ((j : ℕ) × (j ≤ suc k) × Closed j) ⊎ (suc k < count (d_n (suc k)) n)
      go (inl (j, l, h)) _ = inl (j, omega arith, h)
      go (inr l) (yes (x, xl, (m, h))) = inr (omega (
        arith,
        l,
        count_inj_suc (λ i c. i ≡ c) (d_n k) n n (λ i j c _ _ p q. p ∙ sym q) (d_n (suc k)) x xl m
            (λ i il q. (i, il, ((next k i).1 (inl q), λ z. h (subst (Near k) z q)), refl)),
      ))
      go (inr l) (no h) = inl (k, omega arith, λ c m. pick c m (d_n k c))
        where
          pick : (c : ℕ) → Near (suc k) c → Dec (Near k c) → Near k c
          pick c m (yes q) = q
          pick c m (no r) = absurd (h (c, below c (Linked-end (Near-Linked (suc k) c m)), (m, r)))

  pub Near-iff : (c : ℕ) → Near n c ↔ Linked Adj P a c
  Near-iff c = (Near-Linked n c, λ l. go l (rounds n))
    where
      go : Linked Adj P a c → ((j : ℕ) × (j ≤ n) × Closed j) ⊎ (n < count (d_n n) n) → Near n c
      go l (inl (j, jl, h)) = spread (n_from j jl) (Closed-all j c h l)
        where
          n_from : (j : ℕ) → j ≤ n → (d : ℕ) × (d + j ≡ n)
          n_from j l = (Prim.Native.Nat.◌-◌ n j, omega arith)

          spread : (d : ℕ) × (d + j ≡ n) → Near j c → Near n c
          spread (d, e) m = subst (λ x. Near x c) e (keep j d c m)
      go l (inr h) = absurd (omega (arith, count-le (d_n n) n))

module _ (Adj : ℕ → ℕ → Type 0) (d_a : (i j : ℕ) → Dec (Adj i j)) (n : ℕ) where
  module _ (P : ℕ → Type 0) (d_p : (c : ℕ) → Dec (P c)) (below : (c : ℕ) → P c → c < n) where
    Near : ℕ → ℕ → ℕ → Type 0
    Near a zero c = c ≡ a
    Near a (suc k) c = Near a k c ⊎ ((b : ℕ) × (b < n) × (Near a k b × (Adj b c × P c)))

    d_near : (a k c : ℕ) → Dec (Near a k c)
    unfolding Near
    d_near a zero c = ℕ_discrete c a
    d_near a (suc k) c = Dec-or (d_near a k c) (Dec-some (λ b. Dec-and (d_near a k b) (Dec-and (d_a b c) (d_p c))) n)

    -- it is decided whether two cells are linked
    pub Dec-Linked : (a c : ℕ) → Dec (Linked Adj P a c)
    unfolding Near
    Dec-Linked a c = go (d_p a)
      where
        go : Dec (P a) → Dec (Linked Adj P a c)
        go (no h) = no (λ l. h (Linked-start l))
        go (yes p) =
            let e = Near-iff Adj P n below a p (Near a) (d_near a) (λ c. (λ z. z, λ z. z)) (λ k c. (λ z. z, λ z. z)) c in
            map_dec e.0 e.1 (d_near a n c)
