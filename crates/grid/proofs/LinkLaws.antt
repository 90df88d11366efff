-- Laws of linked cells.
-- Assumes nothing.
use Prim.Native.Nat.{ℕ}
use Rattle.grid.specs.Link.{Linked, here, step}

module _ {Adj : ℕ → ℕ → Type 0} {P : ℕ → Type 0} where
  -- both ends satisfy P
  pub Linked-end : {a c : ℕ} → Linked Adj P a c → P c
  Linked-end (here p) = p
  Linked-end (step l e p) = p

  pub Linked-start : {a c : ℕ} → Linked Adj P a c → P a
  Linked-start (here p) = p
  Linked-start (step l e p) = Linked-start l

  -- links can be joined, and go both ways
  pub Linked-trans : {a b c : ℕ} → Linked Adj P a b → Linked Adj P b c → Linked Adj P a c
  Linked-trans k (here p) = k
  Linked-trans k (step l e p) = step (Linked-trans k l) e p

  pub Linked-sym : ((i j : ℕ) → Adj i j → Adj j i) → {a c : ℕ} → Linked Adj P a c → Linked Adj P c a
  Linked-sym s (here p) = here p
  Linked-sym s (step l e p) = Linked-trans (step (here p) (s _ _ e) (Linked-end l)) (Linked-sym s l)

  -- what holds at a and goes on with each step holds at every cell of a's group
  pub Linked-inside : (R : ℕ → Type 0) {a c : ℕ} → R a → ((i j : ℕ) → Linked Adj P a i → R i → Adj i j → P j → R j) → Linked Adj P a c → R c
  Linked-inside R r f (here p) = r
  Linked-inside R r f (step l e p) = f _ _ l (Linked-inside R r f l) e p

  -- through cells that all satisfy Q
  pub Linked-map : {Q : ℕ → Type 0} {a c : ℕ} → ((x : ℕ) → Linked Adj P a x → Q x) → Linked Adj P a c → Linked Adj Q a c
  Linked-map f (here p) = here (f _ (here p))
  Linked-map f (step l e p) = step (Linked-map f l) e (f _ (step l e p))
