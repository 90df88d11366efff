-- Kinds, reach, fence and confinement over an abstract graph.
-- Assumes nothing.
use Prim.Native.Nat.{ℕ}
use mathlib.Core.Path.{◌≡◌, subst}
use mathlib.Core.Logic.{◌⊎◌, inl, inr}
use Rattle.kinds.specs.Meaning.{PartialBoard, Block, InArrow, Touch, Foreign, Floating, Reach}
use Rattle.grid.specs.Link.{Linked, here, step}
use Rattle.grid.proofs.LinkLaws.{Linked-end, Linked-trans, Linked-sym, Linked-inside, Linked-map}

module _ (B : PartialBoard) where
  open B use {Adj, Arrow, Empty, Square, Undecided}

  -- what the proof of confinement takes: touching is mutual, a cell is one of three, and the rest is decided
  pub record Decide : Type 0 where
    pub adj_sym : (i j : ℕ) → Adj i j → Adj j i
    pub cases : (c : ℕ) → Empty c ⊎ Square c ⊎ Undecided c
    pub blk : (a c : ℕ) → Dec (Block B a c)
    pub in_arrow : (c : ℕ) → Dec (InArrow B c)
    pub touch : (a c : ℕ) → Dec (Touch B a c)
    pub foreign : (a c : ℕ) → Dec (Foreign B a c)

  -- the filling F agrees with the fence of a's block
  pub record Fenced (F : ℕ → Type 0) (a : ℕ) : Type 0 where
    pub out : (r e : ℕ) → Reach B a r → Adj r e → Empty e → ¬ F e
    pub far : (r u d x : ℕ) → Reach B a r → Adj r u → Undecided u → Arrow d → ¬ Block B a d → Touch B d u → Block B d x → F x

  -- no block of the filling has two arrow cells
  abbrev pub OneArrow : (ℕ → Type 0) → Type 0
  OneArrow F = (d e : ℕ) → Arrow d → Arrow e → Linked Adj F d e → d ≡ e

  module _ (D : Decide) (F : ℕ → Type 0) (one : OneArrow F) (a : ℕ) (arrow : Arrow a) (sq : Square a) (fence : Fenced F a) where
    -- a square beside a cell of the reach is in the reach
    Reach-sq : (i j : ℕ) → Reach B a i → Adj i j → Square j → Reach B a j
    Reach-sq i j (inl b) e s = inl (step b e s)
    Reach-sq i j (inr (inl m)) e s = go (D.in_arrow j)
      where
        go : Dec (InArrow B j) → Reach B a j
        go (yes (d, ad, l)) = own (D.blk a d)
          where
            own : Dec (Block B a d) → Reach B a j
            own (yes b) = inl (Linked-trans b l)
            own (no h) = absurd (m.2 (d, ad, h, (j, e, l)))
        go (no h) = inr (inr (i, j, m, e, here (inl (s, h))))
    Reach-sq i j (inr (inr (m, f, nb, mf, l))) e s = inr (inr (m, f, nb, mf, step l e (inl (s, λ k. go k (Linked-end l)))))
      where
        go : InArrow B j → Floating B i → ⊥
        go (d, ad, k) (inl (si, h)) = h (d, ad, step k (D.adj_sym i j e) si)
        go (d, ad, k) (inr (ui, h)) = h (d, ad, (j, e, k))

    -- so is an undecided cell that the filling makes a square of a's block
    Reach-un : (i j : ℕ) → Linked Adj F a i → Reach B a i → Adj i j → F j → Undecided j → Reach B a j
    Reach-un i j l r e fj u = go (D.foreign a j)
      where
        floats : ¬ Foreign B a j → ¬ Touch B a j → Floating B j
        floats nf nt = inr (u, λ (d, ad, t). own d ad t (D.blk a d))
          where
            own : (d : ℕ) → Arrow d → Touch B d j → Dec (Block B a d) → ⊥
            own d ad (y, jy, k) (yes b) = nt (y, jy, Linked-trans b k)
            own d ad t (no h) = nf (d, ad, h, t)

        away : Reach B a i → ¬ Touch B a j → Floating B j → Reach B a j
        away (inl b) nt f = absurd (nt (i, D.adj_sym i j e, b))
        away (inr (inl m)) nt f = inr (inr (i, j, m, e, here f))
        away (inr (inr (m, g, nb, mg, k))) nt f = inr (inr (m, g, nb, mg, step k e f))

        near : ¬ Foreign B a j → Dec (Touch B a j) → Reach B a j
        near nf (yes t) = inr (inl (u, t, nf))
        near nf (no nt) = away r nt (floats nf nt)

        go : Dec (Foreign B a j) → Reach B a j
        go (yes (d, ad, h, (y, jy, k))) =
            let all : (x : ℕ) → Block B d x → F x = λ x b. fence.far i j d x r e u ad h (y, jy, k) b in
            let dy : Linked Adj F d y = Linked-map all k in
            let ad' : a ≡ d = one a d arrow ad (Linked-trans (step (step l e fj) jy (Linked-end dy)) (Linked-sym D.adj_sym dy)) in
            absurd (h (subst (λ (x : ℕ). Block B a x) ad' (here sq)))
        go (no nf) = near nf (D.touch a j)

    -- a's block of the filling lies in the reach
    pub confined : (c : ℕ) → Linked Adj F a c → Reach B a c
    confined c = Linked-inside (Reach B a) (inl (here sq)) (λ i j l r e fj. go i j l r e fj (D.cases j))
      where
        go : (i j : ℕ) → Linked Adj F a i → Reach B a i → Adj i j → F j → Empty j ⊎ Square j ⊎ Undecided j → Reach B a j
        go i j l r e fj (inl z) = absurd (fence.out i j r e z fj)
        go i j l r e fj (inr (inl s)) = Reach-sq i j r e s
        go i j l r e fj (inr (inr u)) = Reach-un i j l r e fj u

  -- reason 1: a potential group with a square s, no arrow cell, and its empty neighbours as 0
  pub lonely : (F : ℕ → Type 0) (s : ℕ) → F s → ¬ Empty s
      → ((c : ℕ) → Linked Adj (λ k. ¬ Empty k) s c → ¬ Arrow c)
      → ((r e : ℕ) → Linked Adj (λ k. ¬ Empty k) s r → Adj r e → Empty e → ¬ F e)
      → ((d : ℕ) × Arrow d × Linked Adj F s d) → ⊥
  lonely F s fs ne none out (d, ad, l) =
      none d (Linked-inside (Linked Adj (λ k. ¬ Empty k) s) (here ne) (λ i j _ r e fj. step r e (λ z. out i j r e z fj)) l) ad
