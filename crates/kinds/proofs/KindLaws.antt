-- A cell is a barrier by its computed kind exactly when it is undecided and touches two arrow blocks or more.
-- Assumes nothing.
use Prim.Native.Nat.{ℕ, ◌<◌}
use mathlib.Core.Logic.{◌↔◌}
use mathlib.Core.Path.{◌≡◌, refl, sym, ◌∙◌, subst}
use mathlib.Core.Bool.{Bool, true, false, cond}
use mathlib.Core.List.Memᴰ
use mathlib.Core.List.{List, [], ◌∷◌, Memᴰ}
use native.Mathlib.Omega.{arith}
use Rattle.grid.specs.Lists.{Distinct, member, once}
use Rattle.grid.specs.Grid.{Grid, size}
use Rattle.grid.proofs.LinkLaws.{Linked-start}
use Rattle.grid.proofs.ListLaws.{Dec-So, So-false, mem-member, once-mem}
use Rattle.grid.specs.Cells.{empty, square}
use Rattle.kinds.specs.Kinds.{vacant, barrier, floating, in_block, kind_touching, blocks_touched, kind_at}
use Rattle.kinds.specs.Meaning.{Barrier, Setting, partial_of}
use Rattle.kinds.proofs.Bridge.{block_name, kind, arrowed, listed, around, around-So, so_around, listed-mem, mem-listed, undecided-So, un_sq_false, un_em_false, block_Labels}

-- `once` leaves no member twice
once-Distinct : (l : List ℕ) → Distinct (once l)
unfolding once
once-Distinct [] = tt
once-Distinct (x ∷ xs) = go (Dec-So (member x xs)) (once-Distinct xs)
  where
    go : Dec (member x xs ≡ true) → Distinct (once xs) → Distinct (cond (member x xs) (once xs) (x ∷ once xs))
    go (yes h) d = rw h d
    go (no h) d = rw (So-false (member x xs) h) (λ m. h (mem-member x xs (once-mem xs m)), d)

-- a barrier's tests: neither empty nor square, and two arrow blocks or more around it
barrier_of : (e s a : Bool) (m : ℕ) (l : List ℕ) → cond e vacant (cond s (cond a (in_block m) floating) (kind_touching l)) ≡ barrier
    → (e ≡ false) × (s ≡ false) × ((x y : ℕ) × (r : List ℕ) × (l ≡ x ∷ y ∷ r))
unfolding kind_touching
barrier_of true s a m l h = absurd (let z : ◌≡◌ {A = ℕ} 0 1 = cc in omega arith)
barrier_of false true true m l h = absurd (let z : ◌≡◌ {A = ℕ} 0 1 = cc in omega arith)
barrier_of false true false m l h = absurd (let z : ◌≡◌ {A = ℕ} 0 1 = cc in omega arith)
barrier_of false false a m [] h = absurd (let z : ◌≡◌ {A = ℕ} 0 1 = cc in omega arith)
barrier_of false false a m (x ∷ []) h = absurd (let z : ◌≡◌ {A = ℕ} 0 1 = cc in omega arith)
barrier_of false false a m (x ∷ y ∷ r) h = (refl, refl, (x, y, r, refl))

-- two members that differ make a barrier
two_barrier : (l : List ℕ) (x y : ℕ) → Memᴰ x l → Memᴰ y l → ¬ (x ≡ y) → kind_touching l ≡ barrier
unfolding kind_touching
two_barrier [] x y m n d = absurd (Memᴰ.not-nil m)
two_barrier (f ∷ []) x y m n d = absurd (d (Memᴰ.eq_of_singleton m ∙ sym (Memᴰ.eq_of_singleton n)))
two_barrier (f ∷ e ∷ es) x y m n d = refl

module _ (set : Setting) where
  open set use {puzzle, cells}

  abbrev pub grid : Grid
  grid = puzzle.grid

  -- the kind of a cell of the grid is barrier
  Barrier-so : (i : ℕ) → i < size grid → kind set i ≡ barrier → Barrier (partial_of set) i
  unfolding kind_at blocks_touched
  Barrier-so i l h = go q.2.0 q.2.1 q.2.2 q.2.3
    where
      q : (empty cells i ≡ false) × (square cells i ≡ false) × ((x y : ℕ) × (r : List ℕ) × (listed set i ≡ x ∷ y ∷ r))
      q = barrier_of (empty cells i) (square cells i) (arrowed set (block_name set i)) (block_name set i) (listed set i) h

      go : (x y : ℕ) (r : List ℕ) → listed set i ≡ x ∷ y ∷ r → Barrier (partial_of set) i
      go x y r e =
          let apart : Distinct (x ∷ y ∷ r) = subst Distinct e (once-Distinct (around set i)) in
          let d = around-So set i x l (listed-mem set i x (subst (Memᴰ x) (sym e) (Memᴰ.head refl))) in
          let f = around-So set i y l (listed-mem set i y (subst (Memᴰ y) (sym e) (Memᴰ.tail (Memᴰ.head refl)))) in
          (undecided-So set i q.0 q.1, (d.0, f.0, d.1, f.1, d.2, f.2, λ b. apart.0 (Memᴰ.head (sym d.3 ∙ (block_Labels set).linked d.0 f.0 b ∙ f.3))))

  so_Barrier : (i : ℕ) → Barrier (partial_of set) i → kind set i ≡ barrier
  unfolding kind_at
  so_Barrier i (u, (d, e, ad, ae, td, te, n)) = rw (un_em_false set i u, un_sq_false set i u)
      (two_barrier (listed set i) (block_name set d) (block_name set e) (mem-listed set i _ (so_around set i d ad td)) (mem-listed set i _ (so_around set i e ae te))
      (λ z. n ((block_Labels set).same d e (Linked-start td.2) (Linked-start te.2) z)))

  -- a barrier is an undecided cell that touches two arrow blocks or more
  pub kind-Barrier : (i : ℕ) → i < size grid → (kind set i ≡ barrier) ↔ Barrier (partial_of set) i
  kind-Barrier i l = (Barrier-so i l, so_Barrier i)
