-- The neighbours of a cell in the order of the sheet: they are its neighbours, each once.
-- Assumes nothing.
use Prim.Native.Nat.{ℕ, ◌<◌}
use native.Mathlib.Omega.{arith}
use mathlib.Core.Logic.{◌⊎◌, inl, inr}
use mathlib.Core.Path.{refl, subst}
use mathlib.Core.Bool.{Bool, true, false}
use mathlib.Core.List.Memᴰ
use mathlib.Core.List.{List, ◌++◌, Memᴰ}
use Rattle.grid.specs.Lists.{Distinct}
use Rattle.grid.specs.Grid.{Grid, size, up, down, left, right, only, neighbours, Beside, above, below, before, behind}
use Rattle.grid.proofs.GridLaws.{width_pos, apart as neighbours_apart}
use Rattle.clauses.specs.Clauses.{onwards, around}

mem_swap : (a b c : List ℕ) {x : ℕ} → Memᴰ x (a ++ (b ++ c)) → Memᴰ x (b ++ (a ++ c))
mem_swap a b c {x} m = go (Memᴰ.append_cases a m)
  where
    more : Memᴰ x b ⊎ Memᴰ x c → Memᴰ x (b ++ (a ++ c))
    more (inl k) = Memᴰ.append_left (a ++ c) k
    more (inr k) = Memᴰ.append_right b (Memᴰ.append_right a k)

    go : Memᴰ x a ⊎ Memᴰ x (b ++ c) → Memᴰ x (b ++ (a ++ c))
    go (inl k) = Memᴰ.append_right b (Memᴰ.append_left c k)
    go (inr k) = more (Memᴰ.append_cases b k)

mem_under : (o : List ℕ) {l m : List ℕ} {x : ℕ} → ((y : ℕ) → Memᴰ y l → Memᴰ y m) → Memᴰ x (o ++ l) → Memᴰ x (o ++ m)
mem_under o {l} {m} {x} f k = go (Memᴰ.append_cases o k)
  where
    go : Memᴰ x o ⊎ Memᴰ x l → Memᴰ x (o ++ m)
    go (inl r) = Memᴰ.append_left m r
    go (inr r) = Memᴰ.append_right o (f x r)

only_front : (b : Bool) (x : ℕ) (l : List ℕ) → Distinct (only b x ++ l) → ((y : ℕ) → Memᴰ y (only b x) → Memᴰ y l → ⊥) × Distinct l
unfolding only
only_front true x l d = (λ y m k. d.0 (subst (λ z. Memᴰ z l) (Memᴰ.eq_of_singleton m) k), d.1)
only_front false x l d = (λ y m k. Memᴰ.not-nil m, d)

front_only : (b : Bool) (x : ℕ) (l : List ℕ) → ((y : ℕ) → Memᴰ y (only b x) → Memᴰ y l → ⊥) → Distinct l → Distinct (only b x ++ l)
unfolding only
front_only true x l n d = (λ m. n x (Memᴰ.head refl) m, d)
front_only false x l n d = d

Distinct-swap : (a b c d : Bool) (x y z w : ℕ) → Distinct (only a x ++ (only b y ++ (only c z ++ only d w))) → Distinct (only a x ++ (only c z ++ (only b y ++ only d w)))
Distinct-swap a b c d x y z w D =
    let r = only_front a x (only b y ++ (only c z ++ only d w)) D in
    let s = only_front b y (only c z ++ only d w) r.1 in
    let t = only_front c z (only d w) s.1 in
    let inner : Distinct (only b y ++ only d w) = front_only b y (only d w) (λ k m n. s.0 k m (Memᴰ.append_right (only c z) n)) t.1 in
    front_only a x (only c z ++ (only b y ++ only d w)) (λ k m n. r.0 k m (mem_swap (only c z) (only b y) (only d w) n))
    (front_only c z (only b y ++ only d w) (λ k m n. third s t k m (Memᴰ.append_cases (only b y) n)) inner)
  where
    third : ((k : ℕ) → Memᴰ k (only b y) → Memᴰ k (only c z ++ only d w) → ⊥) × Distinct (only c z ++ only d w) → ((k : ℕ) → Memᴰ k (only c z) → Memᴰ k (only d w) → ⊥) × Distinct (only d w)
        → (k : ℕ) → Memᴰ k (only c z) → Memᴰ k (only b y) ⊎ Memᴰ k (only d w) → ⊥
    third s t k m (inl n) = s.0 k n (Memᴰ.append_left (only d w) m)
    third s t k m (inr n) = t.0 k m n

module _ (g : Grid) (i : ℕ) where
  pub around_near : {j : ℕ} → Memᴰ j (around g i) → Memᴰ j (neighbours g i)
  unfolding around neighbours
  around_near m = mem_under (up g i) (λ y k. mem_swap (left g i) (down g i) (right g i) k) m

  pub onwards_near : {j : ℕ} → Memᴰ j (onwards g i) → Memᴰ j (neighbours g i)
  unfolding onwards neighbours
  onwards_near m = Memᴰ.append_right (up g i) (mem_under (down g i) (λ y k. Memᴰ.append_right (left g i) k) m)

  pub around-Distinct : i < size g → Distinct (around g i)
  unfolding around neighbours up down left right
  around-Distinct h = Distinct-swap _ _ _ _ _ _ _ _ (neighbours_apart g i h)

  -- no cell is beside itself
  pub not_Beside : i < size g → Beside g i i → ⊥
  not_Beside h (above e) = omega (arith, width_pos g h)
  not_Beside h (below l e) = omega (arith, width_pos g h)
  not_Beside h (before l e) = omega arith
  not_Beside h (behind l e) = omega arith
