-- Distinct cells of a grid are at most as many as its cells; so are the cells of all arrows of a record.
-- Assumes nothing.
use Prim.Native.Nat.{ℕ, ◌≤◌, ◌<◌}
use native.Mathlib.Omega.{arith}
use mathlib.Core.Logic.{◌⊎◌, inl, inr}
use mathlib.Core.Path.{◌≡◌, refl}
use mathlib.Core.List.Memᴰ
use mathlib.Core.List.{List, [], ◌∷◌, ◌++◌, Memᴰ}
use lib.ListN.{length, length-append}
use Rattle.grid.specs.Lists.{flat_map, Distinct}
use Rattle.grid.proofs.ListLaws.{flat_map-mem, Distinct-few}
use Rattle.grid.specs.Grid.{Grid, size}
use Rattle.grid.proofs.GridLaws.{beside, on_grid}
use Rattle.record.specs.Record.{Puzzle}
use Rattle.record.specs.Valid.{Walk, end, on, Fresh, Arrow, arrow, Arrows, Valid}

-- fewer cells are used
pub fewer : {u v l : List ℕ} → ((x : ℕ) → Memᴰ x v → Memᴰ x u) → Fresh u l → Fresh v l
fewer f Fresh.nil = Fresh.nil
fewer {u} {v} f (Fresh.cons {j} {js} h r) = Fresh.cons (λ m. h (f j m)) (fewer more r)
  where
    more : (x : ℕ) → Memᴰ x (j ∷ v) → Memᴰ x (j ∷ u)
    more x (Memᴰ.head e) = Memᴰ.head e
    more x (Memᴰ.tail m) = Memᴰ.tail (f x m)

-- fresh members are distinct
pub Fresh-Distinct : {u l : List ℕ} → Fresh u l → Distinct l
Fresh-Distinct Fresh.nil = tt
Fresh-Distinct (Fresh.cons {j} {js} h r) = (later r (Memᴰ.head refl), Fresh-Distinct r)
  where
    later : {u l : List ℕ} {x : ℕ} → Fresh u l → Memᴰ x u → Memᴰ x l → ⊥
    later (Fresh.cons h r) m (Memᴰ.head e) = h (rw (← e) m)
    later (Fresh.cons h r) m (Memᴰ.tail k) = later r (Memᴰ.tail m) k
    later Rattle.record.specs.Valid.nil m x12 = elim x12 [ ]

-- distinct numbers below n are at most n
pub Fresh-length : (n : ℕ) (u l : List ℕ) → Fresh u l → ((x : ℕ) → Memᴰ x l → x < n) → length l ≤ n
Fresh-length n u l r f = Distinct-few l n (Fresh-Distinct r) f

-- distinct members, and then others
pub Fresh-append : {u a b : List ℕ} → Fresh u a → Fresh (a ++ u) b → Fresh u (a ++ b)
Fresh-append Fresh.nil s = s
Fresh-append {u} (Fresh.cons {j} {js} h r) s = Fresh.cons h (Fresh-append r (fewer turn s))
  where
    turn : (x : ℕ) → Memᴰ x (js ++ (j ∷ u)) → Memᴰ x (j ∷ (js ++ u))
    turn x m = go (Memᴰ.append_cases js m)
      where
        last : (x ≡ j) ⊎ Memᴰ x u → Memᴰ x (j ∷ (js ++ u))
        last (inl e) = Memᴰ.head e
        last (inr k) = Memᴰ.tail (Memᴰ.append_right js k)

        go : Memᴰ x js ⊎ Memᴰ x (j ∷ u) → Memᴰ x (j ∷ (js ++ u))
        go (inl k) = Memᴰ.tail (Memᴰ.append_left u k)
        go (inr k) = last (Memᴰ.cases_cons k)

-- all arrow cells, arrow after arrow
abbrev pub together : List (List ℕ) → List ℕ
together as' = flat_map (λ a. a) as'

-- no arrow cell comes twice
pub Arrows-Fresh : {g : Grid} {u : List ℕ} {as' : List (List ℕ)} → Arrows g u as' → Fresh u (together as')
Arrows-Fresh Arrows.nil = Fresh.nil
Arrows-Fresh (Arrows.cons a f r) = Fresh-append f (Arrows-Fresh r)

Walk-size : {g : Grid} {i : ℕ} {js : List ℕ} → i < size g → Walk g i js → (x : ℕ) → Memᴰ x js → x < size g
Walk-size h end x m = absurd (Memᴰ.not-nil m)
Walk-size {g} {i} h (on n w) x (Memᴰ.head e) = rw e (on_grid g h (beside g i n))
Walk-size {g} {i} h (on n w) x (Memᴰ.tail m) = Walk-size (on_grid g h (beside g i n)) w x m

Arrow-size : {g : Grid} {a : List ℕ} → Arrow g a → (x : ℕ) → Memᴰ x a → x < size g
Arrow-size (arrow h w) x (Memᴰ.head e) = rw e h
Arrow-size (arrow h w) x (Memᴰ.tail m) = Walk-size h w x m

-- arrow cells lie on the grid
pub Arrows-size : {g : Grid} {u : List ℕ} {as' : List (List ℕ)} → Arrows g u as' → (a : List ℕ) → Memᴰ a as' → (x : ℕ) → Memᴰ x a → x < size g
Arrows-size Arrows.nil a m x k = absurd (Memᴰ.not-nil m)
Arrows-size (Arrows.cons h f r) a (Memᴰ.head e) x k = Arrow-size h x (rw e at k)
Arrows-size (Arrows.cons h f r) a (Memᴰ.tail m) x k = Arrows-size r a m x k

-- an arrow is no longer than all together
pub one_length : (as' : List (List ℕ)) (a : List ℕ) → Memᴰ a as' → length a ≤ length (together as')
one_length (b ∷ as') a (Memᴰ.head e) = rw (e, length-append) (omega arith)
one_length (b ∷ as') a (Memᴰ.tail m) = rw length-append (omega (arith, one_length as' a m))
one_length [] a x' = elim x' [ ]

-- all arrows together have no more cells than the grid
pub arrows_length : (p : Puzzle) → Valid p → length (together p.arrows) ≤ size p.grid
arrows_length p v = Fresh-length (size p.grid) [] (together p.arrows) (Arrows-Fresh v.arrows) all
  where
    all : (x : ℕ) → Memᴰ x (together p.arrows) → x < size p.grid
    all x m = let r = flat_map-mem (λ a. a) p.arrows m in Arrows-size v.arrows r.0 r.1 x r.2

-- no cell comes twice on an arrow
pub arrow_Distinct : {g : Grid} {u : List ℕ} {l : List (List ℕ)} → Arrows g u l → (a : List ℕ) → Memᴰ a l → Distinct a
arrow_Distinct Arrows.nil a m = absurd (Memᴰ.not-nil m)
arrow_Distinct (Arrows.cons w f r) a (Memᴰ.head e) = rw e (Fresh-Distinct f)
arrow_Distinct (Arrows.cons w f r) a (Memᴰ.tail m) = arrow_Distinct r a m
