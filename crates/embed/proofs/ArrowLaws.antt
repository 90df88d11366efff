-- The arrows of a record, embedded: they go from neighbour to neighbour and use no cell twice, and have as many bits.
-- Assumes nothing.
use Prim.Native.Nat.{ℕ, ◌<◌}
use mathlib.Core.Logic.{◌⊎◌, inl, inr}
use mathlib.Core.Path.{◌≡◌, refl, sym, subst, ◌∙◌}
use mathlib.Core.List.Memᴰ
use mathlib.Core.List.{List, [], ◌∷◌, ◌++◌, map, Memᴰ}
use lib.ListN.{length, length-append, length-map}
use Rattle.grid.specs.Lists.{flat_map}
use Rattle.grid.specs.Grid.{Grid, size}
use Rattle.grid.proofs.GridLaws.{beside, on_grid}
use Rattle.record.specs.Valid.{Walk, end, on, Fresh, Arrow, arrow, Arrows}
use Rattle.record.specs.Write.{arrow_bits}
use Rattle.record.proofs.WriteLaws.{length-arrow_bits}
use Rattle.embed.specs.Embedding.{Embedding}

module _ {g h : Grid} {f : ℕ → ℕ} (E : Embedding g h f) where
  Walk-to : {i : ℕ} {js : List ℕ} → i < size g → Walk g i js → Walk h (f i) (map f js)
  Walk-to l end = end
  Walk-to {i} l (on {j} m w) =
      let b = on_grid g l (beside g i m) in
      on ((E.adj i j l b).0 (l, m)).1 (Walk-to b w)

  -- U has no image of a cell that is not used
  Kept : List ℕ → List ℕ → Type 0
  Kept u U = (x : ℕ) → x < size g → Memᴰ (f x) U → Memᴰ x u

  Kept-more : (u U : List ℕ) → Kept u U → (j : ℕ) → j < size g → Kept (j ∷ u) (f j ∷ U)
  unfolding Kept
  Kept-more u U k j l x lx (Memᴰ.head e) = Memᴰ.head (E.inj x j lx l e)
  Kept-more u U k j l x lx (Memᴰ.tail m) = Memᴰ.tail (k x lx m)

  Fresh-to : {u js : List ℕ} (U : List ℕ) → Kept u U → ((x : ℕ) → Memᴰ x js → x < size g) → Fresh u js → Fresh U (map f js)
  unfolding Kept
  Fresh-to U k b Fresh.nil = Fresh.nil
  Fresh-to {u} U k b (Fresh.cons {j} n r) =
      let l = b j (Memᴰ.head refl) in
      Fresh.cons (λ m. n (k j l m)) (Fresh-to (f j ∷ U) (Kept-more u U k j l) (λ x m. b x (Memᴰ.tail m)) r)

  Walk-on : (x : ℕ) {i : ℕ} {js : List ℕ} → i < size g → Walk g i js → Memᴰ x (i ∷ js) → x < size g
  Walk-on x l w (Memᴰ.head e) = rw e l
  Walk-on x l end (Memᴰ.tail m) = absurd (Memᴰ.not-nil m)
  Walk-on x {i} l (on n w) (Memᴰ.tail m) = Walk-on x (on_grid g l (beside g i n)) w m

  Arrow-on : {a : List ℕ} → Arrow g a → (x : ℕ) → Memᴰ x a → x < size g
  Arrow-on (arrow l w) x = Walk-on x l w

  Arrow-to : {a : List ℕ} → Arrow g a → Arrow h (map f a)
  Arrow-to (arrow l w) = arrow (E.into _ l) (Walk-to l w)

  Kept-arrow : (u U a : List ℕ) → Kept u U → ((x : ℕ) → Memᴰ x a → x < size g) → Kept (a ++ u) (map f a ++ U)
  unfolding Kept
  Kept-arrow u U a k b x l m = go (Memᴰ.append_cases (map f a) m)
    where
      go : Memᴰ (f x) (map f a) ⊎ Memᴰ (f x) U → Memᴰ x (a ++ u)
      go (inl n) = let r = Memᴰ.of_map f a n in Memᴰ.append_left u (subst (λ y. Memᴰ y a) (E.inj r.0 x (b r.0 r.1) l r.2) r.1)
      go (inr n) = Memᴰ.append_right a (k x l n)

  -- arrows that use no cell twice, nor one of used, go over to such
  pub Arrows-to : {u : List ℕ} {as' : List (List ℕ)} (U : List ℕ) → ((x : ℕ) → x < size g → Memᴰ (f x) U → Memᴰ x u) → Arrows g u as' → Arrows h U (map (map f) as')
  unfolding Kept
  Arrows-to U k Arrows.nil = Arrows.nil
  Arrows-to {u} U k (Arrows.cons {a} r n rest) =
      Arrows.cons (Arrow-to r) (Fresh-to U k (Arrow-on r) n) (Arrows-to (map f a ++ U) (Kept-arrow u U a k (Arrow-on r)) rest)

-- the bits of an arrow depend on its length only
arrow_bits-map : (g h : Grid) (f : ℕ → ℕ) (a : List ℕ) → length (arrow_bits h (map f a)) ≡ length (arrow_bits g a)
unfolding arrow_bits
arrow_bits-map g h f [] = refl
arrow_bits-map g h f (i ∷ js) = length-arrow_bits h (f i) (map f js) ∙ rw (length-map js f) (sym (length-arrow_bits g i js))

pub arrows_bits_map : (g h : Grid) (f : ℕ → ℕ) (as' : List (List ℕ)) → length (flat_map (arrow_bits h) (map (map f) as')) ≡ length (flat_map (arrow_bits g) as')
arrows_bits_map g h f [] = refl
arrows_bits_map g h f (a ∷ as') =
    length-append (arrow_bits h (map f a)) (flat_map (arrow_bits h) (map (map f) as'))
    ∙ rw (arrow_bits-map g h f a, arrows_bits_map g h f as') (sym (length-append (arrow_bits g a) (flat_map (arrow_bits g) as')))
