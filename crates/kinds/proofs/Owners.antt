-- The arrow blocks that a cell touches, met one by one.
-- Assumes nothing.
use Prim.Native.Nat.{ℕ, ◌≤◌, ◌<◌}
use native.Mathlib.Omega.{arith}
use native.Mathlib.Decide.{ℕ_discrete}
use mathlib.Core.Logic.{◌⊎◌, inl, inr}
use mathlib.Core.Path.{◌≡◌, refl, sym, ap, ◌∙◌, subst}
use mathlib.Core.Bool.{Bool, true, false, cond}
use mathlib.Core.List.Memᴰ
use mathlib.Core.List.{List, [], ◌∷◌, ◌++◌, map, Memᴰ, append-nil, map-append}
use lib.Dec.{eqb, ltb}
use lib.ListN.{get_or}
use borrow.Author.Tests.{eq-eqb, ne_eqb, lt-ltb, le-ltb, ltb-true, ltb-false}
use Rattle.std.specs.Prelude.{Some, None}
use Rattle.std.proofs.lemmas.Option.{none-some}
use Rattle.grid.specs.Lists.{filter, once}
use Rattle.grid.specs.Grid.{Grid, neighbours}
use Rattle.grid.proofs.ListLaws.{once-nil, once_one, mem-once}
use Rattle.grid.proofs.AppendLaws.{filter-append}
use Rattle.kinds.specs.Kinds.{Kind, vacant, barrier, floating, in_block, neighbour, kind_touching}
use Rattle.kinds.specs.Inside.{meet_of, Owned, nobody, one, many, block_named, arrow_block_at, arrow_blocks_at, kind_in}
use Rattle.kinds.specs.declared.Touched.{Touched}
use Rattle.kinds.specs.declared.Touched.TheVariants.{Nobody, One, Many}

-- a name that is told is a block's, and where none is told there is none
named_some : (f x : ℕ) → Some x ≡ block_named f → (x ≡ f) × (x < 1024)
unfolding block_named
named_some f x e = go (ltb f 1024) refl e
  where
    go : (b : Bool) → ltb f 1024 ≡ b → Some x ≡ cond b (Some f) None → (x ≡ f) × (x < 1024)
    go true t e = let q : x ≡ f = cc in (q, omega (arith, q, ltb-true f 1024 t))
    go false t e = absurd (none-some x (sym e))

named_none : (f : ℕ) → None ≡ block_named f → 1024 ≤ f
unfolding block_named
named_none f e = go (ltb f 1024) refl e
  where
    go : (b : Bool) → ltb f 1024 ≡ b → None ≡ cond b (Some f) None → 1024 ≤ f
    go true t e = absurd (none-some f e)
    go false t e = ltb-false f 1024 t

-- one more name
Owned-more : {l : List ℕ} {o : Touched} (x : ℕ) → Owned l o → Owned (l ++ (x ∷ [])) (meet_of o x)
unfolding meet_of
Owned-more {l} x (nobody h) = one (Memᴰ.append_right l (Memᴰ.head refl)) (λ y m. by y (Memᴰ.append_cases l m))
  where
    by : (y : ℕ) → Memᴰ y l ⊎ Memᴰ y (x ∷ []) → y ≡ x
    by y (inl m) = absurd (h y m)
    by y (inr m) = Memᴰ.eq_of_singleton m
Owned-more {l} x (one {f} m h) = by (ℕ_discrete f x)
  where
    all : f ≡ x → (y : ℕ) → Memᴰ y l ⊎ Memᴰ y (x ∷ []) → y ≡ f
    all e y (inl k) = h y k
    all e y (inr k) = Memᴰ.eq_of_singleton k ∙ sym e

    by : Dec (f ≡ x) → Owned (l ++ (x ∷ [])) (elim (eqb f x) [ true ↦ One f | false ↦ Many ])
    by (yes e) = rw (eq-eqb f x e) (one (Memᴰ.append_left (x ∷ []) m) (λ y k. all e y (Memᴰ.append_cases l k)))
    by (no ne) = rw (ne_eqb f x ne) (many (Memᴰ.append_left (x ∷ []) m) (Memᴰ.append_right l (Memᴰ.head refl)) ne)
Owned-more {l} x (many m k ne) = many (Memᴰ.append_left (x ∷ []) m) (Memᴰ.append_left (x ∷ []) k) ne

module _ (blocks arrowed : List ℕ) where
  pub Owned-none : Owned (arrow_blocks_at blocks arrowed []) Nobody
  unfolding arrow_blocks_at
  Owned-none = nobody (λ x m. Memᴰ.not-nil m)

  more : (js : List ℕ) (j : ℕ) → arrow_blocks_at blocks arrowed (js ++ (j ∷ [])) ≡ arrow_blocks_at blocks arrowed js ++ arrow_blocks_at blocks arrowed (j ∷ [])
  unfolding arrow_blocks_at
  more js j = ap (filter (λ f. ltb f 1024)) (map-append (arrow_block_at blocks arrowed) js (j ∷ [])) ∙ filter-append (λ f. ltb f 1024) (map (arrow_block_at blocks arrowed) js) (arrow_block_at blocks arrowed j ∷ [])

  -- one more cell, in an arrow block or in none
  pub Owned-hit : (js : List ℕ) (j x : ℕ) {o : Touched} → Some x ≡ block_named (arrow_block_at blocks arrowed j) → Owned (arrow_blocks_at blocks arrowed js) o → Owned (arrow_blocks_at blocks arrowed (js ++ (j ∷ []))) (meet_of o x)
  unfolding arrow_blocks_at
  Owned-hit js j x {o} e q = subst (λ (l : List ℕ). Owned l (meet_of o x)) (sym (more js j ∙ ap (λ (l : List ℕ). arrow_blocks_at blocks arrowed js ++ l) single)) (Owned-more x q)
    where
      single : arrow_blocks_at blocks arrowed (j ∷ []) ≡ x ∷ []
      single = let n = named_some (arrow_block_at blocks arrowed j) x e in rw (← n.0, lt-ltb x 1024 n.1)

  pub Owned-miss : (js : List ℕ) (j : ℕ) {o : Touched} → None ≡ block_named (arrow_block_at blocks arrowed j) → Owned (arrow_blocks_at blocks arrowed js) o → Owned (arrow_blocks_at blocks arrowed (js ++ (j ∷ []))) o
  unfolding arrow_blocks_at
  Owned-miss js j {o} e q = subst (λ (l : List ℕ). Owned l o) (sym (more js j ∙ ap (λ (l : List ℕ). arrow_blocks_at blocks arrowed js ++ l) nothing ∙ append-nil (arrow_blocks_at blocks arrowed js))) q
    where
      nothing : arrow_blocks_at blocks arrowed (j ∷ []) ≡ []
      nothing = rw (le-ltb (arrow_block_at blocks arrowed j) 1024 (named_none (arrow_block_at blocks arrowed j) e))

-- ---- the kind that they make of an undecided cell

pub kind_nobody : {l : List ℕ} → Owned l Nobody → kind_touching (once l) ≡ floating
unfolding kind_touching
kind_nobody {l} (nobody h) = rw (once-nil l h)

pub kind_one : {l : List ℕ} {f : ℕ} → Owned l (One f) → kind_touching (once l) ≡ neighbour f
unfolding kind_touching
kind_one {l} (one {f} m h) = rw (once_one l f m h)

pub kind_many : {l : List ℕ} → Owned l Many → kind_touching (once l) ≡ barrier
unfolding kind_touching
kind_many {l} (many {e} {f} m k ne) = go (once l) (mem-once l m) (mem-once l k)
  where
    go : (t : List ℕ) → Memᴰ e t → Memᴰ f t → kind_touching t ≡ barrier
    go [] a b = absurd (Memᴰ.not-nil a)
    go (x ∷ []) a b = absurd (ne (Memᴰ.eq_of_singleton a ∙ sym (Memᴰ.eq_of_singleton b)))
    go (x ∷ y ∷ t) a b = refl

-- ---- the kind of a cell, by its value

module _ (blocks arrowed : List ℕ) (g : Grid) (cells : List ℕ) (i : ℕ) where
  pub kind_empty : get_or cells i 0 ≡ 0 → vacant ≡ kind_in blocks arrowed g cells i
  unfolding kind_in
  kind_empty e = rw e

  pub kind_arrow : (x : ℕ) → get_or cells i 0 ≡ 1 → Some x ≡ block_named (arrow_block_at blocks arrowed i) → in_block x ≡ kind_in blocks arrowed g cells i
  unfolding kind_in
  kind_arrow x e q = let n = named_some (arrow_block_at blocks arrowed i) x q in rw (e, ← n.0, lt-ltb x 1024 n.1)

  pub kind_alone : get_or cells i 0 ≡ 1 → None ≡ block_named (arrow_block_at blocks arrowed i) → floating ≡ kind_in blocks arrowed g cells i
  unfolding kind_in
  kind_alone e q = rw (e, le-ltb (arrow_block_at blocks arrowed i) 1024 (named_none (arrow_block_at blocks arrowed i) q))

  pub kind_open : (k : Kind) → (get_or cells i 0 ≡ 0 → ⊥) → (get_or cells i 0 ≡ 1 → ⊥) → kind_touching (once (arrow_blocks_at blocks arrowed (neighbours g i))) ≡ k → k ≡ kind_in blocks arrowed g cells i
  unfolding kind_in
  kind_open k a b e = rw (ne_eqb (get_or cells i 0) 0 a, ne_eqb (get_or cells i 0) 1 b) (sym e)

-- the kind of a cell, by its state and the arrow blocks that it touches
pub ruleset kinds_told = (kind_alone, kind_arrow, kind_empty, kind_many, kind_nobody, kind_one, kind_open)
