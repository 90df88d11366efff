-- Lists kept in arrays of 1,024 places.
-- Assumes nothing.
use Prim.Native.Nat.{ℕ, zero, suc, ◌+◌, ◌-◌, ◌≤◌, ◌<◌}
use native.Mathlib.Omega.{arith}
use mathlib.Core.Path.{◌≡◌, refl, sym, ◌∙◌, subst}
use mathlib.Core.Bool.{Bool, true, false, cond}
use mathlib.Core.List.{List, [], ◌∷◌, ◌++◌, append_assoc}
use lib.Dec.{eqb}
use lib.ListN.{length, get_or, set, take, drop, replicate, length-append, length-replicate, get_or-replicate, get_or-append}
use lib.Seq.{take-append_seam, drop-append_seam, get_or-append-add, get_or-set_same, get_or-set_other, set-append_left, set_at}
use borrow.Author.Tests.{eq-eqb, ne_eqb}
use Rattle.grid.specs.Lists.{array_of, how_many}
use Rattle.grid.proofs.AppendLaws.{by_eq}

-- the entry at j after a store at q
pub data Entry (L : List ℕ) (q v j : ℕ) : Type 0 where
  hit : j ≡ q → get_or (set L q v) j 0 ≡ v → Entry L q v j
  miss : (j ≡ q → ⊥) → get_or (set L q v) j 0 ≡ get_or L j 0 → Entry L q v j

pub Entry-at : (L : List ℕ) (q v j : ℕ) → q < length L → Entry L q v j
Entry-at L q v j h = by_eq j q (λ e. hit e (rw e (get_or-set_same L q v 0 h))) (λ ne. miss ne (get_or-set_other L q j v 0 ne))

-- a store over an entry i: one fewer is left
pub fewer_set : {i : ℕ} (L : List ℕ) (q v : ℕ) → get_or L q 0 ≡ i → (v ≡ i → ⊥) → 0 < i → how_many i (set L q v) + 1 ≡ how_many i L
unfolding how_many
fewer_set [] q v e ne h = absurd (omega (arith, e))
fewer_set {i} (x ∷ xs) zero v e ne h = rw (ne_eqb v i ne, eq-eqb x i e) (omega arith)
fewer_set (x ∷ xs) (suc q) v e ne h = omega (arith, fewer_set xs q v e ne h)

one_le : (b : Bool) → cond b 1 0 ≤ 1
one_le true = omega arith
one_le false = omega arith

-- no more entries are i than there are
pub how_many-le : (i : ℕ) (L : List ℕ) → how_many i L ≤ length L
unfolding how_many
how_many-le i [] = omega arith
how_many-le i (x ∷ xs) = omega (arith, how_many-le i xs, one_le (eqb x i))

module _ {A : Type 0} (d : A) where
  -- an array has 1,024 places
  pub array_length : (l : List A) → length l ≤ 1024 → length (array_of d l) ≡ 1024
  unfolding array_of
  array_length l h = simp (length-append, length-replicate) (omega arith)

  -- the first places hold the list
  pub array_take : (l : List A) → take (length l) (array_of d l) ≡ l
  unfolding array_of
  array_take l = take-append_seam l (replicate (1024 - length l) d)

  -- what stands behind the list
  pub array_behind : (l : List A) → drop (length l) (array_of d l) ≡ replicate (1024 - length l) d
  unfolding array_of
  array_behind l = drop-append_seam l (replicate (1024 - length l) d)

  -- at a place of the list stands its member
  pub array_in : (l : List A) (e : A) (i : ℕ) → i < length l → get_or (array_of d l) i e ≡ get_or l i e
  unfolding array_of
  array_in l e i h = get_or-append l (replicate (1024 - length l) d) e i h

  -- behind it stands d
  pub array_out : (l : List A) (e : A) (i : ℕ) → length l ≤ i → i < 1024 → get_or (array_of d l) i e ≡ d
  unfolding array_of
  array_out l e i h k =
      let q : length l + (i - length l) ≡ i = omega arith in
      subst (λ (j : ℕ). get_or (l ++ replicate (1024 - length l) d) j e ≡ d) q
      (get_or-append-add l (replicate (1024 - length l) d) (i - length l) e ∙ get_or-replicate (1024 - length l) (i - length l) d e (omega arith))

  -- a member is replaced
  pub array_set : (l : List A) (i : ℕ) (a : A) → i < length l → set (array_of d l) i a ≡ array_of d (set l i a)
  unfolding array_of
  array_set l i a h = set-append_left l (replicate (1024 - length l) d) i a h ∙ rw (length_of i) refl
    where
      length_of : (i : ℕ) → length (set l i a) ≡ length l
      length_of i = simp lib.ListN.length-set

  -- one more member
  pub array_more : (l : List A) (a : A) → length l < 1024 → set (array_of d l) (length l) a ≡ array_of d (l ++ (a ∷ []))
  unfolding array_of
  array_more l a h = go (1024 - length l) (1024 - length (l ++ (a ∷ []))) (omega (arith, length-append l (a ∷ [])))
    where
      go : (m n : ℕ) → m ≡ suc n → set (l ++ replicate m d) (length l) a ≡ (l ++ (a ∷ [])) ++ replicate n d
      go m n e = rw e (set_at l d (replicate n d) a (length l) refl ∙ sym (append_assoc l (a ∷ []) (replicate n d)))

  -- one member less
  pub array_less : (l : List A) (a : A) → length l < 1024 → set (array_of d (l ++ (a ∷ []))) (length l) d ≡ array_of d l
  unfolding array_of
  array_less l a h = go (1024 - length l) (1024 - length (l ++ (a ∷ []))) (omega (arith, length-append l (a ∷ [])))
    where
      go : (m n : ℕ) → m ≡ suc n → set ((l ++ (a ∷ [])) ++ replicate n d) (length l) d ≡ l ++ replicate m d
      go m n e = rw (append_assoc l (a ∷ []) (replicate n d)) (rw e (set_at l a (replicate n d) d (length l) refl))
