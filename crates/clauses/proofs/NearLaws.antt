-- The arrow cells beside a cell, and the clauses of the second and the third part for it.
-- Assumes nothing.
use Prim.Native.Nat.{ℕ, ◌≤◌}
use native.Mathlib.Omega.{arith}
use mathlib.Core.Path.{◌≡◌, refl, sym, ap, ◌∙◌}
use mathlib.Core.List.{List, [], ◌∷◌, ◌++◌, map, map-append, append_assoc}
use lib.ListN.{length, get_or}
use borrow.Author.Tests.{eq-eqb, ne_eqb}
use Rattle.std.specs.Prelude.{Option, Some, None, option_to_list}
use Rattle.grid.specs.Lists.{flat_map, filter, upto}
use Rattle.grid.specs.Grid.{Grid, up, down, left, right}
use Rattle.grid.specs.Side.{towards, beside_of}
use Rattle.grid.proofs.AppendLaws.{filter-append}
use Rattle.grid.proofs.SideLaws.{beside_at, beside_off}
use Rattle.clauses.specs.Clauses.{apart, onwards, touching_at, around, between, pairs_of, between_at}
use Rattle.clauses.specs.Inside.{marked}

module _ (marks : List ℕ) (g : Grid) (i k : ℕ) where
  -- the arrow cell in a direction
  pub side_on : (j : ℕ) → Some j ≡ beside_of g i k → get_or marks j 0 ≡ 1 → j ∷ [] ≡ filter (marked marks) (towards g i k)
  side_on j b m = rw (beside_at g i k j b, eq-eqb (get_or marks j 0) 1 m) refl

  pub side_plain : (j : ℕ) → Some j ≡ beside_of g i k → (get_or marks j 0 ≡ 1 → ⊥) → [] ≡ filter (marked marks) (towards g i k)
  side_plain j b m = rw (beside_at g i k j b, ne_eqb (get_or marks j 0) 1 m) refl

  pub side_off : None ≡ beside_of g i k → [] ≡ filter (marked marks) (towards g i k)
  side_off b = rw (beside_off g i k b) refl

pub side_short : (s : Option ℕ) → length (option_to_list s) ≤ 1
side_short (Some j) = omega arith
side_short None = omega arith

module _ (marks : List ℕ) (g : Grid) (i : ℕ) where
  -- those in each direction, in the order of the sheet
  pub around_sides : filter (marked marks) (around g i)
      ≡ (((filter (marked marks) (towards g i 0) ++ filter (marked marks) (towards g i 2)) ++ filter (marked marks) (towards g i 1)) ++ filter (marked marks) (towards g i 3))
  unfolding around towards
  around_sides =
      let on = marked marks in
      filter-append on (up g i) (left g i ++ (down g i ++ right g i))
      ∙ ap (λ (l : List ℕ). filter on (up g i) ++ l) (filter-append on (left g i) (down g i ++ right g i) ∙ ap (λ (l : List ℕ). filter on (left g i) ++ l) (filter-append on (down g i) (right g i)))
      ∙ simp append_assoc

  -- with the cell below and the cell to its right
  pub touching_on : get_or marks i 0 ≡ 1 → {l m : List ℕ} → l ≡ filter (marked marks) (towards g i 1) → m ≡ filter (marked marks) (towards g i 3) → map (apart i) l ++ map (apart i) m ≡ touching_at (marked marks) g i
  unfolding touching_at onwards towards
  touching_on h e f = rw (eq-eqb (get_or marks i 0) 1 h, e, f)
      (sym (ap (map (apart i)) (filter-append (marked marks) (down g i) (right g i)) ∙ map-append (apart i) (filter (marked marks) (down g i)) (filter (marked marks) (right g i))))

  pub touching_off : (get_or marks i 0 ≡ 1 → ⊥) → [] ≡ touching_at (marked marks) g i
  unfolding touching_at
  touching_off n = rw (ne_eqb (get_or marks i 0) 1 n) refl

  -- with each two of its neighbours
  pub between_on : get_or marks i 0 ≡ 1 → [] ≡ between_at (marked marks) g i
  unfolding between_at
  between_on e = rw (eq-eqb (get_or marks i 0) 1 e) refl

  pub between_off : (get_or marks i 0 ≡ 1 → ⊥) → {l : List ℕ} → l ≡ filter (marked marks) (around g i) → flat_map (λ a. map (between i l a) (upto a)) (upto (length l)) ≡ between_at (marked marks) g i
  unfolding between_at pairs_of
  between_off n e = rw (ne_eqb (get_or marks i 0) 1 n, e) refl
