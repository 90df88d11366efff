-- Laws of the cells of a board.
-- Assumes nothing.
use Prim.Native.Nat.{ℕ, ◌≤◌, ◌<◌}
use mathlib.Core.Logic.{◌⊎◌, inl, inr}
use mathlib.Core.Path.{◌≡◌, refl}
use mathlib.Core.Bool.{So}
use mathlib.Core.List.{List}
use native.Mathlib.Omega.{arith}
use native.Mathlib.Decide.{ℕ_discrete}
use lib.Dec.{eqb}
use lib.ListN.{length, get_or, take}
use lib.Seq.{get_or-take}
use borrow.Author.Tests.{eqb-true, eq-eqb}
use Rattle.grid.specs.Cells.{empty, square, undecided}
use Rattle.grid.proofs.ListLaws.{place_in}

module _ (cells : List ℕ) (i : ℕ) where
  -- a cell is one of three
  pub square_not_empty : So (square cells i) → ¬ So (empty cells i)
  unfolding square empty
  square_not_empty s z = omega (arith, eqb-true)

  pub square_not_undecided : So (square cells i) → ¬ So (undecided cells i)
  unfolding square undecided
  square_not_undecided s z = omega (arith, eqb-true)

  pub undecided_not_empty : So (undecided cells i) → ¬ So (empty cells i)
  unfolding empty undecided
  undecided_not_empty s z = omega (arith, eqb-true)

  pub cell_cases : get_or cells i 0 ≤ 2 → So (empty cells i) ⊎ So (square cells i) ⊎ So (undecided cells i)
  unfolding empty square undecided
  cell_cases h = go (ℕ_discrete (get_or cells i 0) 0) (ℕ_discrete (get_or cells i 0) 1)
    where
      go : Dec (get_or cells i 0 ≡ 0) → Dec (get_or cells i 0 ≡ 1) → So (eqb (get_or cells i 0) 0) ⊎ So (eqb (get_or cells i 0) 1) ⊎ So (eqb (get_or cells i 0) 2)
      go (yes e) _ = inl (eq-eqb _ _ e)
      go (no h₀) (yes e) = inr (inl (eq-eqb _ _ e))
      go (no h₀) (no h₁) = inr (inr (eq-eqb (get_or cells i 0) 2 (omega arith)))

  -- squares and undecided cells lie on the board
  pub square_below : So (square cells i) → i < length cells
  unfolding square
  square_below s = place_in cells i (omega (arith, eqb-true (get_or cells i 0) 1 s))

  pub undecided_below : So (undecided cells i) → i < length cells
  unfolding undecided
  undecided_below s = place_in cells i (omega (arith, eqb-true (get_or cells i 0) 2 s))

-- a cell among the first n, by them and by all
module _ (cells : List ℕ) (n i : ℕ) (h : i < n) where
  pub empty_taken : empty (take n cells) i ≡ empty cells i
  unfolding empty
  empty_taken = rw (get_or-take n cells i 0 h) refl

  pub square_taken : square (take n cells) i ≡ square cells i
  unfolding square
  square_taken = rw (get_or-take n cells i 0 h) refl

  pub undecided_taken : undecided (take n cells) i ≡ undecided cells i
  unfolding undecided
  undecided_taken = rw (get_or-take n cells i 0 h) refl
