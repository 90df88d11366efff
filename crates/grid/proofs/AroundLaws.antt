-- The neighbours of a cell, gathered direction by direction.
-- Assumes nothing.
use Prim.Native.Nat.{ℕ, zero, suc, ◌+◌, ◌≤◌}
use native.Mathlib.Omega.{arith}
use native.Mathlib.Numerals.{add-one}
use mathlib.Core.Path.{◌≡◌, refl, sym, ◌∙◌, subst}
use mathlib.Core.List.{List, [], ◌∷◌, ◌++◌, append_assoc, append-nil}
use Rattle.std.specs.Prelude.{Option, Some, None}
use Rattle.grid.specs.Grid.{Grid, size, neighbours, Adjacent}
use Rattle.grid.specs.Side.{sized, towards, beside_of, InGrid}
use Rattle.grid.proofs.SideLaws.{beside_at, beside_off, beside_Adjacent, beside_in}

-- the neighbours in the first k directions
unfoldable pub gathered : Grid → ℕ → ℕ → List ℕ
gathered g i zero = []
gathered g i (suc k) = gathered g i k ++ towards g i k

module _ (g : Grid) (i : ℕ) where
  -- a direction with a neighbour adds it
  pub gathered_next : (k j : ℕ) → Some j ≡ beside_of g i k → gathered g i (k + 1) ≡ gathered g i k ++ (j ∷ [])
  unfolding gathered
  gathered_next k j e = rw (add-one k, gathered, beside_at g i k j e) refl

  -- a direction without a neighbour adds nothing
  pub gathered_same : (k : ℕ) → None ≡ beside_of g i k → gathered g i (k + 1) ≡ gathered g i k
  unfolding gathered
  gathered_same k e = rw (add-one k, gathered, beside_off g i k e) (append-nil (gathered g i k))

  -- the four directions give all neighbours
  pub gathered_all : gathered g i 4 ≡ neighbours g i
  unfolding gathered towards neighbours
  gathered_all = simp append_assoc

-- ---- for callers that look in the four directions in turn. r is what `toward` answers for cell i in direction k

module _ {h w i : ℕ} (G : InGrid h w i) (k : ℕ) (r : Option ℕ) (is : r ≡ beside_of (sized h w) i k) where
  -- a neighbour is beside the cell, and a cell of the grid
  pub side_Adjacent : (j : ℕ) → r ≡ Some j → Adjacent (sized h w) i j
  unfolding size
  side_Adjacent j e = beside_Adjacent (sized h w) i k j G.within (sym e ∙ is)

  pub side_cell : (j : ℕ) → r ≡ Some j → InGrid h w j
  unfolding size
  side_cell j e = record { tall = G.tall; wide = G.wide; within = beside_in (sized h w) i k j G.within (sym e ∙ is) }

  -- what holds of the neighbours up to it, or of those before a direction without one, holds of those in one direction more
  pub side_at : (P : List ℕ → Type 0) (j : ℕ) → r ≡ Some j → P (gathered (sized h w) i k ++ (j ∷ [])) → P (gathered (sized h w) i (k + 1))
  side_at P j e p = subst P (sym (gathered_next (sized h w) i k j (sym e ∙ is))) p

  pub side_off : (P : List ℕ → Type 0) → r ≡ None → P (gathered (sized h w) i k) → P (gathered (sized h w) i (k + 1))
  side_off P e p = subst P (sym (gathered_same (sized h w) i k (sym e ∙ is))) p

-- before the first direction there are none, and after the fourth they are all
pub sides_none : (P : List ℕ → Type 0) (g : Grid) (i : ℕ) → P [] → P (gathered g i 0)
unfolding gathered
sides_none P g i p = p

pub sides_all : (P : List ℕ → Type 0) (g : Grid) (i k : ℕ) → k ≤ 4 → 4 ≤ k → P (gathered g i k) → P (neighbours g i)
sides_all P g i k h l p = let e : k ≡ 4 = omega arith in subst P (gathered_all g i) (rw e at p)
