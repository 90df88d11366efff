-- The arrows of a valid record, by position: on the grid, from neighbour to neighbour, no cell twice.
-- Assumes nothing.
use Prim.Native.Nat.{ℕ, zero, suc, ◌<◌}
use native.Mathlib.Omega.{arith}
use mathlib.Core.Path.{sym, subst}
use mathlib.Core.List.Memᴰ
use mathlib.Core.List.{List, ◌∷◌, Memᴰ}
use lib.ListN.{length, get_or}
use Rattle.grid.specs.Grid.{Grid, size, Adjacent}
use Rattle.grid.proofs.ListLaws.{Distinct-once}
use Rattle.grid.proofs.GridLaws.{beside, on_grid}
use Rattle.record.specs.Record.{Puzzle}
use Rattle.record.specs.Valid.{Walk, end, on, Arrow, arrow, Arrows, Valid, ValidArrows}
use Rattle.record.proofs.FreshLaws.{Arrows-size, arrow_Distinct}

Walk-side : (g : Grid) {i : ℕ} {js : List ℕ} → i < size g → Walk g i js → (k : ℕ) → suc k < length (i ∷ js) → Adjacent g (get_or (i ∷ js) k 0) (get_or (i ∷ js) (suc k) 0)
Walk-side g l end k h = absurd (omega arith)
Walk-side g l (on m w) zero h = (l, m)
Walk-side g {i} l (on m w) (suc k) h = Walk-side g (on_grid g l (beside g i m)) w k (omega arith)

Arrow-side : (g : Grid) {a : List ℕ} → Arrow g a → (k : ℕ) → suc k < length a → Adjacent g (get_or a k 0) (get_or a (suc k) 0)
Arrow-side g (arrow l w) = Walk-side g l w

Arrow-of : (g : Grid) {used : List ℕ} {arrows : List (List ℕ)} → Arrows g used arrows → (l : List ℕ) → Memᴰ l arrows → Arrow g l
Arrow-of g Arrows.nil l m = absurd (Memᴰ.not-nil m)
Arrow-of g (Arrows.cons a f r) l (Memᴰ.head e) = subst (Arrow g) (sym e) a
Arrow-of g (Arrows.cons a f r) l (Memᴰ.tail m) = Arrow-of g r l m

-- a valid record has valid arrows
pub valid_arrows : (p : Puzzle) → Valid p → ValidArrows p.grid p.arrows
valid_arrows p v = record {
  on = λ l m. Arrows-size v.arrows l m;
  side = λ l m. Arrow-side p.grid (Arrow-of p.grid v.arrows l m);
  once = λ l m. Distinct-once l (arrow_Distinct v.arrows l m);
}
