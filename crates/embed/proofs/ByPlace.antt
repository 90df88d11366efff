-- What makes an embedding of a map that is known by rows and columns.
-- Assumes nothing.
use Prim.Native.Nat.{ℕ, ◌<◌}
use mathlib.Core.Path.{◌≡◌, ap}
use Rattle.grid.specs.Grid.{Grid, size, row, col}
use Rattle.grid.proofs.GridLaws.{one_place}
use Rattle.grid.proofs.PlaceLaws.{NextOn, Adjacent-next, next_Adjacent}
use Rattle.groups.specs.Rules.{Shift}
use Rattle.embed.specs.Embedding.{Embedding, Shifts}

module _ (g h : Grid) (f : ℕ → ℕ)
    (into : (i : ℕ) → i < size g → f i < size h)
    (rows : (i j : ℕ) → i < size g → j < size g → row h (f i) ≡ row h (f j) → col h (f i) ≡ col h (f j) → (row g i ≡ row g j) × (col g i ≡ col g j))
    (to : (i j : ℕ) → i < size g → j < size g → NextOn g i j → NextOn h (f i) (f j))
    (from : (i j : ℕ) → i < size g → j < size g → NextOn h (f i) (f j) → NextOn g i j)
    (shift : (s : Shift) → (t : Shift) × Shifts g h f s t)
    (back : (t : Shift) → (s : Shift) × Shifts g h f s t) where
  pub embedding : Embedding g h f
  embedding = record {
    into = into;
    inj = λ i j li lj e. let r = rows i j li lj (ap (row h) e) (ap (col h) e) in one_place g i j r.0 r.1;
    adj = λ i j li lj. (
      λ e. next_Adjacent h (f i) (f j) (into i li) (into j lj) (to i j li lj (Adjacent-next g i j e)),
      λ e. next_Adjacent g i j li lj (from i j li lj (Adjacent-next h (f i) (f j) e)),
    );
    shift = shift;
    back = back;
  }
