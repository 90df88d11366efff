-- A puzzle with its cells as a part of another, and parts that make up the whole.
-- Assumes nothing.
use Rattle.std.specs.Prelude.{ℕ, ◌<◌, ◌⊎◌, ◌≡◌, length, get_or}
use Rattle.std.proofs.Math.Bool.{So}
use mathlib.Core.List.{List, map, Memᴰ}
use Rattle.grid.specs.Grid.{size, Adjacent}
use Rattle.grid.specs.Cells.{square}
use Rattle.record.specs.Record.{Puzzle}
use Rattle.embed.specs.Embedding.{Embedding}

-- a puzzle and its cells, as a part of another and its cells: codes, states and arrows are the same, and every square beside the part belongs to it
pub record Part (p q : Puzzle) (f : ℕ → ℕ) (cells cells' : List ℕ) : Type 0 where
  pub embeds : Embedding p.grid q.grid f
  pub codes : (i : ℕ) → i < size p.grid → get_or q.given (f i) 0 ≡ get_or p.given i 0
  pub states : (i : ℕ) → i < size p.grid → get_or cells' (f i) 0 ≡ get_or cells i 0
  pub near : (i j : ℕ) → i < size p.grid → Adjacent q.grid (f i) j → So (square cells' j) → (k : ℕ) × (k < size p.grid) × (f k ≡ j)
  pub on : (a : List ℕ) → Memᴰ a p.arrows → (x : ℕ) → Memᴰ x a → x < size p.grid
  pub arrows : (a : List ℕ) → Memᴰ a p.arrows → Memᴰ (map f a) q.arrows
  pub only : (b : List ℕ) → Memᴰ b q.arrows → (i : ℕ) → i < size p.grid → Memᴰ (f i) b → (a : List ℕ) × Memᴰ a p.arrows × (b ≡ map f a)
  pub long : length cells ≡ size p.grid

-- parts that make up the whole: every other cell is black and empty, and every arrow is one of a part
pub record Whole {A : Type 0} (p : A → Puzzle) (q : Puzzle) (f : A → ℕ → ℕ) (cells : A → List ℕ) (cells' : List ℕ) : Type 0 where
  pub part : (s : A) → Part (p s) q (f s) (cells s) cells'
  pub covers : (j : ℕ) → j < size q.grid → ((s : A) × (i : ℕ) × (i < size (p s).grid) × (f s i ≡ j)) ⊎ ((get_or q.given j 0 ≡ 1) × (get_or cells' j 0 ≡ 0))
  pub whose : (b : List ℕ) → Memᴰ b q.arrows → (s : A) × (a : List ℕ) × Memᴰ a (p s).arrows × (b ≡ map (f s) a)
  pub total : length cells' ≡ size q.grid
