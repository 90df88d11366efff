-- The breadth-first list and the path of reason 2 step by step, with no count of steps. `breadth_first` and `path` of Paths compute them
-- (reasons/proofs/BreadthFirstLaws.antt).
-- Assumes nothing.
use Rattle.std.specs.Prelude.{ℕ, ◌≢◌, ◌≡◌}
use Rattle.std.proofs.Math.Bool.{So}
use mathlib.Core.List.{List, [], ◌∷◌, ◌++◌, Memᴰ}
use Rattle.grid.specs.Grid.{Grid, neighbours}
use Rattle.grid.specs.Cells.{Literal, square}
use Rattle.paths.specs.Paths.{Entry}
use Rattle.literals.specs.Literals.{each}

-- the list has cell j, with some parent
abbrev pub Listed : List Entry → ℕ → Type 0
Listed l j = (p : ℕ) × Memᴰ (j, p) l

-- cell c goes through its neighbours, with the list l so far, and appends those that are squares not yet listed; it is their parent
pub data Appends (cells : List ℕ) (c : ℕ) : List ℕ → List Entry → List Entry → Type 0 where
  through : {l : List Entry} → Appends cells c [] l []
  append : {j : ℕ} {js : List ℕ} {l new : List Entry} → So (square cells j) → ¬ Listed l j
      → Appends cells c js (l ++ ((j, c) ∷ [])) new → Appends cells c (j ∷ js) l ((j, c) ∷ new)
  pass : {j : ℕ} {js : List ℕ} {l new : List Entry} → ¬ (So (square cells j) × ¬ Listed l j)
      → Appends cells c js l new → Appends cells c (j ∷ js) l new

-- each listed cell in turn appends: the entries in done had their turn, those in todo wait
pub data Builds (g : Grid) (cells : List ℕ) : List Entry → List Entry → List Entry → Type 0 where
  built : {done : List Entry} → Builds g cells done [] done
  turn : {c : Entry} {done todo new l : List Entry} → Appends cells c.0 (neighbours g c.0) (done ++ (c ∷ todo)) new
      → Builds g cells (done ++ (c ∷ [])) (todo ++ new) l → Builds g cells done (c ∷ todo) l

-- l is a breadth-first list that starts at b
abbrev pub BreadthFirst : Grid → List ℕ → ℕ → List Entry → Type 0
BreadthFirst g cells b l = Builds g cells [] ((b, b) ∷ []) l

-- the way runs from a by the parents in l to b, both included
pub data Runs (l : List Entry) (b : ℕ) : ℕ → List ℕ → Type 0 where
  arrived : Runs l b b (b ∷ [])
  onward : {a p : ℕ} {way : List ℕ} → a ≢ b → Memᴰ (a, p) l → Runs l b p way → Runs l b a (a ∷ way)

-- the reason runs from a by parents to b, all 1
pub record ByParents (g : Grid) (cells : List ℕ) (a b : ℕ) (r : List Literal) : Type 0 where
  pub list : List Entry
  pub breadth : BreadthFirst g cells b list
  pub way : List ℕ
  pub runs : Runs list b a way
  pub ones : r ≡ each 1 way
