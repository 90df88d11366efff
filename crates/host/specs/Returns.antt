-- What the host call can find and return, in the words of its theorems.
-- Assumes nothing.
use Rattle.std.specs.Prelude.{ℕ, ◌+◌, ◌*◌, ◌≤◌, ◌<◌, ◌≡◌, ℤ, pos, neg_ℤ, length}
use mathlib.Core.List.{List, [], ◌∷◌, ◌++◌, Memᴰ}
use Rattle.std.proofs.Math.Option.{none, some}
use Rattle.grid.specs.Grid.{Grid, size}
use Rattle.grid.specs.Cells.{Literal}
use Rattle.record.specs.Record.{Outcome, ok, refused, Puzzle, read_record}
use Rattle.literals.specs.Literals.{Found}

-- the refusals of the record
abbrev pub faults : List ℕ
faults = 1 ∷ 2 ∷ 3 ∷ 4 ∷ 5 ∷ []

-- those of the record and of the decisions
abbrev pub refusals : List ℕ
refusals = faults ++ (7 ∷ 9 ∷ 12 ∷ [])

-- those of the host call, with 11 for its output
abbrev pub host_refusals : List ℕ
host_refusals = 11 ∷ refusals

-- and of the call in an edition with sizes, with 16 and 22 for these
abbrev pub with_refusals : List ℕ
with_refusals = 16 ∷ 22 ∷ host_refusals

-- those of the call that checks a certificate, 23 to 30 for what is wrong with it
abbrev pub unique_refusals : List ℕ
unique_refusals = 16 ∷ 22 ∷ faults ++ (23 ∷ 24 ∷ 25 ∷ 26 ∷ 27 ∷ 28 ∷ 29 ∷ 30 ∷ [])

-- the numbers that a call with the refusals ks can return for the record s
pub data Returns (ks s : List ℕ) : ℤ → Type 0 where
  negated_refusal : {k : ℕ} → Memᴰ k ks → Returns ks s (neg_ℤ (pos k))
  literal_count : {n : ℕ} (p : Puzzle) → read_record s ≡ ok p → n ≤ 3 * size p.grid + 1 → Returns ks s (pos n)

-- a refusal of the list, or a value with the property
pub data Possible (ks : List ℕ) {A : Type 0} (P : A → Type 0) : Outcome A → Type 0 where
  refusal_of : {k : ℕ} → Memᴰ k ks → Possible ks P (refused k)
  value_of : {a : A} → P a → Possible ks P (ok a)

-- what can be found on a grid: none, or a reason of 1 to 3 × H × W + 1 literals, each a cell's index with a value
pub data FoundOn (g : Grid) : Found → Type 0 where
  no_reason : FoundOn g none
  some_reason : {r : List Literal} → 0 < length r → length r ≤ 3 * size g + 1 → ((l : Literal) → Memᴰ l r → (l.0 < size g) × (l.1 ≤ 1)) → FoundOn g (some r)

-- what can be found with the record s, which is accepted
pub record FoundWith (s : List ℕ) (f : Found) : Type 0 where
  pub puzzle : Puzzle
  pub reads : read_record s ≡ ok puzzle
  pub few : size puzzle.grid ≤ 1024
  pub found : FoundOn puzzle.grid f

-- what a call on a lent board can return: the negated number of a refusal of the list, or a number up to m
pub data Within (ks : List ℕ) (m : ℕ) : ℤ → Type 0 where
  negated_number : {k : ℕ} → Memᴰ k ks → Within ks m (neg_ℤ (pos k))
  number_within : {n : ℕ} → n ≤ m → Within ks m (pos n)
