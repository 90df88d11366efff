-- The lowest undecided cell.
-- Assumes nothing.
use Prim.Native.Nat.{ℕ, zero, suc, ◌≤◌, ◌<◌}
use native.Mathlib.Omega.{arith}
use native.Mathlib.Decide.{dec_lt}
use mathlib.Core.Path.{◌≡◌, refl, ap}
use mathlib.Core.Bool.{So}
use mathlib.Core.List.{List, [], ◌∷◌}
use lib.Dec.{eqb}
use lib.ListN.{length, get_or, set}
use lib.Seq.{set_out}
use borrow.Author.Tests.{eqb-true, eq-eqb, ne_eqb}
use Rattle.grid.specs.Lists.{how_many}
use Rattle.grid.proofs.ListLaws.{Dec-So, So-false}
use Rattle.grid.proofs.ArrayLaws.{Entry, hit, miss, Entry-at, fewer_set}
use Rattle.certain.specs.Tree.{lowest}

-- some cell is undecided, and the lowest of them is one; or the board is full
pub data Lowest (cells : List ℕ) : Type 0 where
  found : lowest cells < length cells → get_or cells (lowest cells) 0 ≡ 2 → 0 < how_many 2 cells → Lowest cells
  full : lowest cells ≡ length cells → how_many 2 cells ≡ 0 → Lowest cells

pub Lowest-view : (cells : List ℕ) → Lowest cells
unfolding lowest how_many
Lowest-view [] = full refl refl
Lowest-view (c ∷ cells) = go (Dec-So (eqb c 2)) (Lowest-view cells)
  where
    go : Dec (So (eqb c 2)) → Lowest cells → Lowest (c ∷ cells)
    go (yes e) _ = found (rw e (omega arith)) (rw e (eqb-true c 2 e)) (rw e (omega arith))
    go (no n) (found a b k) = let e = So-false (eqb c 2) n in found (rw e (omega arith)) (rw e b) (rw e (omega arith))
    go (no n) (full a k) = let e = So-false (eqb c 2) n in full (rw e (omega arith)) (rw e (omega arith))

-- the first cell that is undecided is the lowest
pub lowest_is : (cells : List ℕ) (i : ℕ) → i < length cells → ((j : ℕ) → j < i → get_or cells j 0 ≡ 2 → ⊥) → get_or cells i 0 ≡ 2 → i ≡ lowest cells
unfolding lowest
lowest_is [] i h below e = absurd (omega arith)
lowest_is (c ∷ cells) zero h below e = rw (eq-eqb c 2 e) refl
lowest_is (c ∷ cells) (suc i) h below e =
    rw (ne_eqb c 2 (below 0 (omega arith))) (ap suc (lowest_is cells i (omega arith) (λ j k. below (suc j) (omega arith)) e))

-- where none is undecided it is the number of cells
pub lowest_end : (cells : List ℕ) → ((j : ℕ) → j < length cells → get_or cells j 0 ≡ 2 → ⊥) → length cells ≡ lowest cells
unfolding lowest
lowest_end [] h = refl
lowest_end (c ∷ cells) h = rw (ne_eqb c 2 (h 0 (omega arith))) (ap suc (lowest_end cells (λ j k. h (suc j) (omega arith))))

-- a board with no undecided cell has no 2
pub none_left : (cells : List ℕ) → how_many 2 cells ≡ 0 → (i : ℕ) → get_or cells i 0 ≡ 2 → ⊥
unfolding how_many
none_left [] h i e = omega (arith, e)
none_left (c ∷ cells) h zero e = omega (arith, rw (eq-eqb c 2 e) at h)
none_left (c ∷ cells) h (suc i) e = none_left cells (omega arith) i e

-- the lowest undecided cell, where k + 1 are undecided
pub next : (cells : List ℕ) (k : ℕ) → how_many 2 cells ≡ suc k → (lowest cells < length cells) × (get_or cells (lowest cells) 0 ≡ 2)
next cells k e = go (Lowest-view cells)
  where
    go : Lowest cells → (lowest cells < length cells) × (get_or cells (lowest cells) 0 ≡ 2)
    go (found a b _) = (a, b)
    go (full a b) = absurd (omega arith)

-- once it is decided, k are
pub fewer : (cells : List ℕ) (k v : ℕ) → how_many 2 cells ≡ suc k → v ≤ 1 → how_many 2 (set cells (lowest cells) v) ≡ k
fewer cells k v e l = omega (arith, fewer_set cells (lowest cells) v (next cells k e).1 (λ q. omega (arith, q)) (omega arith))

-- a store of 0, 1 or 2 leaves no other number
pub low_set : (cells : List ℕ) (i v : ℕ) → ((j : ℕ) → get_or cells j 0 ≤ 2) → v ≤ 2 → (j : ℕ) → get_or (set cells i v) j 0 ≤ 2
low_set cells i v three low j = go (dec_lt i (length cells))
  where
    at : Entry cells i v j → get_or (set cells i v) j 0 ≤ 2
    at (hit q x) = omega arith
    at (miss q x) = omega (arith, three j)

    go : Dec (i < length cells) → get_or (set cells i v) j 0 ≤ 2
    go (yes h) = at (Entry-at cells i v j h)
    go (no h) = rw (set_out cells i v (omega arith)) (three j)
