-- What was found for reason 1, as the answer and the buffer tell it.
-- Assumes nothing.
use Prim.Native.Nat.{ℕ}
use mathlib.Core.Path.{◌≡◌}
use mathlib.Core.List.{List}
use Rattle.grid.specs.Cells.{Literal}
use Rattle.std.specs.Prelude.{Option, Some, None}
use Rattle.literals.specs.Literals.{Found}
use Rattle.literals.specs.Inside.{Wrote, FoundAs}
use Rattle.units.specs.Arrays.{found_at}
use Rattle.literals.proofs.Findings.{found_none, Wrote-found}

-- a group that was named gives its reason, and nobody gives none
pub named_found : {f : Found} (r : ℕ → List Literal) {name : Option ℕ} {i k : ℕ} {a b : List ℕ} → f ≡ found_at r name → name ≡ Some i → Wrote (r i) a b k → FoundAs f a b (Some k)
unfolding found_at
named_found r e n w = rw (e, n) (Wrote-found w)

pub nobody_found : {f : Found} (r : ℕ → List Literal) {name : Option ℕ} (a : List ℕ) → f ≡ found_at r name → name ≡ None → FoundAs f a a None
unfolding found_at
nobody_found r a e n = rw (e, n) (found_none a)
