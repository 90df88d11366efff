-- A reason as a list of literals, or none, and the first reason that applies.
-- Assumes nothing.
use Rattle.std.specs.Prelude.{ℕ, Bool, true, false, List, [], ◌∷◌, map}
use Rattle.std.proofs.Math.Option.{Option, none, some}
use Rattle.grid.specs.Cells.{Literal}

-- a reason, or none
abbrev pub Found : Type 0
Found = Option (List Literal)

-- the first reason that applies
unfoldable pub or_else : Found → Found → Found
or_else none b = b
or_else (some r) b = some r

-- the reason r, where the test passes
unfoldable pub reason_if : Bool → List Literal → Found
reason_if true r = some r
reason_if false r = none

-- the first reason among those of a list
unfoldable pub first_found_of : {A : Type 0} → (A → Found) → List A → Found
first_found_of f [] = none
first_found_of f (x ∷ xs) = or_else (f x) (first_found_of f xs)

-- every cell with this value
unfoldable pub each : ℕ → List ℕ → List Literal
each v = map (λ i. (i, v))
