-- How many numbers satisfy a decided predicate.
-- Assumes nothing.
use Rattle.std.specs.Prelude.{ℕ, zero, suc, ◌≡◌}

-- one more where it holds
abbrev pub bump : {A : Type 0} → Dec A → ℕ → ℕ
bump (yes _) k = suc k
bump (no _) k = k

-- how many numbers below n satisfy P
abbrev pub count : {P : ℕ → Type 0} → ((i : ℕ) → Dec (P i)) → ℕ → ℕ
count d zero = 0
count d (suc n) = bump (d n) (count d n)

-- k numbers below n satisfy P
abbrev pub HowMany : (ℕ → Type 0) → ℕ → ℕ → Type 0
HowMany P n k = (d : (i : ℕ) → Dec (P i)) × (count d n ≡ k)
