-- What the gap of reason 4 counts: the most positions with a property, no two of them consecutive.
-- Assumes nothing.
use Rattle.std.specs.Prelude.{ℕ, suc, ◌≤◌, ◌<◌, ◌≡◌}
use Rattle.grid.specs.Count.{count}

-- S is a choice of positions below w that satisfy U, no two consecutive
pub record Choice (U : ℕ → Type 0) (w : ℕ) (S : ℕ → Type 0) : Type 0 where
  pub low : (k : ℕ) → S k → k < w
  pub good : (k : ℕ) → S k → U k
  pub apart : (k : ℕ) → S k → ¬ S (suc k)

-- g is the size of the largest choice
pub record Most (U : ℕ → Type 0) (w g : ℕ) : Type 1 where
  pub bound : (S : ℕ → Type 0) (d : (k : ℕ) → Dec (S k)) → Choice U w S → count d w ≤ g
  pub some : ℕ → Type 0
  pub some_dec : (k : ℕ) → Dec (some k)
  pub some_choice : Choice U w some
  pub some_size : count some_dec w ≡ g
