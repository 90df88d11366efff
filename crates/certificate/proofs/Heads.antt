-- A test of all the numbers below another, as a chain over a range makes it.
-- Assumes nothing.
use Rattle.std.proofs.Common.{ℕ, zero, suc, ◌≡◌, ◌&&◌, Bool, refl, ap}
use native.Mathlib.Numerals.{add-one}
use Rattle.std.specs.List.{list_all, range_with_len}
use Rattle.grid.specs.Lists.{all, range, upto}

all_range : (p : ℕ → Bool) (n a : ℕ) → list_all p (range_with_len a n) ≡ all p (range a n)
unfolding range
all_range p zero a = refl
all_range p (suc n) a = ap (λ b. p a && b) (rw add-one (all_range p n (suc a)))

pub all_upto : (p : ℕ → Bool) (n : ℕ) → list_all p (range_with_len 0 n) ≡ all p (upto n)
unfolding upto
all_upto p n = all_range p n 0
