-- Laws of where the arrows of a problem end in a list.
-- Assumes nothing.
use Prim.Native.Nat.{ℕ, zero, suc, ◌+◌, ◌*◌, ◌-◌, ◌≤◌, ◌<◌}
use native.Mathlib.Omega.{arith}
use mathlib.Core.Path.{◌≡◌, refl, ap}
use mathlib.Core.List.{List}
use lib.ListN.{length}
use Rattle.replay.specs.Lists.{number_at}
use Rattle.record_replay.specs.Problems.{arrows_end}

-- they end where they begin, or behind it
pub ends_behind : (list : List ℕ) (at k : ℕ) → at ≤ arrows_end list at k
unfolding arrows_end
ends_behind list at zero = omega arith
ends_behind list at (suc k) = omega (arith, ends_behind list (at + 2 + 2 * number_at list at) k)

-- no arrows
pub last_end : (list : List ℕ) (at k : ℕ) → k ≡ 0 → arrows_end list at k ≡ at
unfolding arrows_end
last_end list at zero e = refl
last_end list at (suc k) e = absurd (omega (arith, e))

-- the first of some arrows
pub next_end : (list : List ℕ) (at k : ℕ) → 0 < k → arrows_end list at k ≡ arrows_end list (at + 2 + 2 * number_at list at) (k - 1)
unfolding arrows_end
next_end list at zero h = absurd (omega arith)
next_end list at (suc k) h =
    let e : k ≡ suc k - 1 = omega arith in
    ap (λ (m : ℕ). arrows_end list (at + 2 + 2 * number_at list at) m) e

-- the list ends before they do where it ends inside the first of them
pub ends_before : (list : List ℕ) (at k place : ℕ) → 0 < k → arrows_end list at k ≡ place → length list < at + 2 + 2 * number_at list at → length list < place
ends_before list at k place h e short = omega (arith, next_end list at k h, ends_behind list (at + 2 + 2 * number_at list at) (k - 1), e, short)
