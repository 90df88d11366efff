-- What the inner functions promise each other: bytes pushed behind those of a sheet.
-- Assumes nothing.
use Rattle.std.specs.Prelude.{ℕ, ◌+◌, ◌^◌, ◌≤◌, ◌<◌, ◌≡◌, Bool, List, ◌++◌, eqb, length, get_or, take, drop}
use Rattle.clauses.specs.declared.Sheet.{Sheet}

-- these bytes are counted behind those of the sheet so far, and written behind them in the same output where it has room
pub record Pushed (before after : Sheet) (bytes : List ℕ) : Type 0 where
  pub same : after.out.ghost_name ≡ before.out.ghost_name
  pub long : length after.out.now ≡ length before.out.now
  pub counted : before.len + length bytes < 2 ^ 64 → after.len ≡ before.len + length bytes
  pub wrote : before.len + length bytes < 2 ^ 64 → before.len + length bytes ≤ length before.out.now
      → after.out.now ≡ (take before.len before.out.now ++ bytes) ++ drop (before.len + length bytes) before.out.now

-- a mark
abbrev pub marked : List ℕ → ℕ → Bool
marked marks i = eqb (get_or marks i 0) 1
