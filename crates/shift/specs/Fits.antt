-- The shift test of reason 3.
-- Assumes nothing.
use Rattle.std.specs.Prelude.{ℕ, Bool}
use Rattle.grid.specs.Lists.{any}
use Rattle.groups.specs.Rules.{fits}
use Rattle.kinds.specs.Kinds.{View, block, reach}

-- some shift of the arrow block f lies wholly in the reach of the arrow block e
abbrev pub shift_fits : View → ℕ → ℕ → Bool
shift_fits v f e = any (fits v.grid (block v f) (reach v e) f) (reach v e)
