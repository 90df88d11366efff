-- Arrow cells: the cells of some arrow.
-- Assumes nothing.
use Rattle.std.specs.Prelude.{ℕ, Bool}
use mathlib.Core.List.{List, Memᴰ}
use Rattle.grid.specs.Lists.{any, member}

-- i is an arrow cell: a cell of some arrow
abbrev pub OnArrow : List (List ℕ) → ℕ → Type 0
OnArrow arrows i = (a : List ℕ) × Memᴰ a arrows × Memᴰ i a

-- the same as a test
unfoldable pub on_arrow : List (List ℕ) → ℕ → Bool
on_arrow arrows i = any (member i) arrows
