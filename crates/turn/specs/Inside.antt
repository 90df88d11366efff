-- Turning step by step, as the code does it: a flip or a quarter turn at a time.
-- Assumes nothing.
use Rattle.std.specs.Prelude.{ℕ, zero, suc}
use Rattle.grid.specs.Grid.{Grid}
use Rattle.record.specs.Record.{Puzzle}
use Rattle.turn.specs.Turn.{Turn, flip, quarter, turned_by}
use Rattle.turn.specs.declared.Move.{Move}
use Rattle.turn.specs.declared.Move.TheVariants.{Quarter, Flip}

-- a quarter turn, or a flip
abbrev pub step_of : Move → Grid → Turn
step_of Quarter g = quarter g
step_of Flip g = flip g

-- r quarter turns of a puzzle
unfoldable pub spun : ℕ → Puzzle → Puzzle
spun zero p = p
spun (suc r) p = turned_by (quarter (spun r p).grid) (spun r p)
