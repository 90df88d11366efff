-- What is asked of a problem that is lent, and of the states of its cells.
-- Assumes nothing.
use Rattle.std.specs.Prelude.{ℕ, ◌*◌, Bool, ◌&&◌, List}
use Rattle.grid.specs.Lists.{all}
use Rattle.record.specs.declared.Problem.{Problem}
use Rattle.groups.specs.Arrays.{lines_of, Drawn}
use Rattle.finished.specs.Finished.{keeps_all, two_squares}

module _ (problem : Problem) where
  -- how many cells it has
  abbrev pub cells_in : ℕ
  cells_in = problem.height * problem.width

  -- its arrows
  abbrev pub arrows_in : List (List ℕ)
  arrows_in = lines_of problem.arrows problem.ends problem.count

  -- they stand in its arrays, as those of a board of n cells do
  abbrev pub IsDrawn : ℕ → Type 0
  IsDrawn n = Drawn n problem.arrows problem.ends problem.count

  -- every cell is decided, empty where it is black and square where that is given
  abbrev pub all_kept : List ℕ → Bool
  all_kept = keeps_all cells_in problem.cells

  -- and two squares or more stand on each arrow
  abbrev pub passes : List ℕ → Bool
  passes cells = all_kept cells && all (two_squares cells) arrows_in
