-- What holds at each turn of the loop of `form::Rows::all_follow`.
-- Assumes nothing.
use Prim.Native.Nat.{ℕ}
use mathlib.Core.Path.{◌≡◌}
use mathlib.Core.Bool.{true}
use mathlib.Core.List.{List}
use lib.ListN.{take, drop}
use Rattle.grid.specs.Lists.{all, last}
use Rattle.grid.specs.Grid.{Grid}
use Rattle.grid.specs.Side.{sized}
use Rattle.record.specs.Lines.{start_at}
use Rattle.record.specs.Problem.{arrows_from}
use Rattle.form.specs.Form.{rises, is_path}
use Rattle.form.proofs.Rows.all_follow.Given as goal

-- amid the arrows: the ends es, of which k are passed
pub record Amid (g : Grid) (line es : List ℕ) (at k : ℕ) : Type 0 where
  pub rise : rises at (drop k es) ≡ true
  pub top : last 0 es ≡ last at (drop k es)
  pub same : all (is_path g) (arrows_from line 0 es) ≡ all (is_path g) (arrows_from line at (drop k es))

abbrev pub invariant-loop-k : goal.invariant-loop-k
invariant-loop-k l = Amid (sized l.self.grid.height l.self.grid.width) l.problem.arrows (take l.problem.count l.problem.ends) (start_at l.problem.ends l.k) l.k
