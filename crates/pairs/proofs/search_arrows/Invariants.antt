-- What holds at each turn of the loop of `pairs::search_arrows`.
-- Assumes nothing.
use Prim.Native.Nat.{ℕ, ◌*◌}
use mathlib.Core.Path.{◌≡◌}
use mathlib.Core.List.{List, Memᴰ}
use lib.ListN.{take}
use Rattle.record.specs.Lines.{start_at}
use Rattle.groups.specs.Arrows.{Pair}
use Rattle.groups.specs.Arrays.{lines_of}
use Rattle.literals.specs.Literals.{Found}
use Rattle.growth.specs.Pairs.{view_on}
use Rattle.pairs.proofs.PairSearch.{lines_from, rest_of}
use Rattle.pairs.proofs.search_arrows.Given as goal

-- the arrows before the a-th give no reason, and the buffer is as it was
pub record Amid (found : Pair → Found) (cells arrows ends : List ℕ) (number : ℕ) (buffer₀ buffer : List ℕ) (a : ℕ) : Type 0 where
  pub same : buffer ≡ buffer₀
  pub sub : (l : List ℕ) → Memᴰ l (lines_from arrows ends number (start_at ends a) a) → Memᴰ l (lines_of arrows ends number)
  pub passed : rest_of found cells (lines_of arrows ends number) ≡ rest_of found cells (lines_from arrows ends number (start_at ends a) a)

abbrev pub invariant-loop-k : goal.invariant-loop-k
invariant-loop-k g l =
    let info = l.scene.linked.info in
    let p = l.problem in
    Amid (g.R.PairReason.finds l.by (view_on info.grid.height info.grid.width (lines_of p.arrows p.ends p.count) info.cells.now)) (take (info.grid.height * info.grid.width) info.cells.now)
    p.arrows p.ends p.count l.initial.buffer l.buffer l.k
