-- What holds at each turn of the loop of `groups::Groups::flood`, and what falls from turn to turn. G₀ are the groups before the flood, from the cell s.
-- Assumes nothing.
use Prim.Native.Nat.{ℕ, ◌+◌, ◌*◌}
use mathlib.Core.Path.{◌≡◌}
use mathlib.Core.Bool.{Bool}
use mathlib.Core.List.{List}
use lib.ListN.{get_or}
use Rattle.grid.specs.Grid.{Grid}
use Rattle.grid.specs.Side.{sized}
use Rattle.groups.specs.Arrays.{marked}
use Rattle.groups.specs.Flood.{unlabelled, free, Only, Flooding}
use Rattle.groups.specs.Table.{Counting}
use Rattle.groups.specs.declared.Groups.{Groups}
use Rattle.groups.proofs.Groups.flood.Given as goal

pub record Amid (g : Grid) (s : ℕ) (cells onarrow : List ℕ) (G₀ G : Groups) (st : List ℕ) (c ones crossed : ℕ) : Type 0 where
  pub floods : (p : ℕ → Bool) → Only p G₀.labels → Flooding g p s G₀.labels 1024 G.labels st c
  pub seed : get_or G.labels s 0 ≡ unlabelled → ⊥
  pub squares : Counting s (marked cells) G.labels st c ones
  pub crossings : Counting s (marked onarrow) G.labels st c crossed
  -- of the groups only the labels change
  pub rest : G ≡ record G₀ { labels = G.labels }

abbrev pub invariant-loop-count : goal.invariant-loop-count
invariant-loop-count l = Amid (sized l.grid.height l.grid.width) l.s l.cells l.onarrow l.fn.self l.self l.stack l.count l.ones l.crossed

abbrev pub decreases-loop-count : goal.decreases-loop-count
decreases-loop-count l = 2 * free l.self.labels + l.count
