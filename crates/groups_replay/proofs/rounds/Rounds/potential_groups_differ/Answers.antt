-- `groups_replay::rounds::Rounds::potential_groups_differ` tests that something was computed, and then holds the groups against what the list says.
-- Assumes nothing.
use Prim.Native.Nat.{◌*◌, ◌<◌}
use native.Mathlib.Omega.{arith}
use lib.ListN.{take}
use Rattle.grid.specs.Cells.{square, potential}
use Rattle.grid.specs.Grid.{size}
use Rattle.grid.specs.Side.{sized}
use Rattle.grid.proofs.SideLaws.{area}
use Rattle.groups.specs.Arrows.{on_arrow}
use Rattle.groups.specs.Arrays.{counts}
use Rattle.groups.proofs.TableLaws.{table_on}
use Rattle.replay.proofs.ComparisonLaws.{same_differs}
use Rattle.groups_replay.proofs.BlockLaws.{groups_told}
use Rattle.groups_replay.proofs.rounds.Rounds.potential_groups_differ.Goals as goal

pub returns : goal.returns
unfolding counts size
returns c =
    let a = c.args in
    let board = a.board.now in
    let g = sized board.grid.height board.grid.width in
    let n = board.grid.height * board.grid.width in
    let some : 0 < a.self.labels = omega (arith, c.if-self-eq0.false) in
    λ arrows marks. same_differs
    (λ h. record { labelled = some; told = omega (arith, c.if-self-eq0-2.false); groups_so = h })
    (λ q. q.groups_so) c.groups_differ.result
    (groups_told g (potential (take n board.cells.now)) (square (take n board.cells.now)) (on_arrow arrows) a.cursor.list.now a.cursor.at n (omega arith) (area board.grid.height board.grid.width board.grid.tall board.grid.wide)
    (table_on g _ arrows marks (c.label-groups.ensures.computed some)) c.groups_differ.result (rw c.size.ensures.value at c.groups_differ.ensures))
