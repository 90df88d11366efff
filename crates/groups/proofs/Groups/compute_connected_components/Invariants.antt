-- What holds at each turn of the loop of `groups::Groups::compute_connected_components`.
-- Assumes nothing.
use lib.ListN.{take}
use Prim.Native.Nat.{◌*◌}
use Rattle.grid.specs.Side.{sized}
use Rattle.groups.specs.Arrays.{counts}
use Rattle.groups.specs.Flood.{Sofar}
use Rattle.groups.specs.Table.{Tabled}
use Rattle.groups.proofs.Groups.compute_connected_components.Given as goal

abbrev pub invariant-loop-s : goal.invariant-loop-s
invariant-loop-s l =
    let G = l.self in
    Sofar (sized l.grid.height l.grid.width) (counts l.fn.members (take (l.grid.height * l.grid.width) l.cells)) l.initial.self.labels l.s G.labels × Tabled l.cells l.onarrow G.labels l.s G.firsts G.squares G.arrowed l.number
