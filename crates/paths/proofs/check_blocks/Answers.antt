-- `paths::check_blocks` meets its contract: the ends that were found and the path between them, or none.
-- Assumes nothing.
use Prim.Native.Nat.{◌*◌}
use lib.ListN.{take}
use Rattle.grid.specs.Side.{sized}
use Rattle.grid.proofs.SideLaws.{sized-size}
use Rattle.grid.proofs.GridLaws.{size_most}
use Rattle.groups.proofs.TableLaws.{table_few}
use Rattle.paths.proofs.Found.{crossing_ends, crossing_found, crossing_none}
use Rattle.paths.proofs.check_blocks.Goals as goal

pub find_crossing-requires : goal.find_crossing-requires
find_crossing-requires c =
    let g = c.args.grid in
    table_few (sized g.height g.width) _ c.requires.blocked.held.table (size_most (sized g.height g.width) g.tall g.wide)

pub returns-in_err-a : goal.returns-in_err-a
returns-in_err-a c = λ lines squares k.
    let g = c.args.grid in
    rw c.from_residual.ensures
    (crossing_none g.height g.width lines (take (g.height * g.width) c.args.cells.now)
    (c.find_crossing.ensures _ _ squares k (sized-size g.height g.width)) c.args.buffer.now c.in_err-a.was)

pub reason_for_path-requires-clause-ends : goal.reason_for_path-requires-clause-ends
reason_for_path-requires-clause-ends c =
    let g = c.args.grid in
    let k = c.requires.blocked in
    crossing_ends g.height g.width k.arrows (take (g.height * g.width) c.args.cells.now) (c.find_crossing.ensures _ _ k.squares k.held (sized-size g.height g.width)) c.in_ok-a.was

pub returns : goal.returns
returns c = λ lines squares k.
    let g = c.args.grid in
    crossing_found g.height g.width lines (take (g.height * g.width) c.args.cells.now)
    (c.find_crossing.ensures _ _ squares k (sized-size g.height g.width)) c.in_ok-a.was c.reason_for_path.ensures
