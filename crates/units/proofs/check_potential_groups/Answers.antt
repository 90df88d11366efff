-- `units::check_potential_groups` meets its contract: the group that was found and its boundary, or none.
-- Assumes nothing.
use Prim.Native.Nat.{◌*◌}
use mathlib.Core.Path.{sym, ap, ◌∙◌}
use lib.ListN.{take}
use Rattle.grid.specs.Side.{sized}
use Rattle.kinds.specs.Inside.{puzzle_with}
use Rattle.units.specs.Arrays.{found_at, boundary_of}
use Rattle.units.proofs.Checks.{named_found, nobody_found}
use Rattle.units.proofs.Names.{stranded_is, first_low}
use Rattle.units.proofs.check_potential_groups.Goals as goal

pub returns-in_err-f : goal.returns-in_err-f
returns-in_err-f c = λ lines held.
    let g = sized c.args.grid.height c.args.grid.width in
    let cells = take (c.args.grid.height * c.args.grid.width) c.args.cells.now in
    let r = boundary_of g cells in
    rw c.from_residual.ensures
    (nobody_found r c.args.buffer.now (stranded_is (puzzle_with g lines) cells held ∙ ap (found_at r) (sym c.find_stranded.ensures)) c.in_err-f.was)

pub returns : goal.returns
returns c = λ lines held.
    let g = sized c.args.grid.height c.args.grid.width in
    let cells = take (c.args.grid.height * c.args.grid.width) c.args.cells.now in
    let r = boundary_of g cells in
    named_found r (stranded_is (puzzle_with g lines) cells held ∙ ap (found_at r) (sym c.find_stranded.ensures)) c.in_ok-f.was
    (c.reason_for_boundary.ensures held.groups_are (first_low _ c.requires.names (sym c.find_stranded.ensures ∙ c.in_ok-f.was)))
