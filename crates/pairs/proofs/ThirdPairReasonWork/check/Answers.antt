-- `pairs::Third::check` meets its contract: some shift fits, or the reason is the three parts.
-- Assumes nothing.
use Prim.Native.Nat.{◌*◌, ◌≤◌}
use native.Mathlib.Omega.{arith}
use mathlib.Core.Path.{refl, sym, ◌∙◌}
use lib.ListN.{take}
use Rattle.grid.proofs.SideLaws.{area}
use Rattle.growth.proofs.PairFinds.{no_shift, shift_found}
use Rattle.growth.proofs.PairNames.{last_kind, cur_kind, last_name, cur_name}
use Rattle.pairs.proofs.ThirdPairReasonWork.check.Goals as goal

pub shift_fits-requires-clause-blocks : goal.shift_fits-requires-clause-blocks
shift_fits-requires-clause-blocks c =
    let grid = c.args.scene.now.linked.info.grid in
    let small : grid.height * grid.width ≤ 1024 = area grid.height grid.width grid.tall grid.wide in
    let p = c.requires.squares in
    rw (c.last_cell.ensures, c.cur_cell-cell.ensures) (last_name p, omega (arith, cur_name p, small))

pub shift_fits-requires-clause-squares : goal.shift_fits-requires-clause-squares
shift_fits-requires-clause-squares c =
    let grid = c.args.scene.now.linked.info.grid in
    let small : grid.height * grid.width ≤ 1024 = area grid.height grid.width grid.tall grid.wide in
    let p = c.requires.squares in
    rw c.last_cell.ensures (c.args.scene.now.blocks _ (omega (arith, last_name p, small)) (last_kind p))

pub returns-then-shift_fits : goal.returns-then-shift_fits
returns-then-shift_fits c = λ lines k.
    let info = c.args.scene.now.linked.info in
    let p = c.requires.squares in
    let kind = cur_kind p in
    let fits = c.shift_fits.ensures lines (take (info.grid.height * info.grid.width) info.cells.now) k.held (rw c.cur_cell-cell.ensures kind) in
    no_shift k (omega (arith, p.two)) (omega (arith, p.two)) p.first p.second _ _ refl refl (rw (c.last_cell.ensures, c.cur_cell-cell.ensures) at (sym fits ∙ c.if-shift_fits.true))

pub returns : goal.returns
returns c = λ lines k.
    let info = c.args.scene.now.linked.info in
    let p = c.requires.squares in
    let kind = cur_kind p in
    let fits = c.shift_fits.ensures lines (take (info.grid.height * info.grid.width) info.cells.now) k.held (rw c.cur_cell-cell.ensures kind) in
    shift_found k (omega (arith, p.two)) (omega (arith, p.two)) p.first p.second _ _ refl refl
    (rw (c.last_cell.ensures, c.cur_cell-cell.ensures) at (sym fits ∙ c.if-shift_fits.false))
    (rw (c.last_cell.ensures, c.cur_cell-cell.ensures) at (c.reason_for_pair-literals.ensures.wrote lines k.held))
