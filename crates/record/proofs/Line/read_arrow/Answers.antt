-- `record::Line::read_arrow` meets its contract: each way out by its own law.
-- Assumes nothing.
use Prim.Native.Nat.{◌+◌, ◌*◌, ◌<◌}
use native.Mathlib.Omega.{arith}
use mathlib.Core.Path.{sym}
use Rattle.grid.specs.Side.{sized}
use Rattle.grid.proofs.SideLaws.{index_small}
use Rattle.fields.proofs.OutcomeLaws.{agrees_fault}
use Rattle.record.proofs.ArrowLaws.{opening_fits, arrow_bad, arrow_used, arrow_steps}
use Rattle.record.proofs.Line.read_arrow.Goals as goal
use Rattle.record.proofs.Line.read_arrow.Goals.{In_ok-start}

-- the start lies on the grid, and there are few steps
fits : (c : In_ok-start) → (c.in_ok-start.start.place.row < c.args.grid.height) × (c.in_ok-start.start.place.col < c.args.grid.width) × (c.in_ok-start.start.steps < 1024)
fits c = opening_fits _ (sized c.args.grid.height c.args.grid.width) _ (sym c.in_ok-start.ensures.value)

-- the cell is one of 1,024
small : (c : In_ok-start) → c.in_ok-start.start.place.row * c.args.grid.width + c.in_ok-start.start.place.col < 1024
small c = (index_small c.in_ok-start.start.place.row c.in_ok-start.start.place.col c.args.grid.tall c.args.grid.wide (fits c).0 (fits c).1).1

pub returns-in_err-start : goal.returns-in_err-start
returns-in_err-start c = agrees_fault _ _ _ c.from_residual.ensures.1 (arrow_bad c.args.bits.now (sized c.args.grid.height c.args.grid.width) _ c.in_err-start.ensures.value)

pub overflow_mul-start : goal.overflow_mul-start
overflow_mul-start c = omega (arith, small (goal.at.overflow_mul-start c).In_ok-start)

pub overflow_add-start : goal.overflow_add-start
overflow_add-start c = omega (arith, small (goal.at.overflow_add-start c).In_ok-start)

pub enter-requires : goal.enter-requires
enter-requires c = small (goal.at.enter-requires c).In_ok-start

pub returns-in_err-enter : goal.returns-in_err-enter
returns-in_err-enter c = agrees_fault _ _ _ c.from_residual-in_err-enter.ensures.1 (arrow_used c.args.bits.now (sized c.args.grid.height c.args.grid.width) _ _ _ _ c.in_ok-start.ensures.value c.in_err-enter.ensures)

pub read_steps-requires : goal.read_steps-requires
read_steps-requires c = let f = fits (goal.at.read_steps-requires c).In_ok-start in (f.0, f.1, omega (arith, c.in_ok-start.ensures.past.on), omega (arith, f.2))

pub returns : goal.returns
returns c = let e = c.in_ok-enter.ensures in arrow_steps c.args.bits.now (sized c.args.grid.height c.args.grid.width) _ _ _ _ c.in_ok-start.ensures.value c.in_ok-start.ensures.past _ e.1 e.2 c.read_steps.new.bits c.read_steps.result c.read_steps.ensures.cells c.read_steps.ensures.past
