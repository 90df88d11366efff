-- `calls::board_shades::shade` meets its contract: the record's refusals come first, then 11, then the refusals of the decisions, then the shades.
-- Assumes nothing.
use native.Mathlib.Omega.{arith}
use mathlib.Core.Path.{◌≡◌}
use lib.ListN.{length, take}
use Rattle.grid.specs.Grid.{size}
use Rattle.grid.specs.Side.{sized}
use Rattle.refusal.specs.declared.Refusal.TheVariants.{OutputShort}
use Rattle.exported.proofs.WrittenLaws.{Writes-refused, Writes-fault, Writes-as}
use Rattle.calls.specs.Shaded.{host_shades}
use Rattle.calls.proofs.ShadedLaws.{Measures-by, measures_some, shades_unread, shades_short, shades_refused, shades_done, shades_Writes}
use Rattle.calls.proofs.board_shades.shade.Goals as goal

pub returns-in_err-grid : goal.returns-in_err-grid
returns-in_err-grid c =
    let a = c.args in
    Writes-fault (host_shades a.«record».now a.decisions.now (length a.output.now)) a.output.now c.from_residual.result c.in_err-grid.field-0.0 c.from_residual.ensures.1
    (shades_unread a.«record».now c.in_err-grid.ensures a.decisions.now (length a.output.now))

pub returns-then-output-count : goal.returns-then-output-count
returns-then-output-count c =
    let a = c.args in
    Writes-refused (host_shades a.«record».now a.decisions.now (length a.output.now)) a.output.now OutputShort
    (shades_short (Measures-by c.in_ok-grid.ensures) a.decisions.now (length a.output.now) (omega (arith, c.size-count.ensures.value)))

pub decide_in_order-requires : goal.decide_in_order-requires
decide_in_order-requires c = measures_some (Measures-by c.in_ok-grid.ensures)

pub returns-in_err-cells : goal.returns-in_err-cells
returns-in_err-cells c =
    let a = c.args in
    Writes-fault (host_shades a.«record».now a.decisions.now (length a.output.now)) a.output.now c.from_residual-in_err-cells.result c.in_err-cells.field-0.0 c.from_residual-in_err-cells.ensures.1
    (shades_refused (Measures-by c.in_ok-grid.ensures) a.decisions.now (length a.output.now) (omega (arith, c.size-count.ensures.value)) c.in_err-cells.ensures)

pub returns : goal.returns
unfolding size
returns c =
    let a = c.args in
    let g = sized c.in_ok-grid.grid.height c.in_ok-grid.grid.width in
    let n : c.size-count.result ≡ size g = c.size-count.ensures.value in
    Writes-as (host_shades a.«record».now a.decisions.now (length a.output.now)) a.output.now _ _
    (shades_done (Measures-by c.in_ok-grid.ensures) a.decisions.now (length a.output.now) (omega (arith, c.size-count.ensures.value)) c.in_ok-cells.ensures)
    (rw n (shades_Writes g (take (size g) c.in_ok-cells.cells) _ a.output.now _ (omega (arith, n, c.size-count.ensures.small)) c.shade_cells-shades.ensures (rw n at c.write_numbers.ensures)))
