-- `paths::find_crossing` meets its contract: the first name that has two arrow cells, and the first two of them.
-- Assumes nothing.
use mathlib.Core.Path.{sym, ◌∙◌}
use native.Mathlib.Omega.{arith}
use Rattle.grid.proofs.SideLaws.{area}
use Rattle.units.proofs.Names.{first_low}
use Rattle.paths.proofs.Crossings.{Crossing-at, Crossing-nowhere, first_there, second_there}
use Rattle.paths.proofs.find_crossing.Goals as goal

pub returns-in_err-f : goal.returns-in_err-f
returns-in_err-f c = λ p cells squares B e.
    let g = c.args.grid in
    rw c.from_residual.ensures (Crossing-nowhere p cells (omega (arith, e, area g.height g.width g.tall g.wide)) B (sym c.first_crossed.ensures ∙ c.in_err-f.was))

pub returns-in_err-a : goal.returns-in_err-a
returns-in_err-a c = λ p cells squares B e.
    absurd (first_there p cells (omega (arith, e, c.size-n.ensures.value, c.size-n.ensures.small)) B c.size-n.result (c.size-n.ensures.value ∙ e)
    (first_low _ c.requires (sym c.first_crossed.ensures ∙ c.in_ok-f.was)) (sym c.first_crossed.ensures ∙ c.in_ok-f.was)
    (sym c.next_arrow_cell.ensures.first ∙ c.in_err-a.was))

pub returns-in_err-b : goal.returns-in_err-b
returns-in_err-b c = λ p cells squares B e.
    absurd (second_there p cells (omega (arith, e, c.size-n.ensures.value, c.size-n.ensures.small)) B c.size-n.result (c.size-n.ensures.value ∙ e)
    (first_low _ c.requires (sym c.first_crossed.ensures ∙ c.in_ok-f.was)) (sym c.first_crossed.ensures ∙ c.in_ok-f.was)
    (sym c.next_arrow_cell.ensures.first ∙ c.in_ok-a.was) (sym c.next_arrow_cell-2.ensures.first ∙ c.in_err-b.was))

pub returns : goal.returns
returns c = λ p cells squares B e.
    let is = sym c.first_crossed.ensures ∙ c.in_ok-f.was in
    Crossing-at p cells (omega (arith, e, c.size-n.ensures.value, c.size-n.ensures.small)) B c.size-n.result (c.size-n.ensures.value ∙ e) (first_low _ c.requires is) is
    (sym c.next_arrow_cell.ensures.first ∙ c.in_ok-a.was) (sym c.next_arrow_cell-2.ensures.first ∙ c.in_ok-b.was)
