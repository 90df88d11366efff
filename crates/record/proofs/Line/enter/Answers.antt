-- `record::Line::enter` meets its contract.
-- Assumes nothing.
use native.Mathlib.Omega.{arith}
use Rattle.record.proofs.KeptLaws.{enter_twice, enter_once, line_room, line_more, line_kept}
use Rattle.record.proofs.Line.enter.Goals as goal
use Rattle.record.proofs.Line.enter.Goals.{Else-self-cell-ne0}

pub returns-then-self-cell-ne0 : goal.returns-then-self-cell-ne0
returns-then-self-cell-ne0 c = rw (← c.self.view_is) (enter_twice c.self.invariant.1 c.args.cell c.requires c.if-self-cell-ne0.true)

pub bounds-self-inside-self-inside : goal.bounds-self-inside-self-inside
bounds-self-inside-self-inside c =
    let line = c.self.inside in line_room line.count line.cells line.used c.self.invariant.0 c.self.invariant.1 c.args.cell c.requires c.if-self-cell-ne0.false

pub invariant_of-self : goal.invariant_of-self
invariant_of-self c =
    let line = c.self.inside in
    let z = c.if-self-cell-ne0.false in
    (omega (arith, line_room line.count line.cells line.used c.self.invariant.0 c.self.invariant.1 c.args.cell c.requires z), line_kept line.count line.cells line.used c.self.invariant.0 c.self.invariant.1 c.args.cell c.requires z)

pub returns : goal.returns
returns c =
    let line = c.self.inside in
    let z = c.if-self-cell-ne0.false in
    rw (← c.self.view_is) (0, enter_once c.self.invariant.1 c.args.cell c.requires z, line_more line.count line.cells line.used c.self.invariant.0 c.self.invariant.1 c.args.cell c.requires z)
