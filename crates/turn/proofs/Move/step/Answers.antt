-- `turn::Move::step` meets its contract.
-- Assumes nothing.
use native.Mathlib.Omega.{arith}
use Rattle.std.proofs.lemmas.List.{length-take, get_or-take}
use Rattle.form.proofs.AcceptedLaws.{kept}
use Rattle.writer.proofs.ArrayLaws.{parts}
use Rattle.turn.proofs.ArrayLaws.{step_formed, step_kept}
use Rattle.turn.proofs.Move.step.Goals as goal

pub grid-grid-requires : goal.grid-grid-requires
grid-grid-requires c =
    let k = kept c.puzzle.inside.problem c.puzzle.invariant c.puzzle.view_is in
    let r = parts c.args.puzzle.now k.valid c.puzzle.inside.problem k.arrays in
    (r.tall, r.wide)

pub arrow_total-total-requires : goal.arrow_total-total-requires
arrow_total-total-requires c =
    let k = kept c.puzzle.inside.problem c.puzzle.invariant c.puzzle.view_is in
    (parts c.args.puzzle.now k.valid c.puzzle.inside.problem k.arrays).few

pub shared_ref_as_front-line : goal.shared_ref_as_front-line
shared_ref_as_front-line c =
    let k = kept c.puzzle.inside.problem c.puzzle.invariant c.puzzle.view_is in
    let r = parts c.args.puzzle.now k.valid c.puzzle.inside.problem k.arrays in
    omega (arith, c.arrow_total-total.ensures, r.short)

pub line-puzzle-inside-requires : goal.line-puzzle-inside-requires
line-puzzle-inside-requires c =
    let k = kept c.puzzle.inside.problem c.puzzle.invariant c.puzzle.view_is in
    let r = parts c.args.puzzle.now k.valid c.puzzle.inside.problem k.arrays in
    let n = c.arrow_total-total.result in
    let line = c.puzzle.inside.problem.arrows in (
      omega (arith, length-take n line, c.arrow_total-total.ensures, r.short),
      λ t h. rw (get_or-take n line t 0 (omega (arith, length-take n line)), c.grid-grid.ensures.height, c.grid-grid.ensures.width) (r.cells t (omega (arith, length-take n line, c.arrow_total-total.ensures))),
    )

pub invariant_of-puzzle : goal.invariant_of-puzzle
invariant_of-puzzle c =
    let k = kept c.puzzle.inside.problem c.puzzle.invariant c.puzzle.view_is in
    step_formed c.args.puzzle.now k.valid c.args.self k.arrays
    (record { sides = (rw (c.grid-grid.ensures.height, c.grid-grid.ensures.width) at c.to_grid-moved.ensures); all = c.arrow_total-total.ensures; codes = (rw (c.grid-grid.ensures.height, c.grid-grid.ensures.width) at c.codes-puzzle-inside.ensures); line = (rw (c.grid-grid.ensures.height, c.grid-grid.ensures.width) at c.line-puzzle-inside.ensures) })

pub returns : goal.returns
returns c =
    let k = kept c.puzzle.inside.problem c.puzzle.invariant c.puzzle.view_is in
    step_kept c.args.puzzle.now k.valid c.args.self k.arrays
    (record { sides = (rw (c.grid-grid.ensures.height, c.grid-grid.ensures.width) at c.to_grid-moved.ensures); all = c.arrow_total-total.ensures; codes = (rw (c.grid-grid.ensures.height, c.grid-grid.ensures.width) at c.codes-puzzle-inside.ensures); line = (rw (c.grid-grid.ensures.height, c.grid-grid.ensures.width) at c.line-puzzle-inside.ensures) })
