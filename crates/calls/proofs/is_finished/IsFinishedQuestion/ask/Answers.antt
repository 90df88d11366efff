-- What `IsFinished` says of a leaf: the refusals of the decisions come first, then the verdict.
-- Assumes nothing.
use mathlib.Core.Bool.{Bool}
use mathlib.Core.Path.{refl, ap, ◌∙◌}
use lib.IntN.{pos}
use Rattle.grid.specs.Grid.{size}
use Rattle.record.specs.Record.{ok}
use Rattle.record.specs.Problem.{puzzle_of, grid_of}
use Rattle.calls.proofs.Opening.{returned_fault, made_on, unmade_on, formed_some}
use Rattle.sizes.specs.LeafOf.{leaf_of}
use Rattle.calls.specs.Judged.{judged}
use Rattle.calls.proofs.JudgedLaws.{judged_refused, judged_done, judged_number}
use Rattle.calls.proofs.is_finished.IsFinishedQuestion.ask.Goals as goal

pub decide_in_order-requires : goal.decide_in_order-requires
decide_in_order-requires c = rw (c.grid.ensures.0, c.grid.ensures.1) (formed_some c.args.leaf.now.problem.now c.requires)

pub returns-in_err-cells-clause-told : goal.returns-in_err-cells-clause-told
returns-in_err-cells-clause-told c =
    let decisions = c.args.self.now.decisions.now in (
      returned_fault c.from_residual.result c.in_err-cells.field-0.0 c.from_residual.ensures.1
          ∙ judged_refused (leaf_of c.args.leaf.now) decisions (unmade_on c.args.leaf.now c.grid.ensures decisions c.in_err-cells.ensures),
      refl,
    )

pub returns-clause-told : goal.returns-clause-told
unfolding puzzle_of grid_of size
returns-clause-told c =
    let decisions = c.args.self.now.decisions.now in
    let made = made_on c.args.leaf.now c.grid.ensures decisions c.in_ok-cells.ensures in
    (ap pos c.from.ensures ∙ judged_number c.is_finished.result ∙ ap (λ (yes : Bool). judged (ok yes)) c.is_finished.ensures ∙ judged_done (leaf_of c.args.leaf.now) decisions made, refl)
