-- What `FirstReason` says of a leaf: 11 comes first, then the refusals of the decisions, then what find tells, for which there is room.
-- Assumes nothing.
use Prim.Native.Nat.{◌+◌, ◌*◌, ◌≤◌}
use native.Mathlib.Omega.{arith}
use mathlib.Core.Path.{◌≡◌, ◌∙◌}
use lib.ListN.{length}
use Rattle.grid.specs.Grid.{size}
use Rattle.record.specs.Problem.{puzzle_of, grid_of}
use Rattle.reasons.specs.Reasons.{find_reason}
use Rattle.literals.proofs.Findings.{nothing_found}
use Rattle.calls.proofs.Opening.{returned_fault, made_on, unmade_on, formed_some, formed_few}
use Rattle.sizes.specs.LeafOf.{leaf_of}
use Rattle.calls.proofs.FindLaws.{output_short, decisions_refused, decisions_done}
use Rattle.calls.proofs.FoundLaws.{some_Literals, none_told, Literals-told, refused_told, told_as}
use Rattle.calls.proofs.first_reason.FirstReasonQuestion.ask.Goals as goal

pub returns-then-output-size-clause-told : goal.returns-then-output-size-clause-told
unfolding puzzle_of grid_of size
returns-then-output-size-clause-told c =
    let a = c.args in
    refused_told a.output.now (output_short (leaf_of a.leaf.now) a.self.now.decisions.now (length a.output.now) (rw (c.size.ensures.value, c.grid-grid.ensures.0, c.grid-grid.ensures.1) at c.if-output-size.true))

pub decide_in_order-requires : goal.decide_in_order-requires
decide_in_order-requires c = rw (c.grid-grid.ensures.0, c.grid-grid.ensures.1) (formed_some c.args.leaf.now.problem.now c.requires)

pub returns-in_err-cells-clause-told : goal.returns-in_err-cells-clause-told
unfolding puzzle_of grid_of size
returns-in_err-cells-clause-told c =
    let a = c.args in
    let t = refused_told a.output.now (decisions_refused (leaf_of a.leaf.now) a.self.now.decisions.now (length a.output.now) (rw (c.size.ensures.value, c.grid-grid.ensures.0, c.grid-grid.ensures.1) at c.if-output-size.false)
    (unmade_on a.leaf.now c.grid-grid.ensures a.self.now.decisions.now c.in_err-cells.ensures)) in
    (returned_fault c.from_residual.result c.in_err-cells.field-0.0 c.from_residual.ensures.1 ∙ t.0, t.1)

pub write_numbers-requires : goal.write_numbers-requires
unfolding puzzle_of grid_of size
write_numbers-requires c =
    let literals = some_Literals c.args.leaf.now _ (rw c.in-Some.is at c.find_inconsistency.ensures) in
    let room : 2 * (3 * (c.args.leaf.now.problem.now.height * c.args.leaf.now.problem.now.width) + 1) ≤ length c.args.output.now = rw (c.size.ensures.value, c.grid-grid.ensures.0, c.grid-grid.ensures.1) at c.if-output-size.false in
    (literals.0.within, omega (arith, literals.1, room))

pub returns-in-None-clause-told : goal.returns-in-None-clause-told
unfolding puzzle_of grid_of size
returns-in-None-clause-told c =
    let a = c.args in
    let made = made_on a.leaf.now c.grid-grid.ensures a.self.now.decisions.now c.in_ok-cells.ensures in
    told_as a.output.now (decisions_done (leaf_of a.leaf.now) a.self.now.decisions.now (length a.output.now) (rw (c.size.ensures.value, c.grid-grid.ensures.0, c.grid-grid.ensures.1) at c.if-output-size.false) made)
    (none_told a.output.now (nothing_found (find_reason (leaf_of a.leaf.now) _) (rw c.in-None.is at c.find_inconsistency.ensures)).0)

pub returns-in-Some-clause-told : goal.returns-in-Some-clause-told
unfolding puzzle_of grid_of size
returns-in-Some-clause-told c =
    let a = c.args in
    let made = made_on a.leaf.now c.grid-grid.ensures a.self.now.decisions.now c.in_ok-cells.ensures in
    let literals = some_Literals a.leaf.now _ (rw c.in-Some.is at c.find_inconsistency.ensures) in
    let t = Literals-told a.output.now literals.0 in
    told_as a.output.now (decisions_done (leaf_of a.leaf.now) a.self.now.decisions.now (length a.output.now) (rw (c.size.ensures.value, c.grid-grid.ensures.0, c.grid-grid.ensures.1) at c.if-output-size.false) made)
    (t.0, c.write_numbers.ensures ∙ t.1)

pub returns-in-Some-clause-few : goal.returns-in-Some-clause-few
unfolding puzzle_of grid_of size
returns-in-Some-clause-few c =
    let literals = some_Literals c.args.leaf.now _ (rw c.in-Some.is at c.find_inconsistency.ensures) in
    λ n e. let z : c.in-Some.count ≡ n = cc in omega (arith, literals.1, formed_few c.args.leaf.now.problem.now c.requires)
