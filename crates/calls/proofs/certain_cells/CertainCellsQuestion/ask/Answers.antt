-- What `CertainCells` says of a leaf: 11 comes first, then the refusals of the decisions, then the answer of the search.
-- Assumes nothing.
use Prim.Native.Nat.{◌*◌}
use mathlib.Core.Path.{refl}
use lib.ListN.{length}
use Rattle.grid.specs.Grid.{size}
use Rattle.grid.specs.Side.{sized}
use Rattle.record.specs.Problem.{puzzle_of, grid_of}
use Rattle.sizes.specs.LeafOf.{leaf_of}
use Rattle.certain.specs.Told.{facts_as}
use Rattle.calls.proofs.Opening.{returned_fault, made_on, unmade_on, formed_some, formed_few}
use Rattle.calls.proofs.ToldLaws.{Tells-refused, Tells-said, certain_short, certain_refused, certain_done, left_States}
use Rattle.calls.proofs.certain_cells.CertainCellsQuestion.ask.Goals as goal

pub returns-then-output-n-clause-told : goal.returns-then-output-n-clause-told
unfolding puzzle_of grid_of size
returns-then-output-n-clause-told c =
    let a = c.args in
    Tells-refused _ 11 _ a.output.now
    (certain_short (leaf_of a.leaf.now) a.self.now.decisions.now a.self.now.budget (length a.output.now) (rw (c.size-n.ensures.value, c.grid-grid.ensures.0, c.grid-grid.ensures.1) at c.if-output-n.true))
    refl

pub decide_in_order-requires : goal.decide_in_order-requires
decide_in_order-requires c = rw (c.grid-grid.ensures.0, c.grid-grid.ensures.1) (formed_some c.args.leaf.now.problem.now c.requires)

pub returns-in_err-cells-clause-told : goal.returns-in_err-cells-clause-told
unfolding puzzle_of grid_of size
returns-in_err-cells-clause-told c =
    let a = c.args in
    Tells-refused _ _ _ a.output.now
    (certain_refused (leaf_of a.leaf.now) a.self.now.decisions.now a.self.now.budget (length a.output.now) (rw (c.size-n.ensures.value, c.grid-grid.ensures.0, c.grid-grid.ensures.1) at c.if-output-n.false)
    (unmade_on a.leaf.now c.grid-grid.ensures a.self.now.decisions.now c.in_err-cells.ensures))
    (returned_fault c.from_residual.result c.in_err-cells.field-0.0 c.from_residual.ensures.1)

pub certain_cells-facts-requires-clause-states : goal.certain_cells-facts-requires-clause-states
unfolding size
certain_cells-facts-requires-clause-states c =
    left_States (sized c.grid-grid.result.height c.grid-grid.result.width) c.args.self.now.decisions.now (rw (c.grid-grid.ensures.0, c.grid-grid.ensures.1) (formed_few c.args.leaf.now.problem.now c.requires))
    c.in_ok-cells.ensures

pub returns-clause-told : goal.returns-clause-told
unfolding puzzle_of grid_of size
returns-clause-told c =
    let a = c.args in
    let q = a.leaf.now.problem.now in
    let made = made_on a.leaf.now c.grid-grid.ensures a.self.now.decisions.now c.in_ok-cells.ensures in
    Tells-said (q.height * q.width) (facts_as c.certain_cells-facts.result) _ c.certain_cells-facts.ensures.facts a.output.now
    (certain_done (leaf_of a.leaf.now) a.self.now.decisions.now a.self.now.budget (length a.output.now) (rw (c.size-n.ensures.value, c.grid-grid.ensures.0, c.grid-grid.ensures.1) at c.if-output-n.false) made)
    (rw (← c.grid-grid.ensures.0, ← c.grid-grid.ensures.1, ← c.size-n.ensures.value) (c.write_certain.ensures.number, c.write_certain.ensures.bytes))
