-- `growth::reason_for_pair` meets its contract: the block, and behind it the arrow cell with the fence.
-- Assumes nothing.
use native.Mathlib.Omega.{arith}
use mathlib.Core.Path.{◌∙◌}
use mathlib.Core.List.{[], ◌∷◌, append_assoc}
use Prim.Native.Nat.{◌≤◌}
use lib.ListN.{length}
use Rattle.kinds.specs.Kinds.{block, fence}
use Rattle.literals.specs.Literals.{each}
use Rattle.literals.proofs.Findings.{lent, Wrote-part}
use Rattle.growth.specs.Pairs.{view_on}
use Rattle.growth.proofs.PairSizes.{view_size, cell_few}
use Rattle.growth.proofs.reason_for_pair.Goals as goal

pub returns-clause-wrote : goal.returns-clause-wrote
returns-clause-wrote c =
    let a = c.args in
    let i = a.info.now in
    λ lines k.
    let v = view_on i.grid.height i.grid.width lines i.cells.now in
    let first = c.reason_for_arrow_block-count.ensures.wrote v k (c.size.ensures.value ∙ view_size i.grid.height i.grid.width lines i.cells.now) in
    let fits : c.reason_for_arrow_block-count.result ≤ length a.buffer.now = omega arith in
    rw (append_assoc (each 1 (block v a.b)) (each 1 (a.i ∷ [])) (fence v a.f))
    (Wrote-part first fits (rw (lent first fits) at (c.reason_for_cell-more.ensures lines k)))

pub returns-clause-few : goal.returns-clause-few
returns-clause-few c =
    let i = c.args.info.now in
    let s = c.requires.shown in
    omega (arith, (c.reason_for_cell-more.ensures s.lines s.held).many, cell_few i.grid.height i.grid.width s.lines i.cells.now c.args.i c.args.f)
