-- `paths::BreadthFirstList::list_neighbours` meets its contract: the neighbours in the first k directions are offered, each to the list as it is by then.
-- Assumes nothing.
use mathlib.Core.Path.{◌≡◌, sym, ◌∙◌}
use native.Mathlib.Omega.{arith}
use Rattle.grid.specs.Grid.{size}
use Rattle.grid.specs.Side.{sized, InGrid}
use Rattle.grid.proofs.GridLaws.{size_most}
use Rattle.paths.proofs.Listings.{Amid-none, Amid-at, Amid-off, Amid-all}
use Rattle.paths.proofs.BreadthFirstList.list_neighbours.Goals as goal
use Rattle.paths.proofs.BreadthFirstList.list_neighbours.Goals.{Start, in-Some, in_default}

-- the listed cell
here : (c : Start) → InGrid c.args.grid.height c.args.grid.width c.args.p
here c = record { tall = c.args.grid.tall; wide = c.args.grid.wide; within = c.requires }

pub loop-k-init : goal.loop-k-init
loop-k-init c = Amid-none _ _ _ _ _

pub loop-k-preserved : goal.loop-k-preserved
unfolding size
loop-k-preserved c =
    let g = c.args.grid in
    let at = rw c.from-cell.ensures at c.toward.ensures.neighbour in
    elim c.match-toward.branch [
      | in-Some w ↦ rw w.self-is
          (Amid-at _ _ _ c.loop-k.invariant c.requires (size_most (sized g.height g.width) g.tall g.wide) c.loop-k-test.true _ (sym w.in-Some.is ∙ at) w.list_cell.ensures)
      | in_default w ↦ rw w.self-is (Amid-off _ _ _ c.loop-k.invariant (sym w.in_default.is ∙ at))
    ]

pub returns : goal.returns
unfolding size
returns c = λ cs L.
    let g = c.args.grid in
    let e : c.loop-k.k ≡ 4 = omega (arith, c.loop-k.auto.k-end, c.loop-k-test.false) in
    Amid-all (sized g.height g.width) _ _ (rw e at c.loop-k.invariant) cs L
