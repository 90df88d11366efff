-- `growth::Scene::block_size` meets its contract: the squares of the block in the arrays are those on the board.
-- Assumes nothing.
use mathlib.Core.Path.{ap, ◌∙◌}
use lib.ListN.{length}
use Rattle.shift.specs.Shift.{block_in}
use Rattle.growth.proofs.PairChecks.{block_in_lem}
use Rattle.growth.proofs.Scene.block_size.Goals as goal

pub returns : goal.returns
unfolding block_in
returns c =
    let s = c.args.self.now in
    let g = s.linked.info.grid in
    λ lines held arrow.
    rw (c.from-2.ensures, c.from.ensures) (s.blocks c.args.f c.requires.name arrow ∙ ap length (block_in_lem g.height g.width lines s.linked.info.cells.now held c.args.f))
