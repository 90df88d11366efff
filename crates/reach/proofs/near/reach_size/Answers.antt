-- `reach::near::reach_size` meets its contract: the squares of f, its size and those of the groups passed are added.
-- Assumes nothing.
use mathlib.Core.Path.{◌∙◌}
use native.Mathlib.Omega.{arith}
use lib.ListN.{get_or}
use Rattle.std.proofs.lemmas.List.{take_all}
use Rattle.reach.proofs.NearLaws.{total_none, total_next}
use Rattle.reach.proofs.NearReach.{reach_sum}
use Rattle.reach.proofs.near.reach_size.Goals as goal
use Rattle.std.proofs.lemmas.Grind.{common_steps}

pub loop-m-init : goal.loop-m-init
loop-m-init c =
    let a = c.args in
    rw (c.from.ensures, c.from-2.ensures, c.from-f.ensures) (omega (arith, c.fits-squares a.f, c.fits-sizes a.f), omega (arith, total_none (λ m. get_or a.sizes.now m 0) a.names.now))

pub loop-m-preserved : goal.loop-m-preserved
loop-m-preserved c = grind (arith, common_steps, total_next)

pub returns : goal.returns
returns c =
    let sum = rw (take_all c.loop-m.m-index c.args.names.now c.loop-m-test.false) at c.loop-m.invariant.1 in
    λ info arrows cells near groups count held S Q listed N block.
    let g = info.grid in
    (rw listed at sum) ∙ reach_sum g.height g.width (record { tall = g.tall; wide = g.wide }) arrows cells info.kinds.now info.owners.now held c.args.f near groups count N block c.requires.name c.args.sizes.now c.args.squares.now S Q
