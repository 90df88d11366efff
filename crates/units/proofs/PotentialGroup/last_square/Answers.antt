-- `units::PotentialGroup::last_square` meets its contract: the cells from behind, and the first of them that passes.
-- Assumes nothing.
use Rattle.std.proofs.Common.{rules, tests, true, false, ◌≡◌, ◌*◌}
use Rattle.std.proofs.lemmas.Iterator.{first_from_find}
use Rattle.units.specs.Inside.{has_square}
use Rattle.units.proofs.Sides.{last_found, YieldsList-from_rev}
use Rattle.units.proofs.PotentialGroup.last_square.Goals as goal

pub returns : goal.returns
returns c =
    let s = c.args.self.now in
    last_found (has_square s) (s.grid.height * s.grid.width) _
    (first_from_find _ _ _ (λ k. has_square s k ≡ true) (λ k. has_square s k ≡ false) c.find.ensures.ran (YieldsList-from_rev (s.grid.height * s.grid.width) (search rules)) (λ x q k. search (rules, tests)) (λ x q k. search (rules, tests)))
