-- `units::PotentialGroup::touches` meets its contract: the four directions give all neighbours.
-- Assumes nothing.
use Rattle.std.proofs.Common.{rules, tests, true, false, ◌≡◌}
use Rattle.std.proofs.lemmas.Iterator.{YieldsList-from_range, cases_from_any}
use Rattle.std.specs.Prelude.{refl}
use Rattle.grid.specs.Side.{sized}
use Rattle.units.specs.Inside.{has_cell, touched_toward}
use Rattle.units.proofs.Sides.{any_side}
use Rattle.units.proofs.PotentialGroup.touches.Goals as goal

pub returns : goal.returns
returns c =
    let s = c.args.self.now in
    any_side (sized s.grid.height s.grid.width) c.args.i (has_cell s) _
    (cases_from_any _ _ _ (λ k. touched_toward s c.args.i k ≡ true) (λ k. touched_toward s c.args.i k ≡ false) c.any.ensures.ran
    (YieldsList-from_range 0 4 4 refl refl) (λ x q k. search (rules, tests)) (λ x q k. search (rules, tests)))
