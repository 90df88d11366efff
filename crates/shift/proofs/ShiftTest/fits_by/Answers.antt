-- `shift::ShiftTest::fits_by` meets its contract: each cell of the block has a place, and all of them are tested.
-- Assumes nothing.
use Rattle.std.proofs.Common.{ℕ, rules, tests}
use Rattle.std.proofs.lemmas.Iterator.{YieldsList-from_slice, YieldsList-from_zip}
use Rattle.std.proofs.lemmas.Iterator.Adapters.{serves_from_places}
use Rattle.std.proofs.lemmas.Iterator.Search.{all_from_yields_List}
use Rattle.shift.specs.Shift.{lands_in, all_land}
use Rattle.shift.specs.Test.{shifted, in_reach}
use Rattle.shift.proofs.Shifts.{place_in}
use Rattle.shift.proofs.ShiftTest.fits_by.Goals as goal

pub all-requires-clause-callable : goal.all-requires-clause-callable
all-requires-clause-callable c =
    let block = c.args.self.now.block in
    serves_from_places (YieldsList-from_zip (YieldsList-from_slice block.rows.now cc) (YieldsList-from_slice block.columns.now cc))
    (λ x q k. search (rules, tests)) (λ x k l e. let p = place_in block.places x.0.now x.1.now k l e in search rules)

pub returns : goal.returns
unfolding all_land
returns c =
    let s = c.args.self.now in
    let test = λ (p : ℕ × ℕ). lands_in (in_reach s) (shifted s p.0 p.1 c.args.dy c.args.dx) in
    all_from_yields_List test c.all.new.self _ _ c.all.ensures.ran (YieldsList-from_zip (YieldsList-from_slice s.block.rows.now cc) (YieldsList-from_slice s.block.columns.now cc)) (λ x b q k. search (rules, tests))
