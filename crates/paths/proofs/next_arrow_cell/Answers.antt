-- `paths::next_arrow_cell` meets its contract: the number that `find` gives is the first that passes.
-- Assumes nothing.
use native.Mathlib.Omega.{arith}
use Rattle.std.proofs.Common.{rules, tests, ◌≡◌, true, false}
use Rattle.std.proofs.lemmas.Iterator.{first_from_Range}
use Rattle.std.proofs.lemmas.List.{get_or_read}
use Rattle.paths.specs.Ends.{arrow_cell_of}
use Rattle.paths.proofs.Crossings.{found_is}
use Rattle.paths.proofs.next_arrow_cell.Goals as goal

pub returns-clause-first : goal.returns-clause-first
unfolding arrow_cell_of
returns-clause-first c =
    let t = arrow_cell_of c.args.blocks.now.labels c.args.onarrow.now c.args.f in
    found_is t _ _ _ (first_from_Range _ _ _ _ (λ k. t k ≡ true) (λ k. t k ≡ false) c.find.ensures.ran
    (λ x q k. grind (arith, tests, get_or_read))
    (λ x q k. (search rules, grind (arith, tests, get_or_read))))
