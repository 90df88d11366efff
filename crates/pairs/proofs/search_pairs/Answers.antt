-- `pairs::search_pairs` meets its contract: reason 3 for every pair, and only where none meets it reason 4.
-- Assumes nothing.
use Rattle.kinds.specs.Kinds.{view, view_with}
use Rattle.growth.specs.Growth.{reason34}
use Rattle.literals.proofs.Findings.{found_first, found_next}
use Rattle.pairs.proofs.search_pairs.Goals as goal

pub returns-in-Some : goal.returns-in-Some
unfolding reason34 view view_with
returns-in-Some c = found_first _ _ c.in-Some.ensures

pub returns : goal.returns
unfolding reason34 view view_with
returns c = found_next _ _ c.in_default.ensures c.search_arrows-2.ensures
