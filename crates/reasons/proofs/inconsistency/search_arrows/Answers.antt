-- `reasons::inconsistency::search_arrows` meets its contract: one search after the other, and the first reason that applies.
-- Assumes nothing.
use Rattle.literals.proofs.Findings.{found_first, found_next}
use Rattle.groups.specs.Arrays.{lines_of}
use Rattle.reasons.proofs.inconsistency.search_arrows.Goals as goal

pub returns-in-Some : goal.returns-in-Some
returns-in-Some c = found_first _ _ c.in-Some.ensures

pub returns : goal.returns
returns c =
    let q = c.args.leaf.now.problem.now in
    found_next _ _ c.in_default.ensures (c.check_sizes.ensures (lines_of q.arrows q.ends q.count) (record { held = c.requires.arrows; sizes = rw (c.requires.grid.0, c.requires.grid.1) c.args.leaf.now.sized }))
