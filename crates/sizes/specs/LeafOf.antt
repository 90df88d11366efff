-- The leaf that is lent.
-- Assumes nothing.
use Rattle.std.specs.Prelude.{length}
use Rattle.record.specs.Leaf.{Leaf, leaf_with}
use Rattle.record.specs.Problem.{puzzle_of}
use Rattle.record.specs.Sizes.{kept_ranges}
use Rattle.sizes.specs.declared.LentLeaf.{LentLeaf}

-- the leaf that is lent: its puzzle, in its edition, with the ranges that its sizes keep
abbrev pub leaf_of : LentLeaf → Leaf
leaf_of lent = leaf_with lent.edition (kept_ranges lent.sizes.lowest.now lent.sizes.highest.now (length lent.sizes.lowest.now)) (puzzle_of lent.problem.now)
