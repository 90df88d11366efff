-- The first reason that applies.
-- Assumes nothing.
use Rattle.std.specs.Prelude.{ℕ, List}
use Rattle.record.specs.Leaf.{Leaf}
use Rattle.kinds.specs.Kinds.{view}
use Rattle.literals.specs.Literals.{Found, or_else}
use Rattle.units.specs.Units.{reason1}
use Rattle.paths.specs.Paths.{reason2}
use Rattle.growth.specs.Growth.{reason34}
use Rattle.sized.specs.Sized.{reason5}

-- reason 1, else 2, else 3 and 4 along the arrows, else 5
unfoldable pub find_reason : Leaf → List ℕ → Found
find_reason l cells =
    let v = view l.puzzle cells in
    or_else (reason1 l.puzzle cells) (or_else (reason2 l.puzzle cells) (or_else (reason34 l.edition v) (reason5 v l.sizes)))
