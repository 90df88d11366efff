-- The search for reason 5 on the sizes and the scene that are lent.
-- Assumes nothing.
use Rattle.std.specs.Prelude.{ℕ, List, length}
use Rattle.record.specs.Leaf.{Range}
use Rattle.record.specs.Sizes.{kept_ranges}
use Rattle.kinds.specs.Kinds.{View}
use Rattle.literals.specs.Literals.{Found}
use Rattle.growth.specs.declared.Scene.{Scene}
use Rattle.sized.specs.Inside.{reason5_in, Board, SizedBoard}
use Rattle.sizes.specs.declared.SizeRanges.{SizeRanges}

module _ (ranges : SizeRanges) where
  -- the sized cells with their sizes
  abbrev pub ranges_of : List Range
  ranges_of = kept_ranges ranges.lowest.now ranges.highest.now (length ranges.lowest.now)

  -- reason 5 for the cell i, if it has sizes and is square
  abbrev pub reason5_on : View → ℕ → Found
  reason5_on v = reason5_in v ranges.lowest.now ranges.highest.now

  module _ (scene : Scene) where
    -- the scene has the board with the arrows `lines`, and they are sizes of its cells
    abbrev pub SizesWith : List (List ℕ) → Type 0
    SizesWith lines =
        let info = scene.linked.info in
        Board info.grid.height info.grid.width lines ranges.lowest.now ranges.highest.now info.cells.now info.kinds.now info.owners.now

    -- the scene has some board, and they are sizes of its cells
    abbrev pub SizesOf : Type 0
    SizesOf =
        let info = scene.linked.info in
        SizedBoard info.grid.height info.grid.width ranges.lowest.now ranges.highest.now info.cells.now info.kinds.now info.owners.now
