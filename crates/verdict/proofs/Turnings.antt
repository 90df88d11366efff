-- Every turning is an isomorphism.
-- Assumes nothing.
use Prim.Native.Nat.{ℕ}
use mathlib.Core.Path.{refl}
use mathlib.Core.List.{List}
use Rattle.record.proofs.LineLaws.{valid_arrows}
use Rattle.record.specs.Leaf.{Leaf, leaf_with}
use Rattle.record.proofs.LeafLaws.{ValidLeaf}
use Rattle.turn.specs.Turn.{Turn, turned_by, carried}
use Rattle.turn.proofs.TurnLaws.{Turns}
use Rattle.turn.proofs.PuzzleLaws.{carried_to}
use Rattle.verdict.specs.Isomorphism.{Isomorphism}
use Rattle.verdict.specs.Turned.{sizes_to}
use Rattle.verdict.proofs.TurnedSizes.{sizes_same}

-- of a board of a leaf with its image, in any edition and with any sizes
pub turn_Isomorphism : {m : Turn} (l : Leaf) → Turns l.puzzle.grid m → ValidLeaf l → (cells : List ℕ)
    → Isomorphism l (leaf_with l.edition (sizes_to m l.sizes) (turned_by m l.puzzle)) cells (carried m cells) m.to
turn_Isomorphism {m} l t v cells = record {
  embeds = t.embeds;
  onto = λ j k. (m.from j, t.into j k, t.to_from j k);
  arrows = refl;
  states = carried_to t cells;
  edition = refl;
  sizes = sizes_same t (valid_arrows l.puzzle v.puzzle) v.sizes;
}
