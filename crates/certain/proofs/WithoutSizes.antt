-- On a leaf without sizes `certain` answers as before: by the search on the leaf in its edition, whose finds have the reasons 1 to 4
-- (reasons/WithoutSizes `reason_without`) and whose boards are finished by the first two block rules (finished/WithoutSizes `means_without`).
-- Assumes nothing.
use Prim.Native.Nat.{ℕ}
use mathlib.Core.Path.{◌≡◌}
use mathlib.Core.Bool.{true}
use mathlib.Core.List.{List, []}
use Rattle.grid.specs.Grid.{size}
use Rattle.record.specs.Record.{Puzzle, ok, read_record}
use Rattle.record.specs.Leaf.{in_edition, is_edition}
use Rattle.record.proofs.LeafLaws.{plain_leaf}
use Rattle.board.specs.Board.{Call, cells_after}
use Rattle.board.specs.Calls.{standing}
use Rattle.reasons.specs.Demand3.{board_after}
use Rattle.certain.specs.Tree.{search_of}
use Rattle.certain.specs.Facts.{certain_by, certain_of}
use Rattle.certain.proofs.MeaningLaws.{section_8}

-- what is answered on a board that was opened without sizes, after any list of calls
pub certain_without : (s : List ℕ) (e : ℕ) (p : Puzzle) → read_record s ≡ ok p → is_edition e ≡ true → (cs : List Call) (budget : ℕ)
    → certain_of (board_after s e [] cs) budget ≡ certain_by (size p.grid) budget (search_of (in_edition e p) (cells_after p.grid (standing p cs)))
certain_without s e p r h cs budget = (section_8.holds s e [] (in_edition e p) (plain_leaf s e p r h) cs).search_is budget
