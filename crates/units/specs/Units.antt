-- Reason 1: a potential group with a square and no arrow cell.
-- Assumes nothing.
use Rattle.std.specs.Prelude.{ℕ, ◌&&◌, not, List, [], ◌∷◌, ◌++◌}
use Rattle.grid.specs.Lists.{any, filter, last}
use Rattle.grid.specs.Grid.{Grid, cells_of, touches}
use Rattle.record.specs.Record.{Puzzle}
use Rattle.grid.specs.Cells.{Literal, empty, square, potential}
use Rattle.groups.specs.Groups.{labels, group, names}
use Rattle.groups.specs.Arrows.{on_arrow}
use Rattle.literals.specs.Literals.{Found, reason_if, first_found_of, each}

-- the empty cells that touch the potential group c, then its last square
abbrev pub boundary : Grid → List ℕ → List ℕ → List Literal
boundary g cells c =
    each 0 (filter (λ i. empty cells i && touches g c i) (cells_of g)) ++ each 1 (last 0 (filter (square cells) c) ∷ [])

module _ (p : Puzzle) (cells : List ℕ) where
  -- a potential group c with a square and no arrow cell
  unfoldable pub reason1_at : List ℕ → Found
  reason1_at c = reason_if (any (square cells) c && not (any (on_arrow p.arrows) c)) (boundary p.grid cells c)

  -- the lowest numbered potential group that gives a reason
  unfoldable pub reason1 : Found
  reason1 =
      let l = labels p.grid (potential cells) in
      first_found_of (λ f. reason1_at (group p.grid (potential cells) l f)) (names p.grid (potential cells) l)
