-- Reason 2: a block with two or more arrow cells, and the path between the first two.
-- Assumes nothing.
use Rattle.std.specs.Prelude.{ℕ, zero, suc, Bool, cond, ◌&&◌, not, List, [], ◌∷◌, ◌++◌, map, eqb}
use Rattle.std.proofs.Math.Option.{none, some}
use Rattle.grid.specs.Lists.{any, filter}
use Rattle.grid.specs.Grid.{Grid, size, neighbours}
use Rattle.record.specs.Record.{Puzzle}
use Rattle.grid.specs.Cells.{square}
use Rattle.groups.specs.Groups.{labels, group, names}
use Rattle.groups.specs.Arrows.{on_arrow}
use Rattle.literals.specs.Literals.{Found, first_found_of, each}

-- an entry of the breadth-first list: a cell and its parent
abbrev pub Entry : Type 0
Entry = ℕ × ℕ

-- cell j is listed
abbrev pub seen : List Entry → ℕ → Bool
seen cs j = any (λ (d : Entry). eqb d.0 j) cs

-- what the cell c of the list cs appends: its square neighbours not yet listed, with c as their parent
unfoldable pub appended : Grid → List ℕ → List Entry → ℕ → List Entry
appended g cells cs c = map (λ j. (j, c)) (filter (λ j. square cells j && not (seen cs j)) (neighbours g c))

-- the breadth-first list, each cell with its parent, after k turns: done had theirs, todo are listed and wait
unfoldable pub breadth_first : Grid → List ℕ → ℕ → List Entry → List Entry → List Entry
breadth_first g cells zero done todo = done ++ todo
breadth_first g cells (suc k) done [] = done
breadth_first g cells (suc k) done (c ∷ todo) = breadth_first g cells k (done ++ (c ∷ [])) (todo ++ appended g cells (done ++ (c ∷ todo)) c.0)

-- the list that starts at b. As many turns as the grid has cells are enough (reasons/proofs/BreadthFirstLaws.antt)
abbrev pub list_from : Grid → List ℕ → ℕ → List Entry
list_from g cells b = breadth_first g cells (size g) [] ((b, b) ∷ [])

-- the parent of cell i
unfoldable pub parent : List Entry → ℕ → ℕ
parent [] i = i
parent (c ∷ cs) i = cond (eqb c.0 i) c.1 (parent cs i)

-- from a by parents to b, in k steps at most
unfoldable pub path : ℕ → List Entry → ℕ → ℕ → List ℕ
path zero cs a b = a ∷ []
path (suc k) cs a b = cond (eqb a b) (a ∷ []) (a ∷ path k cs (parent cs a) b)

-- the path from a to b
abbrev pub way : Grid → List ℕ → ℕ → ℕ → List ℕ
way g cells a b = path (size g) (list_from g cells b) a b

-- a block's arrow cells, the first two being a and b
unfoldable pub reason2_at : Grid → List ℕ → List ℕ → Found
reason2_at g cells [] = none
reason2_at g cells (a ∷ []) = none
reason2_at g cells (a ∷ b ∷ rest) = some (each 1 (way g cells a b))

module _ (p : Puzzle) (cells : List ℕ) where
  -- the lowest numbered block that gives a reason
  unfoldable pub reason2 : Found
  reason2 =
      let l = labels p.grid (square cells) in
      first_found_of (λ f. reason2_at p.grid cells (filter (on_arrow p.arrows) (group p.grid (square cells) l f))) (names p.grid (square cells) l)
