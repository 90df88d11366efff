-- The arrays of a board as the searches for reasons ask for them.
-- Assumes nothing.
use Prim.Native.Nat.{ℕ, ◌*◌, ◌≤◌, ◌<◌}
use mathlib.Core.Path.{◌≡◌, refl, sym, ap, ◌∙◌}
use mathlib.Core.List.{List, Memᴰ}
use lib.ListN.{length, take}
use Rattle.std.specs.Prelude.{Option}
use Rattle.grid.specs.declared.Grid.{Grid}
use Rattle.grid.specs.Lists.{member}
use Rattle.grid.specs.Marks.{Marks}
use Rattle.grid.specs.Grid.{size}
use Rattle.grid.specs.Side.{sized}
use Rattle.grid.specs.Cells.{square}
use Rattle.grid.proofs.SideLaws.{sized-size}
use Rattle.grid.proofs.ListLaws.{flat_map-mem}
use Rattle.grid.proofs.GridLaws.{size_most}
use Rattle.record.specs.Record.{Puzzle}
use Rattle.record.specs.Problem.{arrow_cells, puzzle_of, grid_of, total_of}
use Rattle.record.specs.declared.Problem.{Problem}
use Rattle.groups.specs.declared.Members.TheVariants.{Potential, Squares}
use Rattle.groups.specs.Arrows.{on_arrow}
use Rattle.groups.specs.Arrays.{lines_of, mask_of, counts, marked, Counted, GroupTable}
use Rattle.groups.proofs.TableLaws.{table_on}
use Rattle.groups.proofs.MarkLaws.{arrow_Marks}
use Rattle.kinds.specs.Kinds.{arrow_block, blocks_touched, kind_at, kinds_of, view, view_with}
use Rattle.kinds.specs.Inside.{puzzle_with, Held}
use Rattle.units.specs.Units.{reason1_at, reason1}
use Rattle.units.specs.Arrays.{PotentialTable}
use Rattle.paths.specs.Paths.{reason2}
use Rattle.paths.specs.Ends.{BlockTable}
use Rattle.reach.proofs.BlockSize.{block_cell, block_size}
use Rattle.shift.specs.Shift.{block_in}
use Rattle.growth.specs.Pairs.{view_on, Blocks}
use Rattle.growth.proofs.PairChecks.{block_in_lem}
use Rattle.sizes.specs.Lent.{ArrowArrays}
use Rattle.sizes.specs.declared.LentLeaf.{LentLeaf}
use Rattle.literals.specs.Inside.{FoundAs}

-- ---- the arrays of a board

module _ (lent : LentLeaf) (g : Grid) (same : (g.height ≡ lent.problem.now.height) × (g.width ≡ lent.problem.now.width)) where
  abbrev q : Problem
  q = lent.problem.now

  -- its arrows
  abbrev pub lines : List (List ℕ)
  lines = lines_of q.arrows q.ends q.count

  -- its puzzle, as the searches speak of it
  abbrev puzzle : Puzzle
  puzzle = puzzle_with (sized g.height g.width) lines

  -- they stand in arrays of the grid's cells
  drawn : ArrowArrays (g.height * g.width) q.arrows q.ends q.count (total_of q)
  drawn = rw (same.0, same.1) lent.arrows

  -- the marks of the cells in the array are those of the arrow cells
  Marks-are : {onarrow : List ℕ} → Marks onarrow (λ i. member i (take (total_of q) q.arrows)) → onarrow ≡ mask_of (sized g.height g.width) (on_arrow lines)
  unfolding arrow_cells
  Marks-are = arrow_Marks (sized g.height g.width) lines (take (total_of q) q.arrows) (size_most (sized g.height g.width) g.tall g.wide) drawn.cells_are inside
    where
      inside : (i : ℕ) → Memᴰ i (take (total_of q) q.arrows) → i < size (sized g.height g.width)
      inside i m =
          let r = flat_map-mem (λ (a : List ℕ). a) lines (rw drawn.cells_are at m) in
          rw (← sized-size g.height g.width) (drawn.drawn.inside r.0 r.1 i r.2)

  module _ (cells : List ℕ) {onarrow labels firsts squares arrowed : List ℕ} {count : ℕ} (m : Marks onarrow (λ i. member i (take (total_of q) q.arrows))) where
    -- the tables of the potential groups and of the blocks
    pub potentials_held : GroupTable (sized g.height g.width) (counts Potential (take (g.height * g.width) cells)) (square (take (g.height * g.width) cells)) (marked onarrow) labels firsts squares arrowed count
        → PotentialTable puzzle (take (g.height * g.width) cells) labels firsts squares arrowed count
    unfolding counts
    potentials_held t = table_on (sized g.height g.width) _ lines (Marks-are m) t

    pub blocks_held : GroupTable (sized g.height g.width) (counts Squares (take (g.height * g.width) cells)) (square (take (g.height * g.width) cells)) (marked onarrow) labels firsts squares arrowed count
        → BlockTable puzzle (take (g.height * g.width) cells) labels onarrow firsts squares arrowed count
    unfolding counts
    blocks_held t = record { table = table_on (sized g.height g.width) _ lines (Marks-are m) t; arrows_are = Marks-are m }

  -- what is found by its grid and its arrows is found by the leaf's puzzle: no reason goes by the codes of its cells
  module _ (cells : List ℕ) {before after : List ℕ} {r : Option ℕ} where
    pub first_of : FoundAs (reason1 puzzle (take (g.height * g.width) cells)) before after r → FoundAs (reason1 (puzzle_of q) (take (q.height * q.width) cells)) before after r
    unfolding reason1 reason1_at puzzle_of grid_of
    first_of x = rw (same.0, same.1) at x

    pub second_of : FoundAs (reason2 puzzle (take (g.height * g.width) cells)) before after r → FoundAs (reason2 (puzzle_of q) (take (q.height * q.width) cells)) before after r
    unfolding reason2 puzzle_of grid_of
    second_of x = rw (same.0, same.1) at x

-- the same for the reasons of arrows
pub view_of : (q : Problem) (cells : List ℕ) → view_on q.height q.width (lines_of q.arrows q.ends q.count) cells ≡ view (puzzle_of q) (take (q.height * q.width) cells)
unfolding view view_with kinds_of kind_at blocks_touched arrow_block puzzle_of grid_of
view_of q cells = refl

-- the sizes of the arrow blocks are the counts of their squares
pub Blocks-Counted : (h w : ℕ) → h ≤ 32 → w ≤ 32 → (lines : List (List ℕ)) (cells : List ℕ) {kinds owners squares : List ℕ} → Held (view_on h w lines cells) kinds owners
    → Counted (sized h w) (square (take (h * w) cells)) (square (take (h * w) cells)) squares → Blocks kinds owners (h * w) squares
unfolding block_in
Blocks-Counted h w tall wide lines cells {kinds} {owners} held counted f l b =
    counted.at f (block_cell (puzzle_with (sized h w) lines) (size_most (sized h w) tall wide) (take (h * w) cells) kinds owners held f b)
    ∙ sym (block_size (puzzle_with (sized h w) lines) (size_most (sized h w) tall wide) (take (h * w) cells) kinds owners held f b)
    ∙ sym (ap length (block_in_lem h w lines cells held f))
