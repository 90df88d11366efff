-- Laws of what a board counts, from its leaf and the marks of its arrow cells.
-- Assumes nothing.
use Prim.Native.Nat.{ℕ, ◌+◌, ◌*◌, ◌≤◌, ◌<◌}
use mathlib.Core.Bool.{Bool}
use mathlib.Core.Path.{◌≡◌, refl, subst}
use mathlib.Core.List.{List, Memᴰ}
use lib.ListN.{take}
use Rattle.std.specs.Prelude.{Some, IfOk, Ok, Err}
use Rattle.std.specs.Result.{result_ok}
use Rattle.std.specs.declared.result.Result.{Result}
use Rattle.grid.specs.Lists.{member}
use Rattle.grid.specs.Marks.{Marks}
use Rattle.grid.specs.Grid.{size}
use Rattle.grid.specs.Side.{sized}
use Rattle.grid.proofs.SideLaws.{sized-size}
use Rattle.grid.proofs.ListLaws.{flat_map-mem}
use Rattle.grid.proofs.GridLaws.{size_most}
use Rattle.record.specs.Problem.{arrow_cells, puzzle_of, grid_of, total_of}
use Rattle.record.specs.declared.Problem.{Problem}
use Rattle.groups.specs.Arrows.{on_arrow}
use Rattle.groups.specs.Arrays.{lines_of, mask_of}
use Rattle.groups.proofs.MarkLaws.{arrow_Marks}
use Rattle.kinds.specs.Kinds.{arrow_block, blocks_touched, kind_at, kinds_of, view, view_with}
use Rattle.kinds.specs.Inside.{puzzle_with}
use Rattle.sizes.specs.Lent.{ArrowArrays}
use Rattle.replay.specs.Comparisons.{DiffersUnless}
use Rattle.replay.specs.Tallies.{also_of}
use Rattle.replay.specs.declared.Run.{Run}
use Rattle.groups_replay.specs.Blocks.{PotentialSo}
use Rattle.groups_replay.specs.Entries.{ArrowsRun, BoardRun}
use Rattle.groups_replay.specs.declared.rounds.Rounds.{Rounds}

-- what is told of a value that is there
pub ok_told : {A E : Type 0} (P : A → Type 0) (r : Result A E) {x : A} → Some x ≡ result_ok r → IfOk r P → P x
ok_told P (Ok y) {x} e p = let q : y ≡ x = cc in subst P q p
ok_told P (Err k) e p = absurd (cc)

module _ (q : Problem) (held : ArrowArrays (q.height * q.width) q.arrows q.ends q.count (total_of q)) (tall : q.height ≤ 32) (wide : q.width ≤ 32) where
  -- the marks of the cells in the array are those of the arrow cells
  Marks-are : {onarrow : List ℕ} → Marks onarrow (λ i. member i (take (total_of q) q.arrows)) → onarrow ≡ mask_of (sized q.height q.width) (on_arrow (lines_of q.arrows q.ends q.count))
  unfolding arrow_cells
  Marks-are = arrow_Marks (sized q.height q.width) (lines_of q.arrows q.ends q.count) (take (total_of q) q.arrows) (size_most (sized q.height q.width) tall wide) held.cells_are inside
    where
      inside : (i : ℕ) → Memᴰ i (take (total_of q) q.arrows) → i < size (sized q.height q.width)
      inside i m =
          let r = flat_map-mem (λ (a : List ℕ). a) (lines_of q.arrows q.ends q.count) (rw held.cells_are at m) in
          rw (← sized-size q.height q.width) (held.drawn.inside r.0 r.1 i r.2)

  -- no view goes by the codes of its cells
  view_same : (cells : List ℕ) → view (puzzle_with (sized q.height q.width) (lines_of q.arrows q.ends q.count)) cells ≡ view (puzzle_of q) cells
  unfolding view view_with kinds_of kind_at blocks_touched arrow_block puzzle_of grid_of
  view_same cells = refl

  -- what the potential groups and the blocks count, the board counts
  pub board_told : (rounds : Rounds) (cells : List ℕ) {onarrow : List ℕ} → Marks onarrow (λ i. member i (take (total_of q) q.arrows)) → (n : ℕ) (list : List ℕ) (at : ℕ) (differs : Bool)
      → ((arrows : List (List ℕ)) → onarrow ≡ mask_of (sized q.height q.width) (on_arrow arrows) → DiffersUnless differs (PotentialSo rounds.labels rounds.kinds (sized q.height q.width) cells (on_arrow arrows) list at n))
      → (found : Run) → ((arrows : List (List ℕ)) → onarrow ≡ mask_of (sized q.height q.width) (on_arrow arrows) → 0 < rounds.labels → 0 < rounds.kinds → ArrowsRun (puzzle_with (sized q.height q.width) arrows) cells n list (at + 6 * n) found)
      → {r : Run} → r ≡ also_of found differs → BoardRun rounds (puzzle_of q) cells n list at r
  unfolding puzzle_of grid_of
  board_told rounds cells m n list at differs potential found arrows e =
      let marks = Marks-are m in
      let lines = lines_of q.arrows q.ends q.count in
      record {
        rest = found;
        rest_so = λ some kinds. rw (view_same cells) at (arrows lines marks some kinds);
        answer = differs;
        told = potential lines marks;
        counted = e;
      }
