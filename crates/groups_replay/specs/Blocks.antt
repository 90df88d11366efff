-- What a list says of the reach and the fence of an arrow block, and of the names and kinds of a board.
-- Assumes nothing.
use Rattle.std.specs.Prelude.{ℕ, ◌+◌, ◌*◌, ◌≤◌, ◌<◌, Bool, false, not, ◌≡◌, List, [], ◌∷◌, ◌++◌, map, length, take, drop, get_or, eqb, replicate, Option, Some, None}
use Rattle.grid.specs.Lists.{upto, filter}
use Rattle.grid.specs.Grid.{Grid}
use Rattle.grid.specs.Cells.{word, potential, square}
use Rattle.groups.specs.Arrays.{label_array, tally_of}
use Rattle.kinds.specs.Kinds.{View, reach, fence}
use Rattle.kinds.specs.Arrays.{reach_mask}
use Rattle.groups.specs.declared.Groups.{Groups}
use Rattle.replay.specs.Lists.{number_at, byte_in, number_in, differs}
use Rattle.replay.specs.Comparisons.{Compared}
use Rattle.replay.specs.Tallies.{broken_run, run_of, then_of, also_of}
use Rattle.replay.specs.declared.Run.{Run}

-- a reach has the size that a list has behind a block's name, and the n marks behind that
abbrev pub ReachSo : List ℕ → ℕ → ℕ → ℕ → List ℕ → Type 0
ReachSo list at n size marks = (number_at list (at + 2) ≡ size) × (differs marks (byte_in list (at + 4) n 0 0) 0 ≡ false)

-- a fence has so many literals, those of a list behind their number, and nothing is written behind them
abbrev pub FenceSo : List ℕ → ℕ → ℕ → ℕ → List ℕ → Type 0
FenceSo list at count size part = (count ≡ size) × (differs part (number_in list (at + 2) count 65535) 0 ≡ false)

-- a fresh buffer after the fence of a block was written to it
unfoldable pub left : View → ℕ → List ℕ
left v f = map word (fence v f) ++ drop (length (fence v f)) (replicate 4096 65535)

-- the reach and the fence of a block are those of a list at two places, with n marks and so many literals
abbrev pub BlockSo : View → ℕ → List ℕ → ℕ → ℕ → ℕ → ℕ → Type 0
BlockSo v f list at n place count = ReachSo list at n (length (reach v f)) (reach_mask v f) × FenceSo list place count (length (fence v f)) (left v f)

-- where the number of the literals of a block's fence stands in a list: behind the block's name, the size of its reach and the n marks of that
abbrev pub fence_at : ℕ → ℕ → ℕ
fence_at at n = at + (4 + n)

-- where the block at a place ends: behind those literals
abbrev pub block_end : List ℕ → ℕ → ℕ → ℕ
block_end list at n = fence_at at n + 2 + 2 * number_at list (fence_at at n)

-- what the arrow block f counts, held against the block that a list has at a place, with n marks: it can't be gone through where the list ends inside that
-- one, and differs unless its name, its reach and its fence are those of the list
pub data BlockRun (v : View) (f : ℕ) (list : List ℕ) (at n : ℕ) (r : Run) : Type 0 where
  cut : length list < block_end list at n → r ≡ broken_run → BlockRun v f list at n r
  compared : block_end list at n ≤ length list
      → Compared (BlockSo v f list at n (fence_at at n) (number_at list (fence_at at n)) × (number_at list at ≡ f)) (block_end list at n) r → BlockRun v f list at n r

-- from a run on, the arrow blocks of these names are counted one after another, each held against the block that a list has where the run so far ends; nothing
-- is counted where it ends nowhere and a block is left
pub data BlockRuns (v : View) (list : List ℕ) (n : ℕ) : List ℕ → Run → Option Run → Type 0 where
  none_left : {r : Run} → BlockRuns v list n [] r (Some r)
  cut_before : {f : ℕ} {fs : List ℕ} {r : Run} → r.end ≡ None → BlockRuns v list n (f ∷ fs) r None
  next : {f : ℕ} {fs : List ℕ} {r : Run} {found : Option Run} (place : ℕ) (part : Run) → r.end ≡ Some place → BlockRun v f list place n part
      → BlockRuns v list n fs (then_of r part) found → BlockRuns v list n (f ∷ fs) r found

-- with one difference more where their number is not the one that a list has at a place
abbrev pub with_number : List ℕ → ℕ → Option Run → Run
with_number list start None = broken_run
with_number list start (Some r) = also_of r (not (eqb (number_at list start) r.parts))

-- what the arrow blocks of these names count, where a list has their number at a place and the blocks behind it
pub record BlocksRun (v : View) (list : List ℕ) (start n : ℕ) (fs : List ℕ) (r : Run) : Type 0 where
  pub found : Option Run
  pub runs : BlockRuns v list n fs (run_of false (start + 2)) found
  pub counted : r ≡ with_number list start found

-- of these names of blocks, those whose count of arrow cells is not 0
abbrev pub arrowed_of : List ℕ → List ℕ → List ℕ
arrowed_of arrowed fs = filter (λ f. not (eqb (get_or arrowed f 0) 0)) fs

-- of the first cells of all blocks
abbrev pub arrowed_names : Groups → List ℕ
arrowed_names blocks = arrowed_of blocks.arrowed (take blocks.count blocks.firsts)

-- the kinds and the owners are those of a list at a place, n each
pub record KindsSo (list : List ℕ) (at n : ℕ) (kinds owners : List ℕ) : Type 0 where
  pub kinds_so : differs kinds (byte_in list at n 0 0) 0 ≡ false
  pub owners_so : differs owners (number_in list (at + n) n 1024) 0 ≡ false

-- the names of groups, their counts of squares and their counts of arrow cells are those of a list at a place, n each
pub record GroupsSo (list : List ℕ) (at n : ℕ) (names squares arrowed : List ℕ) : Type 0 where
  pub names_so : differs names (number_in list at n 1024) 0 ≡ false
  pub squares_so : differs squares (number_in list (at + 2 * n) n 0) 0 ≡ false
  pub arrowed_so : differs arrowed (number_in list (at + 4 * n) n 0) 0 ≡ false

-- both are computed at least once, and the potential groups are those of a list at a place, n names and n of each count
pub record PotentialSo (labels kinds : ℕ) (g : Grid) (cells : List ℕ) (arrow : ℕ → Bool) (list : List ℕ) (at n : ℕ) : Type 0 where
  pub labelled : 0 < labels
  pub told : 0 < kinds
  pub groups_so : GroupsSo list at n (label_array g (potential cells)) (map (tally_of g (potential cells) (square cells)) (upto n)) (map (tally_of g (potential cells) arrow) (upto n))
