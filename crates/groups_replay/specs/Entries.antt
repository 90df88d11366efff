-- What an entry of a list counts: its potential groups, its blocks, its kinds and its arrow blocks, held against those of the list.
-- Assumes nothing.
use Rattle.std.specs.Prelude.{ℕ, ◌+◌, ◌*◌, ◌≤◌, ◌<◌, Bool, not, ◌≡◌, List, [], map, length, take, drop, eqb, Option, Some, None}
use Rattle.grid.specs.Lists.{upto, filter}
use Rattle.grid.specs.Cells.{square}
use Rattle.refusal.specs.Refusals.{ok}
use Rattle.record.specs.Record.{Puzzle}
use Rattle.record.specs.Problem.{puzzle_of}
use Rattle.groups.specs.Groups.{labels, names}
use Rattle.groups.specs.Arrows.{on_arrow}
use Rattle.groups.specs.Arrays.{label_array, tally_of}
use Rattle.kinds.specs.Kinds.{view}
use Rattle.kinds.specs.Arrays.{kind_array, owner_array}
use Rattle.board.specs.declared.Board.{Board}
use Rattle.board.specs.Answers.{opened_as, decided_as}
use Rattle.board.specs.Kept.{open_of, cells_on}
use Rattle.board.specs.Decide.{area, decide_all_of}
use Rattle.replay.specs.Lists.{number_at}
use Rattle.replay.specs.Comparisons.{DiffersUnless}
use Rattle.replay.specs.Tallies.{also_of}
use Rattle.replay.specs.declared.Run.{Run}
use Rattle.groups_replay.specs.Blocks.{KindsSo, GroupsSo, PotentialSo, BlocksRun}
use Rattle.groups_replay.specs.declared.rounds.Rounds.{Rounds}

-- a run of which Q holds, with one difference more unless P holds
pub record Also (P : Type 0) (Q : Run → Type 0) (r : Run) : Type 0 where
  pub rest : Run
  pub rest_so : Q rest
  pub answer : Bool
  pub told : DiffersUnless answer P
  pub counted : r ≡ also_of rest answer

-- the names of the arrow blocks of a board, rising
abbrev pub arrow_names : Puzzle → List ℕ → List ℕ
arrow_names p cells = filter (λ f. not (eqb (tally_of p.grid (square cells) (on_arrow p.arrows) f) 0)) (names p.grid (square cells) (labels p.grid (square cells)))

-- what the kinds of a board of n cells count with the arrow blocks of these names, where a list has the kinds and the owners at a place and the blocks behind them
abbrev pub KindsRun : Puzzle → List ℕ → ℕ → List ℕ → List ℕ → ℕ → Run → Type 0
KindsRun p cells n fs list at = Also (KindsSo list at n (kind_array (view p cells)) (owner_array (view p cells))) (BlocksRun (view p cells) list (at + 3 * n) n fs)

-- what its blocks count with these, where the list has them before
abbrev pub ArrowsRun : Puzzle → List ℕ → ℕ → List ℕ → ℕ → Run → Type 0
ArrowsRun p cells n list at =
    Also
    (GroupsSo list at n (label_array p.grid (square cells)) (map (tally_of p.grid (square cells) (square cells)) (upto n)) (map (tally_of p.grid (square cells) (on_arrow p.arrows)) (upto n)))
    (KindsRun p cells n (arrow_names p cells) list (at + 6 * n))

-- what its potential groups count with these, where the list has them before, and all is computed so often
abbrev pub BoardRun : Rounds → Puzzle → List ℕ → ℕ → List ℕ → ℕ → Run → Type 0
BoardRun rounds p cells n list at =
    Also (PotentialSo rounds.labels rounds.kinds p.grid cells (on_arrow p.arrows) list at n) (λ r. 0 < rounds.labels → 0 < rounds.kinds → ArrowsRun p cells n list (at + 6 * n) r)

-- where the list ends at the earliest that has a board of n cells at a place: behind the number of its arrow blocks
abbrev pub board_end : ℕ → ℕ → ℕ
board_end n at = at + 15 * n + 2

-- what the board of a record with these decisions counts, where a list has its groups at a place: none where a refusal leaves no board, or the list ends
-- before the arrow blocks
pub data RecordRun (rounds : Rounds) (bytes decisions list : List ℕ) (at : ℕ) : Option Run → Type 0 where
  gone_through : {r : Run} (opened board : Board) → opened_as (open_of bytes 1 []) ≡ ok opened → decided_as (decide_all_of opened decisions) ≡ ok board
      → board_end (area board) at ≤ length list → BoardRun rounds (puzzle_of board.problem) (cells_on board) (area board) list at r → RecordRun rounds bytes decisions list at (Some r)
  left_out : ((opened board : Board) → opened_as (open_of bytes 1 []) ≡ ok opened → decided_as (decide_all_of opened decisions) ≡ ok board → length list < board_end (area board) at)
      → RecordRun rounds bytes decisions list at None

-- where the number of the decisions stands of the entry at a place: behind its record
abbrev pub decided_at : List ℕ → ℕ → ℕ
decided_at list at = at + 2 + number_at list at

-- where its groups begin: behind its decisions
abbrev pub groups_at : List ℕ → ℕ → ℕ
groups_at list at = decided_at list at + 2 + 2 * number_at list (decided_at list at)

-- what the entry at a place counts
abbrev pub EntrySo : Rounds → List ℕ → ℕ → Option Run → Type 0
EntrySo rounds list at =
    RecordRun rounds (take (number_at list at) (drop (at + 2) list)) (take (2 * number_at list (decided_at list at)) (drop (decided_at list at + 2) list)) list (groups_at list at)
