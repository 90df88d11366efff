-- The steps of the call for the first reason: what it finds, and its refusals in their order.
-- Assumes nothing.
use Prim.Native.Nat.{ℕ, ◌+◌, ◌*◌, ◌≤◌, ◌<◌}
use native.Mathlib.Omega.{arith}
use mathlib.Core.Path.{◌≡◌, refl, sym, ap, ◌∙◌}
use mathlib.Core.List.{List, []}
use lib.ListN.{length, take}
use Rattle.grid.specs.Grid.{Grid, size}
use Rattle.grid.specs.Cells.{Literal}
use Rattle.record.specs.Record.{Outcome, ok, refused, Puzzle, read_record, ◌>>=◌}
use Rattle.record.specs.Leaf.{Leaf, in_edition}
use Rattle.record.specs.Problem.{Done}
use Rattle.record.proofs.RecordLaws.{record_Valid}
use Rattle.record.proofs.LeafLaws.{ValidLeaf}
use Rattle.board.specs.Board.{enough}
use Rattle.board.specs.Kept.{no_hints, board_of}
use Rattle.board.specs.Decide.{refused_with, decide_all_of}
use Rattle.board.specs.declared.Board.{Board}
use Rattle.board.proofs.HintLaws.{no_hints_lem}
use Rattle.board.proofs.Standing.{none}
use Rattle.reasons.specs.Reasons.{find_reason, find_on}
use Rattle.reasons.specs.Find.{answer_on}
use Rattle.reasons.proofs.Demand3.{long_answer}
use Rattle.calls.specs.Call.{decide_bytes, leaf_from}
use Rattle.calls.proofs.Opened.{from_valid}
use Rattle.calls.proofs.Steps.{decided_by, bytes_Standing, first_leaf, fresh_well, all_decided, Made, call_short, call_long, call_refused, call_done, call_plain}
use Rattle.calls.specs.Found.{host_finds, host_finds_with}
use Rattle.calls.specs.Inside.{leaf_finds}

-- the call is that in edition 1 without sizes
pub finds_plain : (s decisions : List ℕ) (n : ℕ) → host_finds s decisions n ≡ host_finds_with s 1 [] decisions n
unfolding host_finds host_finds_with
finds_plain s decisions n = call_plain (λ g. 2 * enough g) find_on s decisions n

-- what the output needs
abbrev need : Grid → ℕ
need g = 2 * enough g

module _ (l : Leaf) (decisions : List ℕ) (n : ℕ) where
  -- an output that is too short
  pub output_short : n < 2 * (3 * size l.puzzle.grid + 1) → leaf_finds decisions n l ≡ refused 11
  unfolding enough
  output_short k = call_short need find_on l decisions n k

  module _ (k : 2 * (3 * size l.puzzle.grid + 1) ≤ n) where
    -- a decision is refused
    pub decisions_refused : {m : ℕ} → decide_bytes l.puzzle.grid [] decisions ≡ refused m → leaf_finds decisions n l ≡ refused m
    unfolding enough
    decisions_refused f = call_refused need find_on l decisions n k f

    -- all are accepted: the first reason by the states that are left
    pub decisions_done : {cells : List ℕ} → Made l decisions cells → leaf_finds decisions n l ≡ ok (find_reason l (take (size l.puzzle.grid) cells))
    unfolding enough find_on
    decisions_done m = call_done need find_on l decisions n k m.accepted ∙ ap (λ (states : List ℕ). ok (find_reason l states)) (sym m.left)

-- the call finds as player 0: with its decisions accepted it says what find answers that player on the board that is left
module _ (l : Leaf) (v : ValidLeaf l) {b : Board} (fresh : b ≡ board_of l [] no_hints) (decisions : List ℕ) (n : ℕ) (buffer : List ℕ) (k : enough l.puzzle.grid ≤ length buffer) (h : 2 * enough l.puzzle.grid ≤ n) where
  leaf_player_0 : (decide_all_of b decisions).answer ≡ Done → leaf_finds decisions n l ≡ answer_on (decide_all_of b decisions).board 0 buffer
  unfolding decide_all_of decided_by refused_with
  leaf_player_0 done = rw (fresh_well l v fresh, all_decided l v fresh decisions) (go (decide_bytes l.puzzle.grid [] decisions) refl (rw (fresh_well l v fresh, all_decided l v fresh decisions) at done))
    where
      go : (r : Outcome (List Literal)) → decide_bytes l.puzzle.grid [] decisions ≡ r → (decided_by b l r).answer ≡ Done → leaf_finds decisions n l ≡ answer_on (decided_by b l r).board 0 buffer
      go (refused m) q e = let z : ◌≡◌ {A = ℕ} 0 1 = cc in absurd (omega arith)
      go (ok ds) q e =
          call_long need find_on l decisions n h ∙ unfold ◌>>=◌ in
          rw q (sym (long_answer l v no_hints_lem (bytes_Standing l.puzzle.grid decisions none q) 0 (omega arith) buffer k))

module _ (s : List ℕ) {b : Board} (decisions : List ℕ) (n : ℕ) (buffer : List ℕ) where
  -- on the board of a record in edition 1 without sizes
  pub as_player_0 : {p : Puzzle} → read_record s ≡ ok p → b ≡ board_of (in_edition 1 p) [] no_hints → enough p.grid ≤ length buffer → 2 * enough p.grid ≤ n
      → (decide_all_of b decisions).answer ≡ Done → host_finds s decisions n ≡ answer_on (decide_all_of b decisions).board 0 buffer
  unfolding host_finds ◌>>=◌
  as_player_0 {p} reads fresh k h done = rw reads (leaf_player_0 (in_edition 1 p) (first_leaf p (record_Valid s reads)) fresh decisions n buffer k h done)

  -- and on that of a leaf in an edition with sizes
  pub with_player_0 : (e : ℕ) (sizes : List ℕ) {l : Leaf} → leaf_from s e sizes ≡ ok l → b ≡ board_of l [] no_hints → enough l.puzzle.grid ≤ length buffer → 2 * enough l.puzzle.grid ≤ n
      → (decide_all_of b decisions).answer ≡ Done → host_finds_with s e sizes decisions n ≡ answer_on (decide_all_of b decisions).board 0 buffer
  unfolding host_finds_with ◌>>=◌
  with_player_0 e sizes {l} opens fresh k h done = rw opens (leaf_player_0 l (from_valid s e sizes opens) fresh decisions n buffer k h done)
