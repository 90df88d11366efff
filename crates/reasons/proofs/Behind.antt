-- The literals behind the count are unchanged in the lent buffer.
-- Assumes nothing.
use Prim.Native.Nat.{ℕ, zero, suc}
use native.Mathlib.Omega.{arith}
use mathlib.Core.Path.{◌≡◌}
use mathlib.Core.List.{List, map}
use mathlib.Core.Option.{none, some}
use lib.ListN.{length, drop, length-map}
use lib.Seq.{drop_at}
use Rattle.grid.specs.Cells.{word}
use Rattle.board.specs.declared.Board.{Board}
use Rattle.literals.specs.Literals.{Found}
use Rattle.literals.specs.Buffer.{Reason, finding_by, buffer_by}
use Rattle.board.specs.Hints.{find_refusal}
use Rattle.reasons.specs.Find.{reason_on, find_of, buffer_after}

by_reason : (k : ℕ) (f : Found) (buffer : List ℕ) (n : ℕ) → finding_by k f ≡ Reason n → drop n (buffer_by k f buffer) ≡ drop n buffer
unfolding finding_by buffer_by
by_reason zero none buffer n e = let z : ◌≡◌ {A = ℕ} 0 1 = cc in absurd (omega arith)
by_reason zero (some r) buffer n e =
    let m : n ≡ length r = cc in
    rw m (drop_at (map word r) (drop (length r) buffer) (length r) (length-map r word))
by_reason (suc k) f buffer n e = let z : ◌≡◌ {A = ℕ} 0 1 = cc in absurd (omega arith)

-- a reason of n literals
pub behind_unchanged : (b : Board) (q : ℕ) (buffer : List ℕ) (n : ℕ) → find_of b q buffer ≡ Reason n → drop n (buffer_after b q buffer) ≡ drop n buffer
unfolding find_of buffer_after
behind_unchanged b q buffer n e = by_reason (find_refusal b q (length buffer)) (reason_on b) buffer n e
