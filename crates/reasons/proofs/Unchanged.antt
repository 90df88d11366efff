-- What stands afterwards: find leaves the lent buffer as it was where it is refused, and where no reason applies; a refused find leaves the board as it was.
-- Assumes nothing.
use Prim.Native.Nat.{ℕ, zero, suc, ◌≤◌}
use native.Mathlib.Omega.{arith}
use mathlib.Core.Path.{◌≡◌, refl}
use mathlib.Core.List.{List}
use mathlib.Core.Option.{none, some}
use lib.ListN.{length}
use borrow.Author.Tests.{le-leb}
use Rattle.board.specs.Form.{Counts}
use Rattle.board.specs.Kept.{sizes_on}
use Rattle.board.specs.declared.Board.{Board}
use Rattle.literals.specs.Literals.{Found}
use Rattle.literals.specs.Buffer.{Nothing, Refused}
use Rattle.board.specs.Hints.{with_hints, find_refusal, after_find, hinted_by}
use Rattle.board.proofs.CountLaws.{any_Counts}
use Rattle.reasons.specs.Find.{cells_on, leaf_on, reason_on, find_of, buffer_after}
use Rattle.literals.specs.Buffer.{finding_by, buffer_by}

by_refusal : (k : ℕ) (f : Found) (buffer : List ℕ) (r : ℕ) → finding_by k f ≡ Refused r → buffer_by k f buffer ≡ buffer
unfolding finding_by buffer_by
by_refusal zero none buffer r e = refl
by_refusal zero (some l) buffer r e = let z : ◌≡◌ {A = ℕ} 0 1 = cc in absurd (omega arith)
by_refusal (suc k) f buffer r e = refl

by_none : (k : ℕ) (f : Found) (buffer : List ℕ) → finding_by k f ≡ Nothing → buffer_by k f buffer ≡ buffer
unfolding finding_by buffer_by
by_none zero none buffer e = refl
by_none zero (some l) buffer e = let z : ◌≡◌ {A = ℕ} 0 1 = cc in absurd (omega arith)
by_none (suc k) f buffer e = refl

-- 6, 17 or 11
pub find_unchanged : (b : Board) (q : ℕ) (buffer : List ℕ) (k : ℕ) → find_of b q buffer ≡ Refused k → buffer_after b q buffer ≡ buffer
unfolding find_of buffer_after
find_unchanged b q buffer k e = by_refusal (find_refusal b q (length buffer)) (reason_on b) buffer k e

board_by_refusal : (k : ℕ) (f : Found) (b : Board) (q r : ℕ) → finding_by k f ≡ Refused r → hinted_by k b q ≡ b
unfolding finding_by hinted_by
board_by_refusal zero none b q r e = let z : ◌≡◌ {A = ℕ} 0 1 = cc in absurd (omega arith)
board_by_refusal zero (some l) b q r e = let z : ◌≡◌ {A = ℕ} 0 1 = cc in absurd (omega arith)
board_by_refusal (suc k) f b q r e = refl

-- and the board: no count rises
pub board_unchanged : (b : Board) (q : ℕ) (buffer : List ℕ) (k : ℕ) → find_of b q buffer ≡ Refused k → after_find b q (length buffer) ≡ b
unfolding find_of after_find
board_unchanged b q buffer k e = board_by_refusal (find_refusal b q (length buffer)) (reason_on b) b q k e

-- none
pub none_unchanged : (b : Board) (q : ℕ) (buffer : List ℕ) → find_of b q buffer ≡ Nothing → buffer_after b q buffer ≡ buffer
unfolding find_of buffer_after
none_unchanged b q buffer e = by_none (find_refusal b q (length buffer)) (reason_on b) buffer e

-- what find answers and writes doesn't depend on the counts
pub Counts-aside : (b : Board) (ns : List ℕ) → Counts b.hints → Counts ns → (q : ℕ) (buffer : List ℕ)
    → (find_of (with_hints b ns) q buffer ≡ find_of b q buffer) × (buffer_after (with_hints b ns) q buffer ≡ buffer_after b q buffer)
unfolding find_of buffer_after find_refusal reason_on leaf_on sizes_on cells_on
Counts-aside b ns h k q buffer = rw (any_Counts b ns h k) (unfold with_hints in (refl, refl))

-- nor on the player
pub player_aside : (b : Board) (q r : ℕ) → q ≤ 3 → r ≤ 3 → (buffer : List ℕ) → (find_of b q buffer ≡ find_of b r buffer) × (buffer_after b q buffer ≡ buffer_after b r buffer)
unfolding find_of buffer_after find_refusal
player_aside b q r l m buffer = rw (le-leb q 3 l, le-leb r 3 m) (refl, refl)
