-- What a list says of find, and what find leaves of a fresh buffer.
-- Assumes nothing.
use Rattle.std.specs.Prelude.{ℕ, zero, suc, false, ◌≡◌, List, ◌++◌, take, drop, replicate, Option, Some, None}
use Rattle.refusal.specs.Refusals.{ok, refused}
use Rattle.board.specs.declared.Board.{Board}
use Rattle.replay.specs.Lists.{differs}
use Rattle.reasons.specs.Find.{find_of, found_as, buffer_after}

-- how many literals there are, none for no reason
abbrev pub reason_of : ℕ → Option ℕ
reason_of zero = None
reason_of (suc n) = Some (suc n)

-- a fresh buffer
abbrev pub fresh : List ℕ
fresh = replicate 4096 65535

-- so many first places of it
abbrev pub lent : ℕ → List ℕ
lent n = take n fresh

-- a fresh buffer after a find of player q that was lent its first places
abbrev pub left : Board → ℕ → ℕ → List ℕ
left b q n = buffer_after b q (lent n) ++ drop n fresh

-- find of player q, lent so many first places of a fresh buffer, gives so many literals, none for no reason, and leaves in each place of the buffer what is said for it
abbrev pub FindsSo : Board → ℕ → ℕ → ℕ → (ℕ → ℕ) → Type 0
FindsSo b q size count said = (found_as (find_of b q (lent size)) ≡ ok (reason_of count)) × (differs (left b q size) said 0 ≡ false)

-- it is refused with this number, and writes nothing
abbrev pub RefusesSo : Board → ℕ → ℕ → ℕ → Type 0
RefusesSo b q size refusal = (found_as (find_of b q (lent size)) ≡ refused refusal) × (left b q size ≡ fresh)
