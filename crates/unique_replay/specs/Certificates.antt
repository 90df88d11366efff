-- What a list says of the check of a certificate.
-- Assumes nothing.
use Rattle.std.specs.Prelude.{ℕ, ◌+◌, cond, ◌≡◌, List, take, drop, get_or, eqb, Option, ℤ, pos, ◌-ℤ◌}
use Rattle.replay.specs.Comparisons.{Counts}
use Rattle.replay.specs.Lists.{number_at}
use Rattle.replay.specs.declared.Run.{Run}
use Rattle.unique.specs.Unique.{host_unique, unique_returned}

-- the number that a byte stands for: 1 for 1, and for any other byte 256 less than it, a refusal's number, negated
unfoldable pub expected : ℕ → ℤ
expected b = cond (eqb b 1) (pos 1) (pos b -ℤ pos 256)

-- the check of a certificate for a record in an edition with sizes returns the number that a byte stands for
abbrev pub CallSo : List ℕ → ℕ → List ℕ → List ℕ → ℕ → Type 0
CallSo s e sizes c b = unique_returned (host_unique s e sizes c) ≡ expected b

-- so many bytes of a list as the number at a place says, from behind that number on
abbrev pub counted_at : List ℕ → ℕ → List ℕ
counted_at list at = take (number_at list at) (drop (at + 2) list)

-- the place behind them
abbrev pub behind : List ℕ → ℕ → ℕ
behind list at = at + 2 + number_at list at

-- what an entry counts whose record, sizes, certificate and answer stand at these places: that the check returns the number that the answer stands for
abbrev pub CheckSo : List ℕ → ℕ → ℕ → ℕ → ℕ → Option Run → Type 0
CheckSo list at sizes certificate answer =
    Counts list (answer + 1) (CallSo (counted_at list at) (get_or list (behind list at) 0) (counted_at list sizes) (counted_at list certificate) (get_or list answer 0))

-- what the entry at a place counts
abbrev pub EntrySo : List ℕ → ℕ → Option Run → Type 0
EntrySo list at = CheckSo list at (behind list at + 1) (behind list (behind list at + 1)) (behind list (behind list (behind list at + 1)))
