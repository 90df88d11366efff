-- What a list says of a host call, and what the call leaves of a fresh array that its output is a part of.
-- Assumes nothing.
use Rattle.std.specs.Prelude.{ℕ, ◌+◌, false, ◌≡◌, List, ◌++◌, ℤ, take, drop, replicate}
use Rattle.calls.specs.Found.{host_finds, returned, output_after}
use Rattle.replay.specs.Lists.{differs}

-- the array before a call
unfoldable pub fresh : List ℕ
fresh = replicate 8192 170

-- the array after a call on a record and decisions whose output was so many places behind the first 64
unfoldable pub left : List ℕ → List ℕ → ℕ → List ℕ
left s decisions size = take 64 fresh ++ (output_after (host_finds s decisions size) (take size (drop 64 fresh)) ++ drop (64 + size) fresh)

-- the call returns the number that is expected, and leaves in each place of the array what is said for it
abbrev pub CallSo : List ℕ → List ℕ → ℕ → ℤ → (ℕ → ℕ) → Type 0
CallSo s decisions size expected said = (returned (host_finds s decisions size) ≡ expected) × (differs (left s decisions size) said 0 ≡ false)
