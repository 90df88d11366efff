-- What is counted of a list and of its entries.
-- Assumes nothing.
use Rattle.std.specs.Prelude.{ℕ, ◌+◌, ◌-◌, ◌≤◌, ◌<◌, Bool, true, false, cond, List, Option, Some, None, unwrap_or, length, ltb, leb}
use Rattle.replay.specs.Lists.{data_start}
use Rattle.replay.specs.declared.Run.{Run}
use Rattle.replay.specs.declared.Tally.{Tally}

-- the largest number that the machine holds
abbrev pub most : ℕ
most = 18446744073709551615

-- a sum that stays at the largest number
abbrev pub sum_of : ℕ → ℕ → ℕ
sum_of a b = cond (ltb (most - a) b) most (a + b)

-- an entry that can't be gone through
abbrev pub broken_run : Run
broken_run = record { parts = 0; differ = 1; end = None }

-- an entry that is compared as a whole
abbrev pub run_of : Bool → ℕ → Run
run_of other place = record { parts = 0; differ = cond other 1 0; end = Some place }

-- with the next part of the entry
abbrev pub then_of : Run → Run → Run
then_of r next = record { parts = sum_of r.parts 1; differ = sum_of r.differ next.differ; end = next.end }

-- with one difference more
abbrev pub also_of : Run → Bool → Run
also_of r other = record { parts = r.parts; differ = sum_of r.differ (cond other 1 0); end = r.end }

-- nothing counted
abbrev pub empty_tally : ℕ → Bool → Tally
empty_tally place sound = record { entries = 0; parts = 0; differ = 0; at = place; whole = sound }

-- of a list of this length whose data begins at a place, with so many bytes of it before the entries: damaged where there is no such place, or the list ends inside those bytes
abbrev pub tally_from : ℕ → ℕ → Option ℕ → Tally
tally_from size bytes None = empty_tally size false
tally_from size bytes (Some start) = cond (ltb (size - start) bytes) (empty_tally size false) (empty_tally (start + bytes) true)

-- of a list with so many bytes of data before its entries
abbrev pub tally_of : List ℕ → ℕ → Tally
tally_of l bytes = tally_from (length l) bytes (data_start l)

-- with what an entry counted, the next one at a place
abbrev pub counted : Tally → Run → ℕ → Bool → Tally
counted t r place sound = record { entries = sum_of t.entries 1; parts = sum_of t.parts r.parts; differ = sum_of t.differ r.differ; at = place; whole = sound }

-- with an entry that ends at a place in a list of this size: damaged where it has no end, or ends at its start or before it, or behind the list
abbrev pub with_end : Tally → Run → ℕ → Option ℕ → Tally
with_end t r size None = counted t r size false
with_end t r size (Some place) = cond (leb place t.at) (counted t r size false) (cond (ltb size place) (counted t r size false) (counted t r place t.whole))

-- with the entry at its place in a list of this size
abbrev pub with_of : Tally → Run → ℕ → Tally
with_of t r size = with_end t r size r.end

-- from a tally on, the entries of a list of this size are counted one after another until none is left, each by what the entry at its place may count
pub data Through (counts : ℕ → Option Run → Type 0) (size : ℕ) : Tally → Tally → Type 0 where
  through_all : {t : Tally} → size ≤ t.at → Through counts size t t
  through_next : {t u : Tally} (r : Option Run) → t.at < size → counts t.at r → Through counts size (with_of t (unwrap_or r broken_run) size) u → Through counts size t u
