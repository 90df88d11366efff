-- What a comparison answers, and what an entry that is compared counts.
-- Assumes nothing.
use Rattle.std.specs.Prelude.{ℕ, zero, suc, ◌<◌, Bool, true, false, ◌≡◌, List, length, Option, MatchOption, Result, Ok, Err, ⊤}
use Rattle.refusal.specs.Refusals.{Outcome, ok, refused}
use Rattle.replay.specs.Tallies.{run_of}
use Rattle.replay.specs.declared.Run.{Run}

-- an answer whether something differs from what is said of it: false where that holds, and true where it does not
abbrev pub DiffersUnless : Bool → Type 0 → Type 0
DiffersUnless r P = (r ≡ false → P) × (r ≡ true → P → ⊥)

-- what a list says of a call, as an outcome: a value, or the number of a refusal
abbrev pub outcome_said : {A : Type 0} → Result A ℕ → Outcome A
outcome_said (Ok a) = ok a
outcome_said (Err k) = refused k

-- what a byte says of a call: the number of its refusal, and 0 where it is not refused
abbrev pub said_by : ℕ → Result ⊤ ℕ
said_by zero = Ok tt
said_by (suc k) = Err (suc k)

-- an entry that is compared as a whole and ends at a place: it differs unless what is said of it holds
pub record Compared (P : Type 0) (place : ℕ) (run : Run) : Type 0 where
  pub answer : Bool
  pub told : DiffersUnless answer P
  pub counted : run ≡ run_of answer place

-- what such an entry of a list counts: none where the list ends before that place
abbrev pub Counts : List ℕ → ℕ → Type 0 → Option Run → Type 0
Counts list place P run = MatchOption run (length list < place) (Compared P place)
