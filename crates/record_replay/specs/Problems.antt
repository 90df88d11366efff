-- What a list says of a record: its refusal, and its problem.
-- Assumes nothing.
use Rattle.std.specs.Prelude.{ℕ, zero, suc, ◌+◌, ◌*◌, ◌≤◌, ◌<◌, Bool, cond, false, ◌≡◌, List, length, take, drop, get_or, eqb, Option, MatchOption}
use Rattle.std.specs.Bool.{MatchBool}
use Rattle.record.specs.Record.{Puzzle, ok, refused, read_record}
use Rattle.record.specs.Problem.{problem_of}
use Rattle.record.specs.declared.Problem.{Problem}
use Rattle.replay.specs.Comparisons.{DiffersUnless}
use Rattle.replay.specs.declared.Run.{Run}
use Rattle.replay.specs.Lists.{number_at, byte_in, number_in, differs}

-- nothing but zeros stands in a list from a place on
abbrev pub ZerosFrom : List ℕ → ℕ → Type 0
ZerosFrom l k = differs (drop k l) (λ _. 0) 0 ≡ false

-- an arrow of a list, its length and then its cells, stands in the line of cells from `end` on, and where it ends is the i-th end
pub record ArrowSo (list : List ℕ) (at : ℕ) (line ends : List ℕ) (end i : ℕ) : Type 0 where
  pub inside : at + 2 ≤ length list
  pub fits : end + number_at list at ≤ 1024
  pub cells : differs (take (number_at list at) (drop end line)) (number_in list (at + 2) (number_at list at) 0) 0 ≡ false
  pub ended : get_or ends i 0 ≡ end + number_at list at

-- so do n arrows, one after another, and behind them are zeros
unfoldable pub ArrowsSo : List ℕ → ℕ → ℕ → List ℕ → List ℕ → ℕ → ℕ → Type 0
ArrowsSo list at zero line ends end i = ZerosFrom line end × ZerosFrom ends i
ArrowsSo list at (suc n) line ends end i =
    ArrowSo list at line ends end i
    × ArrowsSo list (at + 2 + 2 * number_at list at) n line ends (end + number_at list at) (i + 1)

-- how many cells a list says at a place: the product of two bytes
abbrev pub area_at : List ℕ → ℕ → ℕ
area_at list at = get_or list at 0 * get_or list (at + 1) 0

-- how many arrows it says behind the codes of the cells
abbrev pub count_at : List ℕ → ℕ → ℕ
count_at list at = number_at list (at + 2 + area_at list at)

-- where so many arrows of a list end that begin at a place
unfoldable pub arrows_end : List ℕ → ℕ → ℕ → ℕ
arrows_end list at zero = at
arrows_end list at (suc n) = arrows_end list (at + 2 + 2 * number_at list at) n

-- where the problem ends that begins at a place
abbrev pub problem_end : List ℕ → ℕ → ℕ
problem_end list at = arrows_end list (at + 4 + area_at list at) (count_at list at)

-- what is said of where something ends: the place, and none where the list ends before it
abbrev pub EndSo : List ℕ → ℕ → Option ℕ → Type 0
EndSo list place end = MatchOption end (length list < place) (λ at. at ≡ place)

-- a problem is the one that a list has at a place
pub record ProblemSo (list : List ℕ) (at : ℕ) (p : Problem) : Type 0 where
  pub few : count_at list at ≤ 1024
  pub height_so : p.height ≡ get_or list at 0
  pub width_so : p.width ≡ get_or list (at + 1) 0
  pub count_so : p.count ≡ count_at list at
  pub cells_so : differs p.cells (byte_in list (at + 2) (area_at list at) 0 0) 0 ≡ false
  pub arrows_so : ArrowsSo list (at + 4 + area_at list at) (count_at list at) p.arrows p.ends 0 0

-- a record is refused with this number
abbrev pub RefusedSo : List ℕ → ℕ → Type 0
RefusedSo s refusal = read_record s ≡ refused refusal

-- a record is accepted, and its problem is the one that a list has at a place
pub record RecordSo (s list : List ℕ) (at : ℕ) : Type 0 where
  pub puzzle : Puzzle
  pub accepted : read_record s ≡ ok puzzle
  pub problem_so : ProblemSo list at (problem_of puzzle)

-- where the refusal stands of the entry at a place: behind the record, which its own length is before
abbrev pub refusal_at : List ℕ → ℕ → ℕ
refusal_at list at = at + 2 + number_at list at

-- what the entry at a place says: that its record has its refusal, or, where that is 0, its problem
abbrev pub SaidSo : List ℕ → ℕ → ℕ → Type 0
SaidSo list at refusal =
    MatchBool (eqb refusal 0) (RecordSo (take (number_at list at) (drop (at + 2) list)) list (refusal_at list at + 1))
    (RefusedSo (take (number_at list at) (drop (at + 2) list)) refusal)

-- where the entry at a place ends: behind its refusal, or, where that is 0, behind its problem
abbrev pub entry_end : List ℕ → ℕ → ℕ → ℕ
entry_end list at refusal = cond (eqb refusal 0) (problem_end list (refusal_at list at + 1)) (refusal_at list at + 1)

-- an entry that is compared as a whole: it differs unless what is said of it holds, and ends at a place, if the list goes on so far
pub record ComparedTo (P : Type 0) (list : List ℕ) (place : ℕ) (run : Run) : Type 0 where
  pub answer : Bool
  pub told : DiffersUnless answer P
  pub no_parts : run.parts ≡ 0
  pub counted : run.differ ≡ cond answer 1 0
  pub ended : EndSo list place run.end

-- what the entry at a place counts
abbrev pub EntrySo : List ℕ → ℕ → Option Run → Type 0
EntrySo list at run =
    let refusal = get_or list (refusal_at list at) 0 in
    MatchOption run (length list < refusal_at list at + 3) (ComparedTo (SaidSo list at refusal) list (entry_end list at refusal))
