-- Refusals by their numbers in the README's table, the outcome of a step that may be refused, and what an exported call returns.
-- Assumes nothing.
use Rattle.std.specs.Prelude.{ℕ, ℤ, pos, neg_ℤ, Ok, Err}
use Rattle.std.specs.declared.result.Result.{Result}
use Rattle.refusal.specs.declared.Refusal.{Refusal}
use Rattle.refusal.specs.declared.Refusal.TheVariants.{RecordEnds, CellCode, OffGrid, UsedTwice, Filler, Board, Index, Value, Decided, NothingDecided, OutputShort, Decision, SheetShort, Turning, RecordOutputShort, Edition, Player, UnequalHeights, TooWide, Tail, Unfinished, Sizes, CertificateLength, NoSolutionStep, SolutionUnfinished, StepCut, NotALiteral, Hint, NotClosed, CertificateEnd}

-- the number of a refusal
abbrev pub number_of : Refusal → ℕ
number_of RecordEnds = 1
number_of CellCode = 2
number_of OffGrid = 3
number_of UsedTwice = 4
number_of Filler = 5
number_of Board = 6
number_of Index = 7
number_of Value = 8
number_of Decided = 9
number_of NothingDecided = 10
number_of OutputShort = 11
number_of Decision = 12
number_of SheetShort = 13
number_of Turning = 14
number_of RecordOutputShort = 15
number_of Edition = 16
number_of Player = 17
number_of UnequalHeights = 18
number_of TooWide = 19
number_of Tail = 20
number_of Unfinished = 21
number_of Sizes = 22
number_of CertificateLength = 23
number_of NoSolutionStep = 24
number_of SolutionUnfinished = 25
number_of StepCut = 26
number_of NotALiteral = 27
number_of Hint = 28
number_of NotClosed = 29
number_of CertificateEnd = 30

-- a value, or the number of a refusal
pub data Outcome (A : Type 0) : Type 0 where
  refused : ℕ → Outcome A
  ok : A → Outcome A

-- what the code answers, as an outcome
abbrev pub outcome_of : {A : Type 0} → Result A Refusal → Outcome A
outcome_of (Ok a) = ok a
outcome_of (Err r) = refused (number_of r)

-- what an exported call returns: a count, or the negated number of a refusal
abbrev pub returned_of : Result ℕ Refusal → ℤ
returned_of (Ok n) = pos n
returned_of (Err r) = neg_ℤ (pos (number_of r))
