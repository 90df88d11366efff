-- What the two readers answer: an outcome of File as the code's value. And what an exported call answers before it returns.
-- Assumes nothing.
use Rattle.std.specs.Prelude.{ℕ, ◌≡◌, ◌<◌, ◌^◌, List, length}
use Rattle.std.specs.Result.{ForOk}
use Rattle.std.specs.declared.result.Result.{Result}
use Rattle.grid.specs.Lists.{array_of}
use Rattle.refusal.specs.declared.Refusal.{Refusal}
use Rattle.refusal.specs.Refusals.{returned_of}
use Rattle.fields.specs.Fields.{Outcome, ok, ◌>>=◌}
use Rattle.exported.specs.Written.{output_with}
use Rattle.file.specs.File.{Graded, Solved}
use Rattle.file.specs.Call.{Given, given_length, given_bytes}
use Rattle.file.specs.declared.Player.{Player}
use Rattle.file.specs.declared.Setter.{Setter}

-- to the player: the record's length in bytes and the grade
abbrev pub graded_as : Graded → Player
graded_as f = record { length = f.head.bytes; grade = f.grade }

unfoldable pub player_of : Outcome Graded → Outcome Player
player_of o = o >>= λ f. ok (graded_as f)

-- to the setter: the same, how many cells the solution has, and the cells at the front of an array of zeros
abbrev pub solved_as : Solved → Setter
solved_as f = record { player = graded_as f.graded; count = length f.solution; cells = array_of 0 f.solution }

unfoldable pub setter_of : Outcome Solved → Outcome Setter
setter_of o = o >>= λ f. ok (solved_as f)

-- a call's answer: the record's length, which is small enough to be returned, or a refusal; and what the output holds then
pub record Gives (o : Outcome Given) (answer : Result ℕ Refusal) (old new : List ℕ) : Type 0 where
  pub returned : returned_of answer ≡ given_length o
  pub few : ForOk answer (λ n. n < 2 ^ 31)
  pub output : new ≡ output_with (given_bytes o) old
