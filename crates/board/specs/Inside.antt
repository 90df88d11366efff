-- What the inner steps of a list of decisions promise each other.
-- Assumes nothing.
use Rattle.std.specs.Prelude.{ℕ, ◌/◌, ◌%◌, ◌≤◌, ◌<◌, true, ◌≡◌, ⊤, cond, List, get_or, set, replicate, Ok, Err}
use Rattle.std.specs.declared.result.Result.{Result}
use Rattle.grid.specs.Grid.{size}
use Rattle.record.specs.Problem.{grid_of}
use Rattle.record.specs.declared.Problem.{Problem}
use Rattle.record.specs.Problem.{Done, Refused}
use Rattle.refusal.specs.Refusals.{number_of}
use Rattle.refusal.specs.declared.Refusal.{Refusal}
use Rattle.refusal.specs.declared.Refusal.TheVariants.{Decision, Index, Decided}
use Rattle.form.specs.Form.{behind}
use Rattle.board.specs.declared.Board.{Board}
use Rattle.board.specs.Answers as answers
use Rattle.board.specs.Kept.{no_hints}
use Rattle.board.specs.Form.{well_formed}
use Rattle.board.specs.Decide.{with_decisions}

-- what adding the decision in a word does: it is refused and nothing changes, or it is put
pub data Placing (n count word : ℕ) (cells order : List ℕ) : Result ⊤ Refusal → List ℕ → List ℕ → Type 0 where
  bits : (word % 32768 / 1024 ≡ 0 → ⊥) → Placing n count word cells order (Err Decision) cells order
  off : word % 32768 / 1024 ≡ 0 → n ≤ word % 1024 → Placing n count word cells order (Err Index) cells order
  twice : word % 32768 / 1024 ≡ 0 → word % 1024 < n → (get_or cells (word % 1024) 0 ≡ 2 → ⊥) → Placing n count word cells order (Err Decided) cells order
  put : word % 32768 / 1024 ≡ 0 → word % 1024 < n → get_or cells (word % 1024) 0 ≡ 2 → Placing n count word cells order (Ok tt) (set cells (word % 1024) (word / 32768)) (set order count (word % 1024))

-- a list of decisions is put on the board b, all of it or as far as the one that is refused: what was made of it stands in the arrays, with the number n of
-- decisions, and the answer is the refusal or none
pub data Stands (b : Board) (cells order : List ℕ) (n : ℕ) : answers.Decided → Result ⊤ Refusal → Type 0 where
  whole : Stands b cells order n (record { answer = Done; board = with_decisions b cells order n }) (Ok tt)
  part : {r : Refusal} → Stands b cells order n (record { answer = Refused (number_of r); board = with_decisions b cells order n }) (Err r)

-- the board of a problem in an edition with these sizes, nothing decided and no hint taken
abbrev pub fresh_of : Problem → ℕ → List ℕ → List ℕ → Board
fresh_of q e low high = record { problem = q; edition = e; cells = replicate 1024 2; order = replicate 1024 0; decided = 0; hints = no_hints; lowest = low; highest = high }

-- the arrays are those of a well-formed board of n cells
pub record Held (n decided : ℕ) (cells order : List ℕ) : Type 0 where
  pub board : Board
  pub area : size (grid_of board.problem) ≡ n
  pub well : well_formed (with_decisions board cells order decided) ≡ true

-- how many of n cells are lent with their sizes: none where no cell has a lowest size
unfoldable pub lent_sizes : List ℕ → ℕ → ℕ
lent_sizes lows n = cond (behind 0 0 lows) 0 n
