-- What the functions of the search promise each other.
-- Assumes nothing.
use Rattle.std.specs.Prelude.{ℕ, suc, ◌-◌, ◌≤◌, ◌<◌, ◌≡◌, Bool, true, false, cond, List, ◌++◌, eqb, leb, length, get_or, take, Option, Some, None}
use Rattle.std.proofs.Math.Option.{none}
use Rattle.record.specs.Leaf.{Leaf}
use Rattle.reasons.specs.Reasons.{find_reason}
use Rattle.certain.specs.Tree.{lowest, Reached, counted}
use Rattle.certain.specs.Facts.{facts_in}

-- 1,024 states
pub record States (cells : List ℕ) : Type 0 where
  pub long : length cells ≡ 1024
  pub three : (i : ℕ) → get_or cells i 0 ≤ 2

-- a cell, or n where there is none
abbrev pub lowest_or : ℕ → Option ℕ → ℕ
lowest_or n None = n
lowest_or n (Some i) = i

-- what is known of a cell, where one more board has the value v there
unfoldable pub joined_of : ℕ → ℕ → ℕ
joined_of known v = cond (eqb known 3) v (cond (eqb known v) known 2)

-- one more board is joined to what is known of the first n cells; nothing else changes
pub record Noted (n : ℕ) (cells before after : List ℕ) : Type 0 where
  pub long : length after ≡ 1024
  pub each : (i : ℕ) → i < n → get_or after i 0 ≡ joined_of (get_or before i 0) (get_or cells i 0)
  pub behind : (i : ℕ) → n ≤ i → get_or after i 0 ≡ get_or before i 0

-- what is met beyond a board of n cells with no reason: its lowest undecided cell; or none, since it is full, and it is noted where the test passes
pub data Beyond (n : ℕ) (cells : List ℕ) (test : Bool) (before after : List ℕ) : Option ℕ → Type 0 where
  undecided : {i : ℕ} → i ≡ lowest (take n cells) → (i ≡ n → ⊥) → after ≡ before → Beyond n cells test before after (Some i)
  noted : lowest (take n cells) ≡ n → test ≡ true → Noted n cells before after → Beyond n cells test before after None
  passed : lowest (take n cells) ≡ n → test ≡ false → after ≡ before → Beyond n cells test before after None

-- where the facts were those of some boards, they are those of these boards too
abbrev pub Gathers : ℕ → List (List ℕ) → List ℕ → List ℕ → Type 0
Gathers n boards before after = (bs : List (List ℕ)) → before ≡ facts_in n bs → after ≡ facts_in n (bs ++ boards)

-- what one step meets on a board of n cells: none where there is a reason, or where the board is full, which is gathered if it counts; or the lowest undecided cell
pub data Meets (l : Leaf) (n : ℕ) (cells before after : List ℕ) : Option ℕ → Type 0 where
  reason : (find_reason l (take n cells) ≡ none → ⊥) → after ≡ before → Meets l n cells before after None
  full : find_reason l (take n cells) ≡ none → lowest (take n cells) ≡ n → length after ≡ 1024 → Gathers n (counted l (take n cells)).boards before after → Meets l n cells before after None
  undecided : {i : ℕ} → find_reason l (take n cells) ≡ none → i ≡ lowest (take n cells) → (i ≡ n → ⊥) → after ≡ before → Meets l n cells before after (Some i)

-- what is left, as `left_after` counts
abbrev pub left_number : Option ℕ → ℕ
left_number None = 0
left_number (Some k) = suc k

-- what is left of `budget` after `steps`: 0 where they are more, else one more than what is left
unfoldable pub left_after : ℕ → ℕ → ℕ
left_after steps budget = cond (leb steps budget) (suc (budget - steps)) 0

-- the search r was made: what is left of the budget, the cells as they were, and, unless the budget is exhausted, its boards are gathered
pub record Searched (n budget : ℕ) (r : Reached) (left : ℕ) (cells cells' before after : List ℕ) : Type 0 where
  pub same : cells' ≡ cells
  pub long : length after ≡ 1024
  pub left_is : left ≡ left_after r.steps budget
  pub gathers : r.steps ≤ budget → Gathers n r.boards before after
