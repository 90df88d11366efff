-- What the functions that write literals promise each other.
-- Assumes nothing.
use Rattle.std.specs.Prelude.{ℕ, ◌+◌, ◌*◌, ◌≤◌, ◌≡◌, List, ◌++◌, map, length, drop, Option, Some, None}
use Rattle.std.proofs.Math.Option.{none, some}
use Rattle.grid.specs.Cells.{Literal, word}
use Rattle.literals.specs.Literals.{Found}
use Rattle.literals.specs.Buffer.{buffer_by}

-- the literals stand in the first places of a lent buffer, as many as count says, and nothing behind them changed
pub record Wrote (lits : List Literal) (before after : List ℕ) (count : ℕ) : Type 0 where
  pub many : count ≡ length lits
  pub whole : after ≡ map word lits ++ drop count before

-- how many literals were found, or none
unfoldable pub count_of : Found → Option ℕ
count_of none = None
count_of (some r) = Some (length r)

-- the answer and the buffer tell what was found
pub record FoundAs (f : Found) (before after : List ℕ) (r : Option ℕ) : Type 0 where
  pub answer : r ≡ count_of f
  pub buffer : after ≡ buffer_by 0 f before

-- a grid of at most 32 by 32, and a buffer that is long enough for a reason
pub record Fit (h w : ℕ) (buffer : List ℕ) : Type 0 where
  pub tall : h ≤ 32
  pub wide : w ≤ 32
  pub room : 3 * (h * w) + 1 ≤ length buffer
