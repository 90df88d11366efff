-- What was found for reason 2, as the answer and the buffer tell it.
-- Assumes nothing.
use Prim.Native.Nat.{ℕ}
use mathlib.Core.Path.{◌≡◌, subst}
use mathlib.Core.List.{List}
use Rattle.grid.specs.Side.{sized}
use Rattle.kinds.specs.Inside.{puzzle_with}
use Rattle.literals.specs.Literals.{each}
use Rattle.literals.specs.Inside.{Wrote, FoundAs}
use Rattle.std.specs.Prelude.{Option, Some, None}
use Rattle.literals.proofs.Findings.{found_none, Wrote-found}
use Rattle.paths.specs.Paths.{way, reason2}
use Rattle.grid.specs.Cells.{square}
use Rattle.groups.specs.Groups.{Joined}
use Rattle.paths.specs.Ends.{found_way, EndsJoined, Crossing}

module _ (h w : ℕ) (arrows : List (List ℕ)) (cells : List ℕ) {ends : Option (ℕ × ℕ)} (c : Crossing (puzzle_with (sized h w) arrows) cells ends) where
  -- the ends of a path are squares of one block
  pub crossing_ends : {a b : ℕ} → ends ≡ Some (a, b) → Joined (sized h w) (square cells) b a
  unfolding EndsJoined
  crossing_ends e = subst (EndsJoined (sized h w) cells) e c.joined

  -- the path is the reason
  pub crossing_found : {a b k : ℕ} {before after : List ℕ} → ends ≡ Some (a, b) → Wrote (each 1 (way (sized h w) cells a b)) before after k
      → FoundAs (reason2 (puzzle_with (sized h w) arrows) cells) before after (Some k)
  unfolding found_way
  crossing_found e x = rw (c.reason, e) (Wrote-found x)

  -- without ends there is none
  pub crossing_none : (before : List ℕ) → ends ≡ None → FoundAs (reason2 (puzzle_with (sized h w) arrows) cells) before before None
  unfolding found_way
  crossing_none before e = rw (c.reason, e) (found_none before)
