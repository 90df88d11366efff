-- Laws of the count of a list with its next entry.
-- Assumes nothing.
use Prim.Native.Nat.{ℕ, ◌<◌}
use mathlib.Core.Path.{◌≡◌, subst, ap, ◌∙◌}
use Rattle.std.specs.Prelude.{Option, unwrap_or}
use Rattle.replay.specs.declared.Run.{Run}
use Rattle.replay.specs.declared.Tally.{Tally}
use Rattle.replay.specs.Tallies.{broken_run, with_of, Through, through_next}

-- one entry more, in the tally that it leads to
pub one_more : {counts : ℕ → Option Run → Type 0} {size : ℕ} {t u next : Tally} (r : Option Run) (run : Run) → t.at < size → counts t.at r → run ≡ unwrap_or r broken_run → next ≡ with_of t run size → Through counts size next u → Through counts size t u
one_more {counts} {size} {t} {u} r run h c e f w =
    through_next r h c (subst (λ (v : Tally). Through counts size v u) (f ∙ ap (λ (x : Run). with_of t x size) e) w)
