-- Arrows one after another in a line: where they end, and what is cut out.
-- Assumes nothing.
use Prim.Native.Nat.{ℕ, zero, suc, ◌+◌, ◌-◌, ◌≤◌, ◌<◌}
use native.Mathlib.Omega.{arith}
use mathlib.Core.Path.{◌≡◌, sym, ap}
use mathlib.Core.List.{List}
use lib.ListN.{length, get_or, take, drop, length-drop}
use Rattle.std.proofs.lemmas.List.{length-take, get_or-take, get_or-drop}
use Rattle.grid.specs.Lists.{last}
use Rattle.grid.specs.Side.{sized}
use Rattle.grid.proofs.AppendLaws.{last_none, last_taken}
use Rattle.record.specs.Lines.{start_at, Lines}
use Rattle.record.proofs.LinesLaws.{start_next}
use Rattle.writer.specs.Wrote.{IsArrow}

-- the arrow behind the first k starts where the last of these ends
pub start_last : (ends : List ℕ) (k : ℕ) → k ≤ length ends → start_at ends k ≡ last 0 (take k ends)
unfolding start_at
start_last ends zero h = sym (last_none ends)
start_last ends (suc k) h = sym (last_taken ends k (omega arith))

-- what is cut out of the line from one place to another is an arrow, and ends where the arrows end or before
pub record Cut (h w : ℕ) (line : List ℕ) (from to end : ℕ) : Type 0 where
  pub rise : from < to
  pub below : to ≤ end
  pub long : length (take (to - from) (drop from line)) ≡ to - from
  pub arrow : IsArrow (sized h w) (take (to - from) (drop from line))

module _ {h w : ℕ} {line ends : List ℕ} {count : ℕ} (L : Lines h w line ends count) where
  -- later arrows start later
  starts_rise : (d k : ℕ) → k + d ≤ count → start_at ends k ≤ start_at ends (k + d)
  starts_rise zero k l = let e : k + 0 ≡ k = omega arith in rw e (omega arith)
  starts_rise (suc d) k l =
      let e : k + suc d ≡ k + d + 1 = omega arith in
      omega (arith, starts_rise d k (omega arith), L.rising (k + d) (omega arith), start_next ends (k + d), ap (start_at ends) e)

  end_below : (k : ℕ) → k < count → get_or ends k 0 ≤ start_at ends count
  end_below k l =
      let e : k + 1 + (count - (k + 1)) ≡ count = omega arith in
      omega (arith, starts_rise (count - (k + 1)) (k + 1) (omega arith), start_next ends k, ap (start_at ends) e)

  pub cut : (k from to : ℕ) → k < count → from ≡ start_at ends k → to ≡ get_or ends k 0 → 1024 ≤ length line → Cut h w line from to (start_at ends count)
  cut k from to l p q m =
      let rise : from < to = omega (arith, L.rising k l) in
      let long : length (take (to - from) (drop from line)) ≡ to - from = omega (arith, length-take (to - from) (drop from line), length-drop from line, L.room k l) in
      record {
        rise = rise;
        below = omega (arith, end_below k l);
        long = long;
        arrow = record {
          some = omega arith;
          cells = λ j b. rw (get_or-take (to - from) (drop from line) j 0 (omega arith), get_or-drop from line j 0) (L.cells k l (from + j) (omega arith));
        };
      }
