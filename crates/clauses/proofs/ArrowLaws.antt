-- The arrows of a problem, cut out of its arrays one after another.
-- Assumes nothing.
use Prim.Native.Nat.{ℕ, ◌+◌, ◌-◌, ◌<◌}
use native.Mathlib.Numerals.{add-one}
use mathlib.Core.Path.{◌≡◌, refl, sym, ap, ◌∙◌}
use mathlib.Core.List.{List, [], ◌∷◌, ◌++◌, append-nil}
use lib.ListN.{length, get_or, take, drop}
use lib.Seq.{take-suc}
use Rattle.std.proofs.lemmas.List.{take-map, drop-map}
use Rattle.grid.specs.Lists.{flat_map, last}
use Rattle.grid.proofs.AppendLaws.{last_taken, flat_map-append}
use Rattle.grid.specs.Cells.{word}
use Rattle.record.specs.Problem.{arrows_from}
use Rattle.groups.specs.Arrays.{lines_of}
use Rattle.clauses.specs.declared.Sheet.{Sheet}
use Rattle.clauses.specs.Clauses.{arrow_clauses, clauses_bytes}
use Rattle.clauses.specs.Inside.{Pushed}
use Rattle.clauses.proofs.PieceLaws.{squares_of}
use Rattle.clauses.proofs.PushLaws.{push_clauses, push_no_clause}

-- one end more
arrows_more : (line : List ℕ) (at : ℕ) (es : List ℕ) (e : ℕ) → arrows_from line at (es ++ (e ∷ [])) ≡ arrows_from line at es ++ (take (e - last at es) (drop (last at es) line) ∷ [])
unfolding arrows_from last
arrows_more line at [] e = refl
arrows_more line at (x ∷ es) e = ap (λ (l : List (List ℕ)). take (x - at) (drop at line) ∷ l) (arrows_more line x es e)

module _ (line ends : List ℕ) where
  -- no arrow yet
  pub push_no_arrow : (s : Sheet) → Pushed s s (clauses_bytes (flat_map arrow_clauses (lines_of line ends 0)))
  unfolding arrows_from
  push_no_arrow s = push_no_clause s

  module _ (k : ℕ) (h : k < length ends) where
    pub start_more : {to : ℕ} → to ≡ get_or ends k 0 → to ≡ last 0 (take (k + 1) ends)
    start_more e = e ∙ rw (add-one k) (sym (last_taken ends k h))

    -- the arrow that starts and ends there
    pub push_arrow : {from to : ℕ} {s t u : Sheet} → from ≡ last 0 (take k ends) → to ≡ get_or ends k 0 → Pushed s t (clauses_bytes (flat_map arrow_clauses (lines_of line ends k)))
        → Pushed t u (clauses_bytes (arrow_clauses (take (to - from) (drop from line)))) → Pushed s u (clauses_bytes (flat_map arrow_clauses (lines_of line ends (k + 1))))
    push_arrow {from} {to} e f p q =
        let a : List ℕ = take (to - from) (drop from line) in
        rw (add-one k, take-suc ends k 0 h, arrows_more line 0 (take k ends) (get_or ends k 0), ← e, ← f, flat_map-append arrow_clauses (lines_of line ends k) (a ∷ []), append-nil (arrow_clauses a))
        (push_clauses _ _ p q)

-- its literals in the array of literals
pub squares_there : (line literals : List ℕ) (from n : ℕ) → literals ≡ squares_of line → take n (drop from literals) ≡ squares_of (take n (drop from line))
squares_there line literals from n e = rw e (ap (take n) (drop-map (λ (j : ℕ). word (j, 1)) from line) ∙ take-map (λ (j : ℕ). word (j, 1)) n (drop from line))
