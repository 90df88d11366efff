-- What one step meets, on the arrays of an accepted record and the states of its cells.
-- Assumes nothing.
use Prim.Native.Nat.{ℕ, ◌*◌, ◌≤◌, ◌<◌}
use native.Mathlib.Omega.{arith}
use native.Mathlib.Decide.{dec_lt}
use mathlib.Core.Path.{◌≡◌, refl, sym, ap, ◌∙◌}
use mathlib.Core.Bool.{Bool, true, false, cond, ◌&&◌}
use mathlib.Core.List.{List, [], ◌∷◌, append-nil}
use mathlib.Core.Option.{none, some}
use lib.ListN.{length, get_or, set, take, length-set, get_or-eq_default}
use lib.Seq.{get_or-take, length-take-le}
use Rattle.grid.specs.Lists.{all, how_many}
use Rattle.grid.specs.Grid.{size}
use Rattle.grid.specs.Cells.{ValidCells}
use Rattle.record.specs.Leaf.{Range, Leaf, leaf_with}
use Rattle.record.specs.Sizes.{GoodSizes}
use Rattle.record.specs.Problem.{puzzle_of, grid_of}
use Rattle.record.specs.declared.Problem.{Problem}
use Rattle.form.proofs.ProblemForm.{Formed}
use Rattle.groups.specs.Arrays.{lines_of}
use Rattle.literals.specs.Literals.{Found}
use Rattle.literals.specs.Inside.{count_of, FoundAs}
use Rattle.std.specs.Prelude.{Option, Some, None}
use Rattle.literals.proofs.Findings.{nothing_found}
use Rattle.reasons.specs.Reasons.{find_reason}
use Rattle.finished.specs.Finished.{keeps_all, two_squares, finished_test}
use Rattle.finished.proofs.VerdictLaws.{few, fails_before, no_reason}
use Rattle.certain.specs.Tree.{lowest, counted}
use Rattle.certain.specs.Facts.{facts_in}
use Rattle.certain.specs.Inside.{States, Gathers, Beyond, undecided, noted, passed, Meets, reason, full, undecided as meets_undecided}
use Rattle.certain.proofs.LowestLaws.{Lowest, found, full as is_full, Lowest-view, none_left, low_set}
use Rattle.certain.proofs.FactLaws.{Noted-more}

-- a store of a state
pub States-set : {cells : List ℕ} (i v : ℕ) → States cells → v ≤ 2 → States (set cells i v)
States-set {cells} i v s low = record { long = length-set cells i v ∙ s.long; three = low_set cells i v s.three low }

-- a board is full where no cell is undecided
pub none_undecided : (n : ℕ) (cells : List ℕ) → length cells ≡ n → lowest cells ≡ n → how_many 2 cells ≡ 0
none_undecided n cells long e = go (Lowest-view cells)
  where
    go : Lowest cells → how_many 2 cells ≡ 0
    go (found a b k) = absurd (omega arith)
    go (is_full a k) = k

-- what was found with a reason is not none
some_found : (f : Found) {b a : List ℕ} {k : ℕ} → FoundAs f b a (Some k) → f ≡ none → ⊥
unfolding count_of
some_found none x e = let z : ◌≡◌ {A = ℕ} 0 1 = cc x.answer in omega arith
some_found (some r) x e = let z : ◌≡◌ {A = ℕ} 0 1 = cc in omega arith

-- no board is gathered
pub Gathers-none : (n : ℕ) {before after : List ℕ} → after ≡ before → Gathers n [] before after
Gathers-none n e bs z = e ∙ z ∙ ap (facts_in n) (sym (append-nil bs))

module _ (q : Problem) (f : Formed q) (edition : ℕ) (sizes : List Range) {states : List ℕ} (s : States states) where
  -- how many cells
  abbrev n : ℕ
  n = q.height * q.width

  -- what the rules read
  abbrev leaf : Leaf
  leaf = leaf_with edition sizes (puzzle_of q)

  -- the states of the cells of the grid
  abbrev cells : List ℕ
  cells = take n states

  pub cells_long : length cells ≡ n
  cells_long = length-take-le n states (omega (arith, few q f, s.long))

  pub cells_valid : ValidCells leaf.puzzle.grid cells
  unfolding puzzle_of grid_of size
  cells_valid = record { long = cells_long; three = λ i. go i (dec_lt i n) }
    where
      go : (i : ℕ) → Dec (i < n) → get_or cells i 0 ≤ 2
      go i (yes l) = rw (get_or-take n states i 0 l) (s.three i)
      go i (no l) = rw (get_or-eq_default cells 0 {n = i} (omega (arith, cells_long))) (omega arith)

  -- back on a reason
  pub Meets-reason : {b a facts : List ℕ} {k : ℕ} → FoundAs (find_reason leaf cells) b a (Some k) → Meets leaf n states facts facts None
  Meets-reason x = reason (some_found (find_reason leaf cells) x) refl

  -- no reason applies
  module _ (good : GoodSizes (puzzle_of q) sizes) {b a : List ℕ} (x : FoundAs (find_reason leaf cells) b a None) where
    quiet : find_reason leaf cells ≡ none
    quiet = (nothing_found (find_reason leaf cells) x).0

    -- all that is asked of a finished board but the block rules, by the arrays
    abbrev test : Bool
    test = keeps_all n q.cells states && all (two_squares states) (lines_of q.arrows q.ends q.count)

    boards_are : (t : Bool) → t ≡ finished_test leaf cells → (counted leaf cells).boards ≡ cond t (cells ∷ []) []
    unfolding counted
    boards_are t e = rw (← e) refl

    low : lowest cells ≡ n → (i : ℕ) → i < n → get_or states i 0 ≤ 1
    low e i l = omega (arith, s.three i, not_two)
      where
        not_two : get_or states i 0 ≡ 2 → ⊥
        not_two z = none_left cells (none_undecided n cells cells_long e) i (get_or-take n states i 0 l ∙ z)

    -- what lies beyond
    pub Meets-Beyond : {m : Option ℕ} {before after : List ℕ} → length before ≡ 1024 → Beyond n states test before after m → Meets leaf n states before after m
    Meets-Beyond long (undecided e g h) = meets_undecided quiet e g h
    Meets-Beyond long (noted e t h) =
        full quiet e h.long (rw (boards_are true (no_reason q f edition sizes states s.long good t x)) (λ bs z. Noted-more n (few q f) h (low e) bs z))
    Meets-Beyond long (passed e t h) =
        full quiet e (ap length h ∙ long) (rw (boards_are false (fails_before q f edition sizes states s.long t)) (Gathers-none n h))
