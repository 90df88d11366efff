-- The marks of the floating groups near a block and of a reach, as they grow cell by cell.
-- Assumes nothing.
use Prim.Native.Nat.{ℕ, ◌+◌, ◌≤◌, ◌<◌}
use native.Mathlib.Omega.{arith}
use mathlib.Core.Bool.{Bool, false, cond, ◌&&◌, ◌||◌, or-false, or_assoc}
use mathlib.Core.Path.{◌≡◌, refl, sym, ap, ◌∙◌}
use mathlib.Core.List.{List, [], ◌∷◌, ◌++◌}
use lib.Dec.{eqb}
use lib.ListN.{get_or, set, replicate}
use borrow.Author.Tests.{eq-eqb}
use Rattle.grid.specs.Lists.{range, upto}
use Rattle.grid.specs.Marks.{Marks}
use Rattle.grid.specs.Grid.{Grid, neighbours}
use Rattle.grid.proofs.ListLaws.{length-range, filter-length}
use Rattle.grid.proofs.AppendLaws.{any-append, any_more, count_hit, count_miss}
use Rattle.grid.proofs.FilledLaws.{filled_none, filled_more, filled_skip}
use Rattle.grid.proofs.MarkLaws.{Marks-same}
use Rattle.reach.specs.Inside.{near_at, near_among, reaches_at, Counted, miss, hit, Reached, float_among}

-- ---- the marks of floating groups near a block

module _ (kinds owners : List ℕ) (f : ℕ) where
  -- a cell that is no neighbour of f
  pub near_off : {M : List ℕ} (t : ℕ → Bool) (i : ℕ) (js : List ℕ) → (eqb (get_or kinds i 0) 2 && eqb (get_or owners i 0) f) ≡ false → Marks M t → Marks M (λ m. t m || near_at kinds owners f i js m)
  unfolding near_at
  near_off t i js e k = Marks-same t (λ m. t m || near_at kinds owners f i js m) (λ m l. rw e (sym (or-false (t m)))) k

  -- a neighbour of f: none, one more and all of its neighbours are passed
  pub near_none : {M : List ℕ} (t : ℕ → Bool) → Marks M t → Marks M (λ m. t m || float_among kinds owners [] m)
  near_none t k = Marks-same t (λ m. t m || false) (λ m l. sym (or-false (t m))) k

  pub near_more : {M : List ℕ} (t : ℕ → Bool) (js : List ℕ) (j : ℕ) → Marks M (λ m. (t m || float_among kinds owners js m) || (eqb (get_or kinds j 0) 4 && eqb (get_or owners j 0) m))
      → Marks M (λ m. t m || float_among kinds owners (js ++ (j ∷ [])) m)
  near_more t js j k = Marks-same _ (λ m. t m || float_among kinds owners (js ++ (j ∷ [])) m)
      (λ m l. or_assoc (t m) (float_among kinds owners js m) (eqb (get_or kinds j 0) 4 && eqb (get_or owners j 0) m)
      ∙ ap (λ (b : Bool). t m || b) (ap (λ (b : Bool). float_among kinds owners js m || b) (sym (or-false _)) ∙ sym (any-append (λ j. eqb (get_or kinds j 0) 4 && eqb (get_or owners j 0) m) js (j ∷ [])))) k

  pub near_all : {M : List ℕ} (t : ℕ → Bool) (i : ℕ) (js : List ℕ) → get_or kinds i 0 ≡ 2 → get_or owners i 0 ≡ f → Marks M (λ m. t m || float_among kinds owners js m) → Marks M (λ m. t m || near_at kinds owners f i js m)
  unfolding near_at
  near_all t i js e q k = Marks-same _ (λ m. t m || near_at kinds owners f i js m) (λ m l. rw (eq-eqb (get_or kinds i 0) 2 e, eq-eqb (get_or owners i 0) f q)) k

  -- the cells in row order
  pub among_near_none : {M : List ℕ} (g : Grid) → Marks M (λ m. false) → Marks M (near_among kinds owners g f 0)
  unfolding near_among upto range
  among_near_none g k = k

  pub among_near_more : {M : List ℕ} (g : Grid) (i : ℕ) → Marks M (λ m. near_among kinds owners g f i m || near_at kinds owners f i (neighbours g i) m) → Marks M (near_among kinds owners g f (i + 1))
  unfolding near_among
  among_near_more g i k =
      Marks-same (λ m. near_among kinds owners g f i m || near_at kinds owners f i (neighbours g i) m) (near_among kinds owners g f (i + 1))
      (λ m l. sym (any_more (λ j. near_at kinds owners f j (neighbours g j) m) i)) k

-- ---- the marks of the reach

module _ (kinds owners near : List ℕ) (f : ℕ) where
  -- the mark of cell i
  abbrev mark : ℕ → ℕ
  mark i = cond (reaches_at kinds owners near f i) 1 0

  pub Reached-none : Reached kinds owners near f 0 (replicate 1024 0) 0
  unfolding upto range
  Reached-none = record { marked = filled_none 0 mark; number = refl }

  pub Reached-more : {L L' : List ℕ} {k c r : ℕ} → k < 1024 → Counted (reaches_at kinds owners near f k) k L c L' r → Reached kinds owners near f k L c → Reached kinds owners near f (k + 1) L' r
  Reached-more {L} {L'} {k} h (miss t l e) R = record {
    marked = l ∙ R.marked ∙ sym (filled_skip 0 mark k h (rw t));
    number = e ∙ R.number ∙ sym (count_miss (reaches_at kinds owners near f) k t);
  }
  Reached-more {L} {L'} {k} h (hit t l e) R = record {
    marked = l ∙ ap (λ (x : List ℕ). set x k 1) R.marked ∙ filled_more 0 mark k 1 h (rw t);
    number = e ∙ ap (λ (x : ℕ). x + 1) R.number ∙ sym (count_hit (reaches_at kinds owners near f) k t);
  }

  -- no more are counted than passed
  pub Reached-few : {L : List ℕ} {k c : ℕ} → Reached kinds owners near f k L c → c ≤ k
  unfolding upto
  Reached-few {k = k} R = omega (arith, R.number, filter-length (reaches_at kinds owners near f) (upto k), length-range 0 k)
