-- Steps between cells, by sums and the marks of row starts; walks along an arrow and along all arrows.
-- Assumes nothing.
use Prim.Native.Nat.{ℕ, suc, ◌+◌, ◌-◌, ◌*◌, ◌%◌, ◌≤◌, ◌<◌}
use native.Mathlib.Nat.{pos_of_ne-zero}
use native.Mathlib.Numerals.{add-one}
use native.Mathlib.Decide.{ℕ_discrete}
use native.Mathlib.Omega.{arith}
use mathlib.Core.Path.{◌≡◌, refl, sym, ◌∙◌}
use mathlib.Core.Bool.{Bool, true, false, cond, ◌&&◌, and-false, and-true}
use mathlib.Core.List.{List, [], ◌∷◌}
use lib.Dec.{eqb, ltb}
use lib.ListN.{length, get_or, take, drop, length-take, drop_of_length-le}
use lib.Seq.{drop-cons, get_or-take, get_or-drop}
use borrow.Author.Tests.{eq-eqb, ne_eqb, ltb-true}
use Rattle.grid.specs.Lists.{all, member}
use Rattle.grid.specs.Grid.{Grid, size, neighbours, Beside, above, below, before, behind}
use Rattle.grid.specs.Side.{sized}
use Rattle.grid.proofs.ListLaws.{member-mem, mem-member, So-false, and-true as both}
use Rattle.grid.proofs.GridLaws.{beside, neighbour, Beside-sym}
use Rattle.record.specs.Problem.{arrows_from}
use Rattle.form.specs.Form.{rises, walks, is_path}
use Rattle.form.specs.Inside.{RowStarts}

module _ (h : ℕ) {w : ℕ} {starts : List ℕ} (s : RowStarts (h * w) w starts) (i j : ℕ) (hi : i < h * w) (hj : j < h * w) where
  near : Beside (sized h w) i j → true ≡ member j (neighbours (sized h w) i)
  near b = sym (mem-member j (neighbours (sized h w) i) (neighbour (sized h w) i b))

  far : (Beside (sized h w) i j → ⊥) → false ≡ member j (neighbours (sized h w) i)
  far n = sym (So-false (member j (neighbours (sized h w) i)) (λ t. n (beside (sized h w) i (member-mem j (neighbours (sized h w) i) t))))

  pub step_up : j + w ≡ i → true ≡ member j (neighbours (sized h w) i)
  step_up e = near (above e)

  pub step_down : i + w ≡ j → true ≡ member j (neighbours (sized h w) i)
  unfolding size
  step_down e = near (below (omega arith) (sym e))

  -- not in one column
  module _ (u : j + w ≡ i → ⊥) (d : i + w ≡ j → ⊥) where
    pub step_left : j + 1 ≡ i → eqb (get_or starts i 0) 0 ≡ member j (neighbours (sized h w) i)
    step_left e = rw (s.each i hi) (go (ℕ_discrete (i % w) 0))
      where
        never : i % w ≡ 0 → Beside (sized h w) i j → ⊥
        never z (above q) = u q
        never z (below n q) = omega (arith, e, q)
        never z (before n q) = omega (arith, n, z)
        never z (behind n q) = omega (arith, e, q)

        go : Dec (i % w ≡ 0) → eqb (cond (eqb (i % w) 0) 1 0) 0 ≡ member j (neighbours (sized h w) i)
        go (yes z) = rw (eq-eqb (i % w) 0 z) (far (never z))
        go (no z) = rw (ne_eqb (i % w) 0 z) (near (before (pos_of_ne-zero z) e))

    pub step_right : i + 1 ≡ j → eqb (get_or starts j 0) 0 ≡ member j (neighbours (sized h w) i)
    unfolding size
    step_right e = rw (s.each j hj) (go (ℕ_discrete (j % w) 0))
      where
        never : j % w ≡ 0 → Beside (sized h w) j i → ⊥
        never z (above q) = d q
        never z (below n q) = u (sym q)
        never z (before n q) = omega (arith, n, z)
        never z (behind n q) = omega (arith, e, q)

        go : Dec (j % w ≡ 0) → eqb (cond (eqb (j % w) 0) 1 0) 0 ≡ member j (neighbours (sized h w) i)
        go (yes z) = rw (eq-eqb (j % w) 0 z) (far (λ b. never z (Beside-sym (sized h w) hi b)))
        go (no z) = rw (ne_eqb (j % w) 0 z) (near (Beside-sym (sized h w) hj (before (pos_of_ne-zero z) e)))

    pub step_none : (j + 1 ≡ i → ⊥) → (i + 1 ≡ j → ⊥) → false ≡ member j (neighbours (sized h w) i)
    step_none l r = far never
      where
        never : Beside (sized h w) i j → ⊥
        never (above q) = u q
        never (below n q) = d (sym q)
        never (before n q) = l q
        never (behind n q) = r (sym q)

-- ---- a walk along an arrow, of which the cells before k are passed

-- before the first step
pub walk_start : (g : Grid) (arrow : List ℕ) → is_path g arrow ≡ walks g (get_or arrow 0 0) (drop 1 arrow)
unfolding is_path walks
walk_start g [] = refl
walk_start g (i ∷ js) = refl

module _ (g : Grid) (arrow : List ℕ) {total : Bool} (i k : ℕ) where
  pub walk_on : k < length arrow → total ≡ walks g i (drop k arrow) → true ≡ member (get_or arrow k 0) (neighbours g i) → total ≡ walks g (get_or arrow k 0) (drop (k + 1) arrow)
  unfolding walks
  walk_on h e q = e ∙ rw (add-one k, drop-cons arrow k 0 h, ← q) refl

  pub walk_fail : k < length arrow → total ≡ walks g i (drop k arrow) → false ≡ member (get_or arrow k 0) (neighbours g i) → false ≡ total
  unfolding walks
  walk_fail h e q = sym (e ∙ rw (drop-cons arrow k 0 h, ← q) refl)

  pub walk_end : length arrow ≤ k → total ≡ walks g i (drop k arrow) → true ≡ total
  unfolding walks
  walk_end h e = sym (e ∙ rw (drop_of_length-le arrow {i = k} h) refl)

-- ---- all arrows

-- a pass over the arrows that keeps whether every one so far passes a test
module _ (test : List ℕ → Bool) (line l : List ℕ) {total : Bool} (good : Bool) (at k : ℕ) where
  pub arrows_on : k < length l → total ≡ (good && all test (arrows_from line at (drop k l))) → true ≡ test (take (get_or l k 0 - at) (drop at line))
      → total ≡ (good && all test (arrows_from line (get_or l k 0) (drop (k + 1) l)))
  unfolding arrows_from
  arrows_on h e q = e ∙ rw (add-one k, drop-cons l k 0 h, ← q) refl

  pub arrows_fail : k < length l → total ≡ (good && all test (arrows_from line at (drop k l))) → false ≡ test (take (get_or l k 0 - at) (drop at line)) → total ≡ false
  unfolding arrows_from
  arrows_fail h e q = e ∙ rw (drop-cons l k 0 h, ← q, and-false good) refl

  pub arrows_end : length l ≤ k → total ≡ (good && all test (arrows_from line at (drop k l))) → good ≡ total
  unfolding arrows_from
  arrows_end h e = rw (e, drop_of_length-le l {i = k} h, and-true good) refl

-- the cells of a part of the line are on the grid
pub part_below : (l : List ℕ) (n at end : ℕ) → ((i : ℕ) → i < end → get_or l i 0 < n) → (k : ℕ) → k < length (take (end - at) (drop at l)) → get_or (take (end - at) (drop at l)) k 0 < n
part_below l n at end low k h =
    let lt : k < end - at = omega (arith, length-take (end - at) (drop at l)) in
    rw (get_or-take (end - at) (drop at l) k 0 lt, get_or-drop at l k 0) (low (at + k) (omega arith))

-- the next of rising ends
pub next_rise : (l : List ℕ) (at k : ℕ) → k < length l → rises at (drop k l) ≡ true → (at < get_or l k 0) × (rises (get_or l k 0) (drop (k + 1) l) ≡ true)
unfolding rises
next_rise l at k h e =
    let r = both (ltb at (get_or l k 0)) (rises (get_or l k 0) (drop (suc k) l)) (rw (drop-cons l k 0 h) at e) in
    (ltb-true at (get_or l k 0) r.0, rw (add-one k) r.1)
