-- Each turning has an inverse among the eight, since a flip twice is nothing, four quarter turns are nothing, and a flip turns the quarter turn round.
-- Assumes nothing.
use Prim.Native.Nat.{ℕ, zero, suc, ◌+◌, ◌-◌, ◌%◌, ◌<◌}
use native.Mathlib.Omega.{arith}
use native.Mathlib.Nat.{mod-eq_of_lt, mod-lt, eq-zero-or-pos}
use mathlib.Core.Logic.{◌⊎◌, inl, inr}
use mathlib.Core.Path.{◌≡◌, refl, sym, ap, ◌∙◌}
use mathlib.Core.Bool.{true, false}
use lib.Dec.{leb}
use borrow.Author.Tests.{leb-false, leb-true}
use Rattle.grid.specs.Grid.{Grid, size}
use Rattle.grid.proofs.ListLaws.{split, So-false}
use Rattle.grid.proofs.GridLaws.{row_below, col_below, one_place}
use Rattle.turn.specs.Turn.{Turn, swapped, flip_cell, quarter_cell, stay, flip, quarter, then, quarters, flip_if, turning, inverse}
use Rattle.turn.proofs.TurnLaws.{Turns, flip-Turns, quarters-Turns, flip_row, flip_col, flip_into, flip_flip, quarter_row, quarter_col, quarter_into}

-- m and n are the same turn of the cells of g
pub record Same (g : Grid) (m n : Turn) : Type 0 where
  pub grid : m.grid ≡ n.grid
  pub to : (i : ℕ) → i < size g → m.to i ≡ n.to i

Same-trans : {g : Grid} {a b c : Turn} → Same g a b → Same g b c → Same g a c
Same-trans p q = record { grid = p.grid ∙ q.grid; to = λ i l. p.to i l ∙ q.to i l }

Same-path : (g : Grid) (m n : Turn) → m ≡ n → Same g m n
Same-path g m n e = record { grid = ap (λ (t : Turn). t.grid) e; to = λ i l. ap (λ (t : Turn). t.to i) e }

Same-quarter : (g : Grid) (m n : Turn) → Same g m n → Same g (then m quarter) (then n quarter)
Same-quarter g m n s = record {
  grid = ap swapped s.grid;
  to = λ i l. ap (λ (h : Grid). quarter_cell h (m.to i)) s.grid ∙ ap (quarter_cell n.grid) (s.to i l);
}

Same-quarters : (g : Grid) (r : ℕ) (m n : Turn) → Same g m n → Same g (quarters r m) (quarters r n)
unfolding quarters
Same-quarters g zero m n s = s
Same-quarters g (suc r) m n s = Same-quarter g (quarters r m) (quarters r n) (Same-quarters g r m n s)

-- quarter turns by themselves, after m
quarters_alone : (r : ℕ) (m : Turn) (s : Grid → Turn) → then m (λ h. quarters r (s h)) ≡ quarters r (then m s)
unfolding quarters
quarters_alone zero m s = refl
quarters_alone (suc r) m s = ap (λ (t : Turn). then t quarter) (quarters_alone r m s)

quarters_more : (s r : ℕ) (m : Turn) → quarters s (quarters r m) ≡ quarters (s + r) m
unfolding quarters
quarters_more zero r m = let e : r ≡ 0 + r = omega arith in ap (λ (q : ℕ). quarters q m) e
quarters_more (suc s) r m =
    let e : suc (s + r) ≡ suc s + r = omega arith in
    ap (λ (t : Turn). then t quarter) (quarters_more s r m) ∙ ap (λ (q : ℕ). quarters q m) e

quarters_first : (r : ℕ) (m : Turn) → quarters r (then m quarter) ≡ then (quarters r m) quarter
unfolding quarters
quarters_first zero m = refl
quarters_first (suc r) m = ap (λ (t : Turn). then t quarter) (quarters_first r m)

module _ (g : Grid) (i : ℕ) (l : i < size g) where
  -- four quarter turns
  four_cell : quarter_cell (swapped g) (quarter_cell g (quarter_cell (swapped g) (quarter_cell g i))) ≡ i
  four_cell =
      let a = quarter_cell g i in
      let la = quarter_into g i l in
      let b = quarter_cell (swapped g) a in
      let lb = quarter_into (swapped g) a la in
      let c = quarter_cell g b in
      let lc = quarter_into g b lb in
      one_place g (quarter_cell (swapped g) c) i
      (omega (arith, quarter_row (swapped g) c lc, quarter_col g b lb, quarter_row (swapped g) a la, quarter_col g i l, row_below g l))
      (omega (arith, quarter_col (swapped g) c lc, quarter_row g b lb, quarter_col (swapped g) a la, quarter_row g i l, col_below g l))

  -- a flip between two quarter turns
  mirror_cell : quarter_cell (swapped g) (flip_cell (swapped g) (quarter_cell g i)) ≡ flip_cell g i
  mirror_cell =
      let a = quarter_cell g i in
      let la = quarter_into g i l in
      let b = flip_cell (swapped g) a in
      let lb = flip_into (swapped g) a la in
      one_place g (quarter_cell (swapped g) b) (flip_cell g i)
      (omega (arith, quarter_row (swapped g) b lb, flip_col (swapped g) a la, quarter_col g i l, flip_row g i l, row_below g l))
      (omega (arith, quarter_col (swapped g) b lb, flip_row (swapped g) a la, quarter_row g i l, flip_col g i l))

-- a flip turns the quarter turn round: a quarter turn, a flip and a quarter turn are a flip
pub flip_between : (g : Grid) (m : Turn) → Turns g m → Same g (then (then (then m quarter) flip) quarter) (then m flip)
flip_between g m t = record { grid = refl; to = λ i l. mirror_cell m.grid (m.to i) (t.embeds.into i l) }

-- a flip twice is nothing
pub flip_twice : (g : Grid) → Same g (then (flip g) flip) (stay g)
flip_twice g = record { grid = refl; to = flip_flip g }

-- r quarter turns, a flip, and r quarter turns
mirrors : (g : Grid) (r : ℕ) (m : Turn) → Turns g m → Same g (quarters r (then (quarters r m) flip)) (then m flip)
unfolding quarters
mirrors g zero m t = record { grid = refl; to = λ i l. refl }
mirrors g (suc r) m t =
    let a = Same-path g (then (quarters r (then (then (quarters r m) quarter) flip)) quarter) (quarters r (then (then (then (quarters r m) quarter) flip) quarter)) (sym (quarters_first r (then (then (quarters r m) quarter) flip))) in
    let b = Same-quarters g r (then (then (then (quarters r m) quarter) flip) quarter) (then (quarters r m) flip) (flip_between g (quarters r m) (quarters-Turns g r m t)) in
    Same-trans a (Same-trans b (mirrors g r m t))

-- four quarter turns are nothing
pub four_quarters : (g : Grid) → Same g (quarters 4 (stay g)) (stay g)
unfolding quarters
four_quarters g = record { grid = refl; to = four_cell g }

-- what turns past the rest to four
rest_four : (k : ℕ) → k < 4 → ((4 - k) % 4 + k % 4 ≡ 0) ⊎ ((4 - k) % 4 + k % 4 ≡ 4)
rest_four k l = go (eq-zero-or-pos k)
  where
    go : (k ≡ 0) ⊎ (0 < k) → ((4 - k) % 4 + k % 4 ≡ 0) ⊎ ((4 - k) % 4 + k % 4 ≡ 4)
    go (inl e) = inl (rw e refl)
    go (inr p) = inr (omega (arith, mod-eq_of_lt {n = k} {m = 4} l, mod-eq_of_lt {n = 4 - k} {m = 4} (omega arith)))

-- only the turn of the grid at hand counts
then_at : (m : Turn) (s t : Grid → Turn) → s m.grid ≡ t m.grid → then m s ≡ then m t
then_at m s t e = ap (λ (u : Turn). then m (λ h. u)) e

turning_low : (k : ℕ) (g : Grid) → leb 4 k ≡ false → turning k g ≡ quarters (k % 4) (stay g)
unfolding turning flip_if
turning_low k g e = rw e

turning_high : (k : ℕ) (g : Grid) → leb 4 k ≡ true → turning k g ≡ quarters (k % 4) (flip g)
unfolding turning flip_if
turning_high k g e = rw e

inverse_low : (k : ℕ) → leb 4 k ≡ false → inverse k ≡ (4 - k) % 4
unfolding inverse
inverse_low k e = rw e

inverse_high : (k : ℕ) → leb 4 k ≡ true → inverse k ≡ k
unfolding inverse
inverse_high k e = rw e

no_quarters : (g : Grid) (q : ℕ) → (q ≡ 0) ⊎ (q ≡ 4) → Same g (quarters q (stay g)) (stay g)
unfolding quarters
no_quarters g q (inl e) = rw e (record { grid = refl; to = λ i l. refl })
no_quarters g q (inr e) = rw e (four_quarters g)

-- a turning, and then its inverse, is none
pub undone : (k : ℕ) (g : Grid) → Same g (then (turning k g) (turning (inverse k))) (stay g)
undone k g = go (split (leb 4 k))
  where
    go : (leb 4 k ≡ true) ⊎ (leb 4 k ≡ false) → Same g (then (turning k g) (turning (inverse k))) (stay g)
    go (inl e) =
        let a : then (turning k g) (turning (inverse k)) ≡ quarters (k % 4) (then (quarters (k % 4) (flip g)) flip) =
        rw (turning_high k g e, inverse_high k e)
        (then_at (quarters (k % 4) (flip g)) (turning k) (λ h. quarters (k % 4) (flip h)) (turning_high k _ e) ∙ quarters_alone (k % 4) (quarters (k % 4) (flip g)) flip) in
        Same-trans (Same-path g _ _ a) (Same-trans (mirrors g (k % 4) (flip g) (flip-Turns g)) (flip_twice g))
    go (inr e) =
        let s : ℕ = (4 - k) % 4 in
        let l : k < 4 = leb-false 4 k e in
        let ls : s < 4 = mod-lt (4 - k) {m = 4} (omega arith) in
        let es : leb 4 s ≡ false = So-false (leb 4 s) (λ t. let z = leb-true 4 s t in omega arith) in
        let ms : s % 4 ≡ s = mod-eq_of_lt {n = s} {m = 4} ls in
        let a : then (turning k g) (turning (inverse k)) ≡ quarters (s + k % 4) (stay g) =
        rw (turning_low k g e, inverse_low k e)
        (then_at (quarters (k % 4) (stay g)) (turning s) (λ h. quarters s (stay h)) (turning_low s _ es ∙ ap (λ (q : ℕ). quarters q (stay (quarters (k % 4) (stay g)).grid)) ms)
        ∙ quarters_alone s (quarters (k % 4) (stay g)) stay ∙ quarters_more s (k % 4) (stay g)) in
        Same-trans (Same-path g _ _ a) (no_quarters g (s + k % 4) (rest_four k l))

-- the inverse is one of the eight
pub inverse_small : (k : ℕ) → k < 8 → inverse k < 8
inverse_small k l = go (split (leb 4 k))
  where
    go : (leb 4 k ≡ true) ⊎ (leb 4 k ≡ false) → inverse k < 8
    go (inl e) = rw (inverse_high k e) l
    go (inr e) = rw (inverse_low k e) (omega (arith, mod-lt (4 - k) {m = 4} (omega arith)))
