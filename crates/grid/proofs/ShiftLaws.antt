-- A shift that takes the cell f to the cell t, by signed offsets and by sums of rows and columns.
-- Assumes nothing.
use Prim.Native.Nat.{ℕ, zero, suc, ◌+◌, ◌-◌, ◌*◌, ◌/◌, ◌%◌, ◌<◌}
use native.Mathlib.Omega.{arith}
use native.Mathlib.Nat.{mod-lt, div-lt_iff_lt-mul}
use mathlib.Core.Path.{◌≡◌, refl, ap}
use mathlib.Core.Logic.{◌↔◌}
use mathlib.Core.Bool.{Bool, true, false, cond, So}
use mathlib.Core.List.{List, Memᴰ}
use lib.Arith.{digits_lt, digits_div, digits_mod}
use lib.Dec.{eqb, ltb}
use lib.IntN.{pos, negsuc, ◌-ℤ◌}
use borrow.Author.Tests.{eqb-true, eq-eqb, ltb-true, ltb-false}
use Rattle.std.specs.Prelude.{Option, Some, None}
use Rattle.std.proofs.lemmas.Bool.{and_from}
use Rattle.grid.specs.Lists.{any, member}
use Rattle.grid.specs.Grid.{Grid, size, row, col}
use Rattle.grid.specs.Side.{moved_of, side_at, shifted_of, landing, Landed, lands}
use Rattle.grid.proofs.ListLaws.{and-true, any-mem, mem-any, member-mem, mem-member, So-false}
use Rattle.grid.proofs.GridLaws.{width_pos, index}
use Rattle.grid.proofs.SideLaws.{Reaches, moved_to, to_moved}
use Rattle.grid.proofs.AppendLaws.{same_test}

-- r is on from a by the way from f to t
way_to : (a f t r : ℕ) → Reaches a (pos t -ℤ pos f) r → r + f ≡ a + t
way_to a zero t r e = omega arith
way_to a (suc f) t r e = go (ltb t (suc f)) refl e
  where
    go : (b : Bool) → ltb t (suc f) ≡ b → Reaches a (cond b (negsuc (suc f - suc t)) (pos (t - suc f))) r → r + suc f ≡ a + t
    go true e k = omega (arith, ltb-true t (suc f) e)
    go false e k = omega (arith, ltb-false t (suc f) e)

to_way : (a f t r : ℕ) → r + f ≡ a + t → Reaches a (pos t -ℤ pos f) r
to_way a zero t r e = omega arith
to_way a (suc f) t r e = go (ltb t (suc f)) refl
  where
    go : (b : Bool) → ltb t (suc f) ≡ b → Reaches a (cond b (negsuc (suc f - suc t)) (pos (t - suc f))) r
    go true k = omega (arith, ltb-true t (suc f) k)
    go false k = omega (arith, ltb-false t (suc f) k)

-- what two moves that lead to a cell are
data Led (w : ℕ) (s t : Option ℕ) (d : ℕ) : Type 0 where
  led : (y x : ℕ) → s ≡ Some y → t ≡ Some x → d ≡ y * w + x → Led w s t d

Led-by : (w : ℕ) (s t : Option ℕ) (d : ℕ) → side_at w s t ≡ Some d → Led w s t d
unfolding side_at
Led-by w (Some y) (Some x) d e = led y x refl refl (cc)
Led-by w (Some y) None d e = let z : ◌≡◌ {A = ℕ} 0 1 = cc in absurd (omega arith)
Led-by w None t d e = let z : ◌≡◌ {A = ℕ} 0 1 = cc in absurd (omega arith)

off_by : (s : Option ℕ) → ((d : ℕ) → ¬ (s ≡ Some d)) → s ≡ None
off_by (Some d) h = absurd (h d refl)
off_by None h = refl

module _ (g : Grid) (f t c : ℕ) where
  abbrev W : ℕ
  W = g.width

  landing_to : (d : ℕ) → landing g f t c ≡ Some d → Landed g f t c d
  unfolding shifted_of row col size
  landing_to d e = go (Led-by W _ _ d e)
    where
      go : Led W (moved_of (row g c) (pos (row g t) -ℤ pos (row g f)) g.height) (moved_of (col g c) (pos (col g t) -ℤ pos (col g f)) W) d → Landed g f t c d
      go (led y x p q same) =
          let r = moved_to (row g c) (pos (row g t) -ℤ pos (row g f)) g.height y p in
          let s = moved_to (col g c) (pos (col g t) -ℤ pos (col g f)) W x q in
          let d_row : d / W ≡ y = rw same (digits_div y s.0) in
          let d_col : d % W ≡ x = rw same (digits_mod y s.0) in
          record {
            inside = rw same (digits_lt r.0 s.0);
            rows = rw d_row (way_to (row g c) (row g f) (row g t) y r.1);
            cols = rw d_col (way_to (col g c) (col g f) (col g t) x s.1);
          }

  to_landing : (d : ℕ) → Landed g f t c d → landing g f t c ≡ Some d
  unfolding shifted_of side_at row col size
  to_landing d h =
      let some : 0 < W = width_pos g h.inside in
      rw (
        to_moved (row g c) (pos (row g t) -ℤ pos (row g f)) g.height (row g d) ((div-lt_iff_lt-mul some).1 h.inside) (to_way (row g c) (row g f) (row g t) (row g d) h.rows),
        to_moved (col g c) (pos (col g t) -ℤ pos (col g f)) W (col g d) (mod-lt d some) (to_way (col g c) (col g f) (col g t) (col g d) h.cols),
      )
      (ap Some (index g d))

  -- the signed offsets lead to d exactly when the sums say so
  pub landing_at : (d : ℕ) → (landing g f t c ≡ Some d) ↔ Landed g f t c d
  landing_at d = (landing_to d, to_landing d)

  -- the signed offsets lead off the grid exactly when the sums hold for no cell
  pub landing_off : (landing g f t c ≡ None) ↔ ((d : ℕ) → ¬ Landed g f t c d)
  landing_off = (λ e d h. let k = to_landing d h in let z : ◌≡◌ {A = ℕ} 0 1 = cc in omega arith, λ n. off_by (landing g f t c) (λ d e. n d (landing_to d e)))

-- the test says that rows and columns add up
module _ (g : Grid) (f t c d : ℕ) where
  pub lands_sums : So (lands g f t c d) → (row g d + row g f ≡ row g c + row g t) × (col g d + col g f ≡ col g c + col g t)
  lands_sums h =
      let k = and-true (eqb (row g d + row g f) (row g c + row g t)) (eqb (col g d + col g f) (col g c + col g t)) h in
      (eqb-true (row g d + row g f) (row g c + row g t) k.0, eqb-true (col g d + col g f) (col g c + col g t) k.1)

  pub sums_lands : row g d + row g f ≡ row g c + row g t → col g d + col g f ≡ col g c + col g t → So (lands g f t c d)
  sums_lands r k = and_from _ _ (eq-eqb (row g d + row g f) (row g c + row g t) r) (eq-eqb (col g d + col g f) (col g c + col g t) k)

-- a place of the grid is in the list
unfoldable pub side_in : Option ℕ → List ℕ → Bool
side_in (Some d) r = member d r
side_in None r = false

module _ (g : Grid) (f t c : ℕ) where
  -- a cell of the list passes it exactly when the signed offsets lead into the list
  pub landing-any : (r : List ℕ) → ((d : ℕ) → Memᴰ d r → d < size g) → any (lands g f t c) r ≡ side_in (landing g f t c) r
  unfolding side_in
  landing-any r inside = go (landing g f t c) refl
    where
      found : So (any (lands g f t c) r) → (d : ℕ) × Memᴰ d r × (landing g f t c ≡ Some d)
      found h = let k = any-mem (lands g f t c) r h in (k.0, k.1, (landing_at g f t c k.0).1 (let e = lands_sums g f t c k.0 k.2 in record { inside = inside k.0 k.1; rows = e.0; cols = e.1 }))

      go : (s : Option ℕ) → landing g f t c ≡ s → any (lands g f t c) r ≡ side_in s r
      go (Some d) e = same_test _ _
          (λ h. let k = found h in let q : k.0 ≡ d = cc k.2 in mem-member d r (rw q at k.1))
          (λ h. mem-any (lands g f t c) r (member-mem d r h) (let h = (landing_at g f t c d).0 e in sums_lands g f t c d h.rows h.cols))
      go None e = So-false _ (λ h. let k = found h in let z : ◌≡◌ {A = ℕ} 0 1 = cc k.2 in omega arith)
