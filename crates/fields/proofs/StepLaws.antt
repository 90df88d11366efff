-- One step on the grid, by row and column.
-- Assumes nothing.
use Prim.Native.Nat.{ℕ, zero, suc, ◌+◌, ◌-◌, ◌*◌, ◌≤◌, ◌<◌}
use native.Mathlib.Nat.{suc-mul, zero-mul, mul-le-mul_right}
use native.Mathlib.Omega.{arith}
use native.Mathlib.Numerals.{add-one}
use mathlib.Core.Path.{◌≡◌, refl, sym, ap, ◌∙◌}
use lib.Arith.{digits_mod}
use borrow.Author.Tests.{lt-ltb, le-ltb, le-leb, lt-leb}
use Rattle.grid.specs.Grid.{Grid, size, col, only, up, down, left, right}
use Rattle.grid.specs.Side.{sized}
use Rattle.fields.specs.Fields.{ok, refused, there, step_from}

-- a row further
below : (y w : ℕ) → (y + 1) * w ≡ y * w + w
below y w = rw add-one (suc-mul y w)

above : (y w : ℕ) → 0 < y → (y - 1) * w + w ≡ y * w
above y w p =
    let e : y - 1 + 1 ≡ y = omega arith in
    sym (below (y - 1) w) ∙ ap (λ (z : ℕ). z * w) e

module _ (h w y x : ℕ) (hy : y < h) (hx : x < w) where
  -- the grid of the code's height and width
  abbrev G : Grid
  G = sized h w

  pub step_up : 0 < y → ok ((y - 1) * w + x) ≡ step_from G (y * w + x) 0
  unfolding step_from there up only
  step_up p =
      let r = above y w p in
      let e : y * w + x - w ≡ (y - 1) * w + x = omega arith in
      rw (le-leb w (y * w + x) (omega arith), e) refl

  pub no_up : y ≤ 0 → refused 3 ≡ step_from G (y * w + x) 0
  unfolding step_from there up only
  no_up p =
      let z : y ≡ 0 = omega arith in
      let e : y * w ≡ 0 = rw z (zero-mul w) in
      rw (lt-leb w (y * w + x) (omega arith)) refl

  pub step_down : y + 1 < h → ok ((y + 1) * w + x) ≡ step_from G (y * w + x) 1
  unfolding step_from there down only size
  step_down p =
      let r = below y w in
      let l = below (y + 1) w in
      let m : (y + 1 + 1) * w ≤ h * w = mul-le-mul_right w (omega arith) in
      let e : y * w + x + w ≡ (y + 1) * w + x = omega arith in
      rw (lt-ltb (y * w + x + w) (h * w) (omega arith), e) refl

  pub no_down : h ≤ y + 1 → refused 3 ≡ step_from G (y * w + x) 1
  unfolding step_from there down only size
  no_down p =
      let z : h ≡ y + 1 = omega arith in
      let m : h * w ≡ y * w + w = rw z (below y w) in
      rw (le-ltb (y * w + x + w) (h * w) (omega arith)) refl

  pub step_left : 0 < x → ok (y * w + (x - 1)) ≡ step_from G (y * w + x) 2
  unfolding step_from there left only col
  step_left p =
      let e : y * w + x - 1 ≡ y * w + (x - 1) = omega arith in
      rw (digits_mod y hx, lt-ltb 0 x p, e) refl

  pub no_left : x ≤ 0 → refused 3 ≡ step_from G (y * w + x) 2
  unfolding step_from there left only col
  no_left p = rw (digits_mod y hx, le-ltb 0 x p) refl

  pub step_right : x + 1 < w → ok (y * w + (x + 1)) ≡ step_from G (y * w + x) 3
  unfolding step_from there right only col
  step_right p =
      let e : y * w + x + 1 ≡ y * w + (x + 1) = omega arith in
      rw (digits_mod y hx, lt-ltb (x + 1) w p, e) refl

  pub no_right : w ≤ x + 1 → refused 3 ≡ step_from G (y * w + x) 3
  unfolding step_from there right only col
  no_right p = rw (digits_mod y hx, le-ltb (x + 1) w p) refl

-- no step: none of the four leads to a cell
module _ (h w y x : ℕ) (hy : y < h) (hx : x < w) where
  pub no_step : (d : ℕ) → d < 4 → (d ≡ 0 → y ≤ 0) → (d ≡ 1 → h ≤ y + 1) → (d ≡ 2 → x ≤ 0) → (d ≡ 3 → w ≤ x + 1) → refused 3 ≡ step_from (sized h w) (y * w + x) d
  no_step zero l a b c e = no_up h w y x hy hx (a refl)
  no_step (suc zero) l a b c e = no_down h w y x hy hx (b refl)
  no_step (suc (suc zero)) l a b c e = no_left h w y x hy hx (c refl)
  no_step (suc (suc (suc zero))) l a b c e = no_right h w y x hy hx (e refl)
  no_step (suc (suc (suc (suc d)))) l a b c e = absurd (omega (arith, l))

pub ruleset steps = (step_up, step_down, step_left, step_right, no_step)
