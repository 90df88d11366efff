-- The way back of an embedding whose image is the whole grid: it is an embedding.
-- Assumes nothing.
use Prim.Native.Nat.{ℕ, ◌<◌}
use native.Mathlib.Decide.{dec_lt}
use mathlib.Core.Logic.{◌↔◌}
use mathlib.Core.Path.{◌≡◌, sym, ap, ◌∙◌, subst}
use Rattle.grid.specs.Grid.{Grid, size, Adjacent}
use Rattle.groups.specs.Rules.{Moved}
use Rattle.embed.specs.Embedding.{Embedding}

module _ {g h : Grid} {f : ℕ → ℕ} (E : Embedding g h f) (onto : (j : ℕ) → j < size h → (i : ℕ) × (i < size g) × (f i ≡ j)) where
  -- the cell that f takes to j, 0 where j lies off the grid
  back_by : (j : ℕ) → Dec (j < size h) → ℕ
  back_by j (yes l) = (onto j l).0
  back_by j (no _) = 0

  pub back : ℕ → ℕ
  back j = back_by j (dec_lt j (size h))

  back_by_lem : (j : ℕ) → j < size h → (d : Dec (j < size h)) → (back_by j d < size g) × (f (back_by j d) ≡ j)
  unfolding back_by
  back_by_lem j l (yes k) = let w = onto j k in (w.1, w.2)
  back_by_lem j l (no n) = absurd (n l)

  back_into : (j : ℕ) → j < size h → back j < size g
  unfolding back
  back_into j l = (back_by_lem j l (dec_lt j (size h))).0

  pub away : (j : ℕ) → j < size h → f (back j) ≡ j
  unfolding back
  away j l = (back_by_lem j l (dec_lt j (size h))).1

  pub home : (i : ℕ) → i < size g → back (f i) ≡ i
  home i l = E.inj (back (f i)) i (back_into (f i) (E.into i l)) l (away (f i) (E.into i l))

  -- what holds of two cells of the whole, and of the images of the cells that they come from
  both_away : (R : ℕ → ℕ → Type 0) (i j : ℕ) → i < size h → j < size h → R (f (back i)) (f (back j)) ↔ R i j
  both_away R i j il jl = (
    λ r. subst (λ z. R z j) (away i il) (subst (R (f (back i))) (away j jl) r),
    λ r. subst (λ z. R z (f (back j))) (sym (away i il)) (subst (R i) (sym (away j jl)) r),
  )

  -- so it is with neighbours and shifts
  over : (P Q : ℕ → ℕ → Type 0) → ((x y : ℕ) → x < size g → y < size g → P x y ↔ Q (f x) (f y)) → (i j : ℕ) → i < size h → j < size h → Q i j ↔ P (back i) (back j)
  over P Q w i j il jl =
      let u = both_away Q i j il jl in
      let k = w (back i) (back j) (back_into i il) (back_into j jl) in
      (λ q. k.1 (u.1 q), λ p. u.0 (k.0 p))

  pub back_embeds : Embedding h g back
  back_embeds = record {
    into = back_into;
    inj = λ i j il jl e. sym (away i il) ∙ ap f e ∙ away j jl;
    adj = over (Adjacent g) (Adjacent h) E.adj;
    shift = λ t. let w = E.back t in (w.0, over (Moved g w.0) (Moved h t) w.1);
    back = λ s. let w = E.shift s in (w.0, over (Moved g s) (Moved h w.0) w.1);
  }
