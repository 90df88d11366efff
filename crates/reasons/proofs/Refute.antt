-- The block rules by positions, and why reasons 3 and 4 refute a filling that agrees with them.
-- Assumes nothing.
use Prim.Native.Nat.{ℕ, zero, suc, ◌+◌, ◌-◌, ◌≤◌, ◌<◌}
use mathlib.Core.Path.{◌≡◌, refl, sym, ◌∙◌, subst}
use mathlib.Core.Logic.{◌⊎◌, inl, inr}
use native.Mathlib.Decide.{dec_lt}
use native.Mathlib.Nat.{le_trans}
use native.Mathlib.Omega.{arith}
use Rattle.grid.specs.Grid.{Grid, size}
use Rattle.grid.specs.Link.{Linked, here, step}
use Rattle.grid.proofs.LinkLaws.{Linked-end, Linked-map}
use Rattle.grid.specs.Count.{count}
use Rattle.grid.proofs.Count.{Dec-and, count_inj, count_mono}
use Rattle.groups.proofs.ArrowLaws.{NextAt}
use Rattle.groups.specs.Rules.{Shift, Grown, Contains, Below}
use Rattle.kinds.specs.Meaning.{PartialBoard, Block, Reach}
use Rattle.kinds.proofs.Confine.{Decide, Fenced, confined}
use Rattle.reasons.proofs.Along.{along, Follows, passed}
use Rattle.growth.specs.Gap.{Choice}

-- the arrows: arrow t has the cells at t 0 .. at t (len t - 1), neighbours share a side, no cell twice
pub record Arrows (B : PartialBoard) : Type 1 where
  pub Which : Type 0
  pub len : Which → ℕ
  pub at : Which → ℕ → ℕ
  pub on : (t : Which) (k : ℕ) → k < len t → B.Arrow (at t k)
  pub side : (t : Which) (k : ℕ) → suc k < len t → B.Adj (at t k) (at t (suc k))
  pub once : (t : Which) (i j : ℕ) → i < len t → j < len t → at t i ≡ at t j → i ≡ j

-- a fully decided board, by its squares
pub record Filling (B : PartialBoard) (G : Grid) : Type 1 where
  pub F : ℕ → Type 0
  pub dec : (c : ℕ) → Dec (F c)
  pub below : Below G F
  pub dec_block : (a c : ℕ) → Dec (Linked B.Adj F a c)

-- the block rules
pub record Rules (e : ℕ) (Adj : ℕ → ℕ → Type 0) (Arrow : ℕ → Type 0) (G : Grid) (Which : Type 0) (len : Which → ℕ) (at : Which → ℕ → ℕ) (F : ℕ → Type 0) : Type 0 where
  pub has : (c : ℕ) → F c → (d : ℕ) × Arrow d × Linked Adj F c d
  pub one : (d e : ℕ) → Arrow d → Arrow e → Linked Adj F d e → d ≡ e
  pub grow : (t : Which) (i j : ℕ) → j < len t → NextAt F (at t) i j → Grown e G (Linked Adj F (at t i)) (Linked Adj F (at t j))

module _ (e : ℕ) (B : PartialBoard) (G : Grid) (A : Arrows B) where
  open B use {Adj, Arrow, Empty, Square, Undecided}
  open A use {Which, len, at, on, side, once}

  module _ (D : Decide B) (d_r : (a c : ℕ) → Dec (Reach B a c)) (fill : Filling B G) (rules : Rules e Adj Arrow G Which len at fill.F) (t : Which) where
    -- the squares of the filling
    abbrev F : ℕ → Type 0
    F = fill.F

    -- c is in the filling's block of a
    abbrev Bf : ℕ → ℕ → Type 0
    Bf a c = Linked Adj F a c

    follows : (i j : ℕ) → i < j → j < len t → F (at t i) → F (at t j)
        → Follows e G Bf fill.dec_block (at t) i j (passed fill.dec (at t) i (j - suc i))
    follows i j l jl f g = along e G F fill.dec Bf fill.dec_block (λ a c l. fill.below c (Linked-end l)) (at t) (len t) (λ i j. rules.grow t i j) i (j - suc i) j (omega arith) jl f g

    -- neighbours on an arrow are not both squares
    split : (k : ℕ) → suc k < len t → F (at t k) → ¬ F (at t (suc k))
    split k l f g = let e : k ≡ suc k = once t k (suc k) (omega arith) l (rules.one _ _ (on t k (omega arith)) (on t (suc k) l) (step (here f) (side t k l) g)) in omega arith

    module _ (i j : ℕ) (jl : j < len t) (pair : NextAt Square (at t) i j) where
      -- reasons 3 and 4a: last's block, cur's arrow cell, the fence of cur's block
      module _ (all : (x : ℕ) → Block B (at t i) x → F x) (cur : F (at t j)) (fence : Fenced B F (at t j)) where
        pub reason_3 : ((s : Shift) → ¬ Contains G s (Block B (at t i)) (Reach B (at t j))) → ⊥
        reason_3 h =
            let w = follows i j pair.0 jl (all _ (here pair.1)) cur in
            h w.shift (λ c b. let u = w.copy c (Linked-map all b) in
            (u.0, confined B D F rules.one (at t j) (on t j jl) pair.2 fence u.0 u.1, u.2))

        pub reason_4a : count (d_r (at t j)) (size G) < count (D.blk (at t i)) (size G) + 1 → ⊥
        reason_4a h =
            let w = follows i j pair.0 jl (all _ (here pair.1)) cur in
            omega (
              arith,
              w.least,
              count_mono (D.blk (at t i)) (fill.dec_block (at t i)) (size G) (λ c _ b. Linked-map all b),
              count_mono (fill.dec_block (at t j)) (d_r (at t j)) (size G) (λ c _ b. confined B D F rules.one (at t j) (on t j jl) pair.2 fence c b),
            )

      -- reason 4b: cur's block, last's arrow cell, the fence of last's block, the empty cells of the gap
      module _ (all : (x : ℕ) → Block B (at t j) x → F x) (lst : F (at t i)) (fence : Fenced B F (at t i))
          (gap : (p : ℕ) → i + 2 ≤ p → p + 2 ≤ j → Empty (at t p) → ¬ F (at t p))
          (g : ℕ) (most : (S : ℕ → Type 0) (d : (k : ℕ) → Dec (S k)) → Choice (λ k. Undecided (at t (i + 2 + k))) (j - (i + 3)) S → count d (j - (i + 3)) ≤ g) where
        pub few : passed fill.dec (at t) i (j - suc i) ≤ g
        few = le_trans (count_inj (λ k p. k ≡ suc p) (λ k. fill.dec (at t (suc (i + k)))) (j - suc i) w (λ k m p _ _ x y. x ∙ sym y) S d_s into)
            (most S d_s (record { low = λ k s. s.0; good = λ k s. good k s (D.cases _); apart = λ k s r. split (i + 2 + k) (omega (arith, s.0)) s.1 (subst (λ x. F (at t x)) (omega arith) r.1) }))
          where
            w : ℕ
            w = j - (i + 3)

            S : ℕ → Type 0
            S k = (k < w) × F (at t (i + 2 + k))

            d_s : (k : ℕ) → Dec (S k)
            d_s k = Dec-and (dec_lt k w) (fill.dec _)

            good : (k : ℕ) → S k → Empty (at t (i + 2 + k)) ⊎ Square (at t (i + 2 + k)) ⊎ Undecided (at t (i + 2 + k)) → Undecided (at t (i + 2 + k))
            good k (l, s) (inl z) = absurd (gap (i + 2 + k) (omega arith) (omega arith) z s)
            good k (l, s) (inr (inl q)) = absurd (pair.3 (i + 2 + k) (omega arith) (omega arith) q)
            good k (l, s) (inr (inr u)) = u

            inner : (p : ℕ) → suc p < j - suc i → F (at t (suc (i + suc p))) → Dec (p < w) → (k : ℕ) × (k < w) × S k × (suc p ≡ suc k)
            inner p l s (yes h) = (p, h, (h, subst (λ x. F (at t x)) (omega arith) s), refl)
            inner p l s (no h) = absurd (split (suc (i + suc p)) (omega arith) s (subst (λ x. F (at t x)) (omega arith) (all _ (here pair.2))))

            into : (k : ℕ) → k < j - suc i → F (at t (suc (i + k))) → (p : ℕ) × (p < w) × S p × (k ≡ suc p)
            into zero l s = absurd (split i (omega arith) lst (subst (λ x. F (at t x)) (omega arith) s))
            into (suc p) l s = inner p l s (dec_lt p w)

        pub reason_4b : e ≡ 1 → count (d_r (at t i)) (size G) + 1 + g < count (D.blk (at t j)) (size G) → ⊥
        reason_4b one h =
            let w = follows i j pair.0 jl lst (all _ (here pair.2)) in
            omega (
              arith,
              w.most one,
              few,
              count_mono (D.blk (at t j)) (fill.dec_block (at t j)) (size G) (λ c _ b. Linked-map all b),
              count_mono (fill.dec_block (at t i)) (d_r (at t i)) (size G) (λ c _ b. confined B D F rules.one (at t i) (on t i (omega (arith, pair.0))) pair.1 fence c b),
            )
