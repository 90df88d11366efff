-- On a full board where no reason of an edition applies its block rules hold.
-- Assumes nothing.
use Prim.Native.Nat.{ℕ, ◌+◌, ◌<◌}
use mathlib.Core.Path.{◌≡◌}
use mathlib.Core.Logic.{◌⊎◌, inl, inr, ◌≢◌}
use native.Mathlib.Decide.{ℕ_discrete}
use native.Mathlib.Omega.{arith}
use Rattle.grid.specs.Grid.{Grid, size}
use Rattle.grid.specs.Link.{Linked}
use Rattle.grid.proofs.LinkLaws.{Linked-end, Linked-map}
use Rattle.grid.specs.Count.{count}
use Rattle.grid.proofs.Count.{Dec-and, Dec-some, count_mono}
use Rattle.groups.proofs.ArrowLaws.{NextAt}
use Rattle.groups.specs.Rules.{Shift, Grown, Contains, Below}
use Rattle.groups.proofs.Shift.{size-Grown}
use Rattle.kinds.specs.Meaning.{PartialBoard, Block, Reach}
use Rattle.kinds.proofs.Confine.{Decide}
use Rattle.reasons.proofs.Refute.{Arrows, Rules}

module _ (e : ℕ) (B : PartialBoard) (G : Grid) (A : Arrows B) (D : Decide B) (d_r : (a c : ℕ) → Dec (Reach B a c)) where
  open B use {Adj, Arrow, Empty, Square, Undecided}
  open A use {Which, len, at, on, side, once}

  -- no reason applies
  pub record Quiet : Type 0 where
    pub q1 : (s : ℕ) → Square s → ¬ ((c : ℕ) → Linked Adj (λ k. ¬ Empty k) s c → ¬ Arrow c)
    pub q2 : (a b : ℕ) → Arrow a → Arrow b → a ≢ b → ¬ Block B a b
    pub q3 : (t : Which) (i j : ℕ) → j < len t → NextAt Square (at t) i j → (s : Shift) × Contains G s (Block B (at t i)) (Reach B (at t j))
    pub q4a : (t : Which) (i j : ℕ) → j < len t → NextAt Square (at t) i j → ¬ (count (d_r (at t j)) (size G) < count (D.blk (at t i)) (size G) + 1)
    pub q4b : e ≡ 1 → (t : Which) (i j : ℕ) → j < len t → NextAt Square (at t) i j → ¬ (count (d_r (at t i)) (size G) + 1 < count (D.blk (at t j)) (size G))

  module _ (d_a : (c : ℕ) → Dec (Arrow c)) (below : Below G Square) (full : (c : ℕ) → ¬ Undecided c) where
    low : (a : ℕ) → Below G (Block B a)
    low a c l = below c (Linked-end l)

    Reach-blk : (a c : ℕ) → Reach B a c → Block B a c
    Reach-blk a c (inl b) = b
    Reach-blk a c (inr (inl m)) = absurd (full c m.0)
    Reach-blk a c (inr (inr (m, f, nb, _, _))) = absurd (full m nb.0)

    solid : (c : ℕ) → ¬ Empty c → Empty c ⊎ Square c ⊎ Undecided c → Square c
    solid c h (inl z) = absurd (h z)
    solid c h (inr (inl s)) = s
    solid c h (inr (inr u)) = absurd (full c u)

    -- a reach has no cell that its block has not
    pub full_reach : (a : ℕ) → count (d_r a) (size G) ≡ count (D.blk a) (size G)
    full_reach a = omega (arith, count_mono (d_r a) (D.blk a) (size G) (λ c _. Reach-blk a c), count_mono (D.blk a) (d_r a) (size G) (λ c _ b. inl b))

    -- where no reason applies the rules hold
    pub Quiet-Rules : Quiet → Rules e Adj Arrow G Which len at Square
    Quiet-Rules q = record { has = has; one = λ d e ad ae l. same d e ad ae l (ℕ_discrete d e); grow = grow }
      where
        has : (c : ℕ) → Square c → (d : ℕ) × Arrow d × Block B c d
        has c s = go (Dec-some (λ d. Dec-and (d_a d) (D.blk c d)) (size G))
          where
            go : Dec ((d : ℕ) × (d < (size G)) × (Arrow d × Block B c d)) → (d : ℕ) × Arrow d × Block B c d
            go (yes (d, _, (a, l))) = (d, a, l)
            go (no h) = absurd (q.q1 c s (λ d l ad.
                let b : Block B c d = Linked-map (λ x k. solid x (Linked-end k) (D.cases x)) l in h (d, low c d b, (ad, b))))

        same : (d e : ℕ) → Arrow d → Arrow e → Block B d e → Dec (d ≡ e) → d ≡ e
        same d e ad ae l (yes z) = z
        same d e ad ae l (no ne) = absurd (q.q2 d e ad ae ne l)

        grow : (t : Which) (i j : ℕ) → j < len t → NextAt Square (at t) i j → Grown e G (Block B (at t i)) (Block B (at t j))
        grow t i j jl p =
            let w = q.q3 t i j jl p in
            size-Grown G (D.blk (at t i)) (D.blk (at t j)) (low _) (low _) e w.0
            (λ c b. let u = w.1 c b in (u.0, Reach-blk _ _ u.1, u.2))
            (omega (arith, q.q4a t i j jl p, full_reach (at t j)))
            (λ h. omega (arith, q.q4b h t i j jl p, full_reach (at t i)))
