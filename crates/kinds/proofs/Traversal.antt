-- The recursive walk over a floating group: no code is named here.
-- Assumes nothing.
use Prim.Native.Nat.{ℕ, ◌≤◌, ◌<◌}
use native.Mathlib.Omega.{arith}
use mathlib.Core.Bool.{Bool, So}
use mathlib.Core.Path.{◌≡◌, refl, ◌∙◌}
use mathlib.Core.Logic.{◌⊎◌, inl, inr}
use mathlib.Core.List.Memᴰ
use mathlib.Core.List.{List, [], ◌∷◌, ◌++◌, Memᴰ}
use lib.ListN.{get_or, set, length-set}
use lib.Seq.{get_or-set_same, get_or-set_other}
use Rattle.grid.specs.Grid.{Grid, neighbours, Adjacent}
use Rattle.grid.specs.Link.{here, step}
use Rattle.grid.proofs.LinkLaws.{Linked-start, Linked-trans}
use Rattle.grid.proofs.ListLaws.{place_in}
use Rattle.grid.proofs.AppendLaws.{by_eq}
use Rattle.groups.specs.Flood.{free, Kept, same, new, Shut, Added, Walked}
use Rattle.groups.proofs.LabellingLaws.{Kept-still, Kept-set, Kept-then}
use Rattle.kinds.specs.Inside.{unnamed}

-- amid the walk from i: ks are the neighbours walked from
pub record Turn (g : Grid) (p : ℕ → Bool) (i s : ℕ) (L₀ L ks : List ℕ) : Type 0 where
  pub added : Added g p i s L₀ L
  pub fewer : free L ≤ free L₀
  pub past : (k : ℕ) → Memᴰ k ks → So (p k) → get_or L k 0 ≡ unnamed → ⊥

module _ {g : Grid} {p : ℕ → Bool} {s : ℕ} (small : s < 1024) where
  -- a name that is there stays
  Added-stays : {i : ℕ} {L L' : List ℕ} → Added g p i s L L' → (k : ℕ) → (get_or L k 0 ≡ unnamed → ⊥) → get_or L' k 0 ≡ unnamed → ⊥
  Added-stays A k h x = h (Kept-still (A.kept k) x)

  Added-none : {i : ℕ} {L : List ℕ} → Added g p i s L L
  Added-none = record { long = refl; kept = λ j. same refl; done = λ j u v. omega (arith, u, v) }

  Added-then : {i : ℕ} {L L₁ L₂ : List ℕ} → Added g p i s L L₁ → Added g p i s L₁ L₂ → Added g p i s L L₂
  Added-then {i} {L} {L₁} {L₂} A H = record { long = H.long ∙ A.long; kept = λ j. Kept-then (A.kept j) (H.kept j); done = λ j u x. by j u x (A.kept j) }
    where
      by : (j : ℕ) → get_or L j 0 ≡ unnamed → get_or L₂ j 0 ≡ s → Kept g p i s L L₁ j → Shut g p L₂ j
      by j u x (same v) = H.done j (v ∙ u) x
      by j u x (new u' v n) = λ k e o. Added-stays H k (A.done j u v k e o)

  -- a walk from a neighbour of i is a part of the walk from i
  Added-near : {i k : ℕ} {L L' : List ℕ} → So (p i) → Adjacent g i k → Added g p k s L L' → Added g p i s L L'
  Added-near {i} {k} {L} {L'} o e A = record { long = A.long; kept = λ j. go j (A.kept j); done = A.done }
    where
      go : (j : ℕ) → Kept g p k s L L' j → Kept g p i s L L' j
      go j (same v) = same v
      go j (new u v n) = new u v (Linked-trans (step (here o) e (Linked-start n)) n)

  -- nothing is done where i does not pass, or has a name
  pub Walked-not : {i : ℕ} {L : List ℕ} → (So (p i) → get_or L i 0 ≡ unnamed → ⊥) → Walked g p i s L L
  Walked-not h = record { added = Added-none; seed = h }

  -- the neighbours in turn
  pub Turn-none : {i : ℕ} {L : List ℕ} → Turn g p i s L L []
  Turn-none = record { added = Added-none; fewer = omega arith; past = λ k m. absurd (Memᴰ.not-nil m) }

  pub Turn-more : {i k : ℕ} {L₀ L L' ks : List ℕ} → So (p i) → Adjacent g i k → Walked g p k s L L' → free L' ≤ free L → Turn g p i s L₀ L ks → Turn g p i s L₀ L' (ks ++ (k ∷ []))
  Turn-more {i} {k} {L₀} {L} {L'} {ks} o e W le Q = record { added = Added-then Q.added A; fewer = omega (arith, Q.fewer, le); past = λ j m oj. by j oj (Memᴰ.append_cases ks m) }
    where
      A : Added g p i s L L'
      A = Added-near o e W.added

      by : (j : ℕ) → So (p j) → Memᴰ j ks ⊎ Memᴰ j (k ∷ []) → get_or L' j 0 ≡ unnamed → ⊥
      by j oj (inl m) = Added-stays A j (Q.past j m oj)
      by j oj (inr m) = let q : j ≡ k = Memᴰ.eq_of_singleton m in rw q (W.seed (rw q at oj))

  -- the cell i itself, and then its neighbours
  pub Turn-all : {i : ℕ} {L L' : List ℕ} → So (p i) → get_or L i 0 ≡ unnamed → Turn g p i s (set L i s) L' (neighbours g i) → Walked g p i s L L'
  Turn-all {i} {L} {L'} o u Q = record {
    added = record {
      long = A.long ∙ length-set L i s;
      kept = λ j. Kept-then (Kept-set u (here o) j) (A.kept j);
      done = λ j v x. by_eq j i (λ q. rw q (λ k e. Q.past k e.1)) (λ ne. A.done j (get_or-set_other L i j s 0 ne ∙ v) x);
    };
    seed = λ _. Added-stays A i (λ e. omega (arith, e, get_or-set_same L i s 0 (place_in L i (omega arith))));
  }
    where
      A : Added g p i s (set L i s) L'
      A = Q.added
