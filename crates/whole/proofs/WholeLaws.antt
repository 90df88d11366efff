-- Parts that make up the whole: it is finished exactly when each of them is, in any edition.
-- Assumes nothing.
use Prim.Native.Nat.{ℕ, ◌≤◌, ◌<◌}
use native.Mathlib.Omega.{arith}
use mathlib.Core.Logic.{◌↔◌, ◌⊎◌, inl, inr}
use mathlib.Core.Path.{◌≡◌, sym, ap, subst, ◌∙◌}
use mathlib.Core.Bool.{true, So}
use mathlib.Core.List.Memᴰ
use mathlib.Core.List.{List}
use lib.ListN.{get_or}
use borrow.Author.Tests.{eqb-true}
use Rattle.grid.specs.Grid.{size}
use Rattle.grid.specs.Cells.{square}
use Rattle.grid.proofs.CellLaws.{square_below}
use Rattle.record.specs.Record.{Puzzle}
use Rattle.record.specs.Leaf.{in_edition}
use Rattle.groups.specs.Rules.{Grown, SameBlock, OneArrowCell, Next}
use Rattle.finished.specs.Finished.{TwoSquares, Finished}
use Rattle.whole.specs.Whole.{Whole}
use Rattle.whole.proofs.PartLaws.{same_square, one_to, Grown-at, two_to, Finished-from}

module _ {A : Type 0} {p : A → Puzzle} {q : Puzzle} {f : A → ℕ → ℕ} {cells : A → List ℕ} {cells' : List ℕ} (W : Whole p q f cells cells') where
  -- a square is a part's
  square_part : (j : ℕ) → j < size q.grid → So (square cells' j) → (s : A) × (i : ℕ) × (i < size (p s).grid) × (f s i ≡ j)
  unfolding square
  square_part j l s = go (W.covers j l)
    where
      go : ((s : A) × (i : ℕ) × (i < size (p s).grid) × (f s i ≡ j)) ⊎ ((get_or q.given j 0 ≡ 1) × (get_or cells' j 0 ≡ 0)) → (s : A) × (i : ℕ) × (i < size (p s).grid) × (f s i ≡ j)
      go (inl r) = r
      go (inr z) = absurd (omega (arith, z.1, eqb-true (get_or cells' j 0) 1 s))

  -- the whole is finished where each part is
  pub Finished-whole : (e : ℕ) → ((s : A) → Finished (in_edition e (p s)) (cells s)) → Finished (in_edition e q) cells'
  Finished-whole e F = record {
    decided = record { long = W.total; each = λ j l. each j (W.covers j l) };
    kept = record { black = λ j l e. black j e (W.covers j l); given = λ j l e. given j e (W.covers j l) };
    rules = record { one = λ j l s. one j s (square_part j l s); grown = grow; sized = λ r m _. absurd (Memᴰ.not-nil m) };
    two = λ b m. let r = W.whose b m in subst (TwoSquares cells') (sym r.3) (two_to (W.part r.0) r.1 r.2 ((F r.0).two r.1 r.2));
  }
    where
      Covered : ℕ → Type 0
      Covered j = (s : A) × (i : ℕ) × (i < size (p s).grid) × (f s i ≡ j)

      Left : ℕ → Type 0
      Left j = (get_or q.given j 0 ≡ 1) × (get_or cells' j 0 ≡ 0)

      each : (j : ℕ) → Covered j ⊎ Left j → get_or cells' j 0 ≤ 1
      each j (inl (s, i, l, k)) = rw (← k, (W.part s).states i l) ((F s).decided.each i l)
      each j (inr z) = omega (arith, z.1)

      black : (j : ℕ) → get_or q.given j 0 ≡ 1 → Covered j ⊎ Left j → get_or cells' j 0 ≡ 0
      black j c (inl (s, i, l, z)) = ap (λ (k : ℕ). get_or cells' k 0) (sym z) ∙ (W.part s).states i l ∙ (F s).kept.black i l (sym ((W.part s).codes i l) ∙ ap (λ (k : ℕ). get_or q.given k 0) z ∙ c)
      black j c (inr z) = z.1

      given : (j : ℕ) → get_or q.given j 0 ≡ 2 → Covered j ⊎ Left j → get_or cells' j 0 ≡ 1
      given j c (inl (s, i, l, z)) = ap (λ (k : ℕ). get_or cells' k 0) (sym z) ∙ (W.part s).states i l ∙ (F s).kept.given i l (sym ((W.part s).codes i l) ∙ ap (λ (k : ℕ). get_or q.given k 0) z ∙ c)
      given j c (inr z) = absurd (omega (arith, z.0))

      one : (j : ℕ) → square cells' j ≡ true → Covered j → OneArrowCell q cells' j
      one j s (t, i, l, z) = subst (OneArrowCell q cells') z (one_to (W.part t) i l ((F t).rules.one i l (sym (same_square (W.part t) i l) ∙ ap (square cells') z ∙ s)))

      grow' : (i j : ℕ) → Next q cells' i j → Covered i → Grown e q.grid (SameBlock q.grid cells' i) (SameBlock q.grid cells' j)
      grow' i j c (s, k, l, z) =
          let c' = subst (λ x. Next q cells' x j) (sym z) c in
          subst (λ x. Grown e q.grid (SameBlock q.grid cells' x) (SameBlock q.grid cells' j)) z (Grown-at (W.part s) (F s).rules k j l c')

      grow : (i j : ℕ) → Next q cells' i j → Grown e q.grid (SameBlock q.grid cells' i) (SameBlock q.grid cells' j)
      grow i j c =
          let l : i < size q.grid = omega (arith, W.total, square_below cells' i c.first) in
          grow' i j c (square_part i l c.first)

  -- a whole is finished exactly when each of its parts is
  pub whole_Finished : (e : ℕ) → Finished (in_edition e q) cells' ↔ ((s : A) → Finished (in_edition e (p s)) (cells s))
  whole_Finished e = (λ F s. Finished-from (W.part s) F, Finished-whole e)
