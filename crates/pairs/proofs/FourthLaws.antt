-- Reason 4 in an edition, by what (a) and (b) find.
-- Assumes nothing.
use Prim.Native.Nat.{ℕ}
use mathlib.Core.Path.{◌≡◌, refl}
use mathlib.Core.List.{List}
use mathlib.Core.Option.{none, some}
use borrow.Author.Tests.{eq-eqb, ne_eqb}
use Rattle.std.specs.Prelude.{Option, Some, None}
use Rattle.groups.specs.Arrows.{Pair}
use Rattle.kinds.specs.Kinds.{View}
use Rattle.growth.specs.Growth.{reason4a_at, reason4b_at, reason4_at}
use Rattle.literals.specs.Inside.{FoundAs}
use Rattle.literals.specs.Literals.{Found, or_else}
use Rattle.literals.proofs.Findings.{found_first, found_next}

module _ (e : ℕ) (v : View) (p : Pair) {b a : List ℕ} where
  -- in another edition than 1 it is (a)
  pub is_growth : {r : Option ℕ} → (e ≡ 1 → ⊥) → FoundAs (reason4a_at v p) b a r → FoundAs (reason4_at v p e) b a r
  unfolding reason4_at or_else
  is_growth n x = rw (ne_eqb e 1 n, or_none (reason4a_at v p)) x
    where
      or_none : (f : Found) → or_else f none ≡ f
      or_none none = refl
      or_none (some r) = refl

  -- in either it is (a) where that finds a reason
  pub growth_first : {k : ℕ} → FoundAs (reason4a_at v p) b a (Some k) → FoundAs (reason4_at v p e) b a (Some k)
  unfolding reason4_at
  growth_first x = found_first _ _ x

  -- in edition 1 it is (b) where (a) finds none
  pub gap_next : {r : Option ℕ} {c : List ℕ} → e ≡ 1 → FoundAs (reason4a_at v p) b c None → FoundAs (reason4b_at v p) c a r → FoundAs (reason4_at v p e) b a r
  unfolding reason4_at
  gap_next y x z = rw (eq-eqb e 1 y) (found_next _ _ x z)
