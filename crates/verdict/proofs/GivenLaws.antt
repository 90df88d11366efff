-- Where a reason is given: by the first of two, by the first of a list, where a test passes.
-- Assumes nothing.
use Prim.Native.Nat.{ℕ, ◌<◌}
use native.Mathlib.Omega.{arith}
use mathlib.Core.Logic.{◌↔◌, ◌⊎◌, inl, inr}
use mathlib.Core.Path.{◌≡◌, refl}
use mathlib.Core.Bool.{Bool, So, cond, true, false}
use mathlib.Core.List.{List, Memᴰ}
use mathlib.Core.Option.{none, some}
use lib.Dec.{eqb, ltb}
use borrow.Author.Tests.{eqb-true, eq-eqb, ltb-true, lt-ltb}
use Rattle.grid.specs.Cells.{Literal}
use Rattle.literals.specs.Literals.{Found, or_else, reason_if, first_found_of}
use Rattle.reasons.proofs.First.{or_else-some, or_else-none, first_some, first_none, reason_if-some, reason_if-none}
use Rattle.verdict.specs.Applies.{Given}

-- a reason is given where it can't be that there is none
pub Given-not : (f : Found) → ¬ (f ≡ none) → Given f
Given-not none h = absurd (h refl)
Given-not (some r) h = (r, refl)

-- no reason is one
pub none_not : {f : Found} → f ≡ none → ¬ Given f
none_not e (r, d) = let z : ◌≡◌ {A = ℕ} 0 1 = cc in omega arith

-- so none is given exactly where no reason is
pub none-Given : (f : Found) {X : Type 0} → Given f ↔ X → (f ≡ none) ↔ (¬ X)
none-Given none w = (λ e x. none_not e (w.1 x), λ h. refl)
none-Given (some r) w = (λ e x. none_not e (r, refl), λ h. absurd (h (w.0 (r, refl))))

-- by the first of two, or by the second
pub Given-or : (f h : Found) {X Y : Type 0} → Given f ↔ X → Given h ↔ Y → Given (or_else f h) ↔ (X ⊎ Y)
Given-or f h {X} {Y} x y = (
  λ (r, e). or_else-some f h r e (λ k. inl (x.0 (r, k))) (λ k. inr (y.0 (r, k))),
  λ w. Given-not (or_else f h) (λ e. let n = or_else-none f h e in pick n w),
)
  where
    pick : (f ≡ none) × (h ≡ none) → X ⊎ Y → ⊥
    pick n (inl a) = none_not n.0 (x.1 a)
    pick n (inr b) = none_not n.1 (y.1 b)

-- by some member of a list
pub Given-first : {A : Type 0} (f : A → Found) (l : List A) → Given (first_found_of f l) ↔ ((x : A) × Memᴰ x l × Given (f x))
Given-first f l = (
  λ (r, e). let w = first_some f l r e in (w.0, w.1, (r, w.2)),
  λ (x, m, g). Given-not (first_found_of f l) (λ e. none_not (first_none f l e m) g),
)

-- where a test passes
pub Given-if : (b : Bool) (s : List Literal) → Given (reason_if b s) ↔ So b
Given-if b s = (λ (r, e). (reason_if-some b s r e).0, λ t. Given-not (reason_if b s) (λ e. reason_if-none b s e t))

-- where a is less than b
pub Given-less : (a b : ℕ) (s : List Literal) → Given (reason_if (ltb a b) s) ↔ (a < b)
Given-less a b s = let w = Given-if (ltb a b) s in (λ g. ltb-true a b (w.0 g), λ h. w.1 (lt-ltb a b h))

-- in edition 1
pub Given-one : (e : ℕ) (f : Found) → Given (cond (eqb e 1) f none) ↔ ((e ≡ 1) × Given f)
Given-one e f = go (eqb e 1) refl
  where
    go : (t : Bool) → eqb e 1 ≡ t → Given (cond t f none) ↔ ((e ≡ 1) × Given f)
    go true z = (λ g. (eqb-true e 1 z, g), λ w. w.1)
    go false z = (λ g. absurd (none_not refl g), λ w. absurd (let y : ◌≡◌ {A = ℕ} 0 1 = cc (eq-eqb e 1 w.0) in omega arith))
